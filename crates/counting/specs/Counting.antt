-- What the count gives, for every note. Assumes nothing.
use Rattle.std.specs.Prelude.{◌≡◌, refl, List, ℕ, ◌≤◌, ltb, length, if◌then◌else◌}
use Rattle.std.proofs.Common.{le-ltb}
use Rattle.line.specs.Frame.{zeros_of}

-- the zeros inserted into a note's frame, 0 for a note that is too long to have one
unfoldable pub zeros_in : List ℕ → ℕ
zeros_in note = if ltb 2048 (length note) then 0 else zeros_of note

pub zeros_in_few : (note : List ℕ) → length note ≤ 2048 → zeros_in note ≡ zeros_of note
unfolding zeros_in
zeros_in_few note h = rw (le-ltb 2048 (length note) h) refl
