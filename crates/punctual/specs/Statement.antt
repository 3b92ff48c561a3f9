-- Demand 3's host is one of all hosts. Proof: Punctual. Assumes nothing.
use Rattle.std.specs.Prelude.{◌≡◌, true, List, [], ◌∷◌, ℕ, ◌+◌, ◌-◌, ◌*◌, length}
use Rattle.line.specs.Frame.{zeros_of}
use Rattle.chip.specs.declared.Chip.{Chip}
use Rattle.chip.specs.Event.{Event}
use Rattle.stories.specs.Story.{Which, after}
use Rattle.stories.specs.Sent.{ticks}
use Rattle.timely.specs.Start.{Start}
use Rattle.timely.specs.InTime.{InTime}
use Rattle.hosts.specs.Loaded.{loaded, passed, closed, Host}

-- In time: what is loaded is what was written, and no flag passes. The eight-tick rule is one way
-- to be so
pub record Punctual (w : Which) (c : Chip) (st : List Event) (note : List ℕ) : Type 0 where
  pub host : Host w c st
  pub bytes : loaded w c st ≡ note
  pub none : passed w c st ≡ 0
  pub ended : closed w (after c st) ≡ true

abbrev pub InTimeLoads : Type 0
InTimeLoads = (w : Which) (c : Chip) (p v : ℕ) (vs : List ℕ) (st : List Event) → Start w c p
    → InTime w [] c (p - 1) (v ∷ vs) st
    → p + ticks w st ≡ 8 * (length (v ∷ vs) + 2) + 16 + zeros_of (v ∷ vs) → Punctual w c st (v ∷ vs)
