-- Which notes have a line. Assumes nothing.
use Rattle.std.specs.Prelude.{Bool, not, ◌&&◌, ℕ, eqb, leb}

-- 01, refusal 6: "a note's length is 0 or above 2,048"
abbrev pub note_fits : ℕ → Bool
note_fits n = not (eqb n 0) && leb n 2048
