-- 01, What to write where: "When an answer is an enum, a definition gives this paper's number and
-- values for each of its cases." Of what stands at a place of a list, the number is `number_in`.
-- Assumes nothing.
use Rattle.std.specs.Prelude.{ℕ, Ok, Err, Some, None}
use Rattle.head.specs.NoteHead.{Head}

-- the note's bytes
abbrev pub head_bytes : Head → ℕ
head_bytes (Ok None) = 0
head_bytes (Ok (Some k)) = k
head_bytes (Err k) = 0
