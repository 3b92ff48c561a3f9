-- 01, What to write where: "When an answer is an enum, a definition gives this paper's number and
-- values for each of its cases." Of a list that was looked through; the number is `number_in`.
-- Assumes nothing.
use Rattle.std.specs.Prelude.{ℕ, Result}
use Rattle.common.specs.declared.Refusal.{Refusal}
use Rattle.common.specs.Refusal.{value_in}

-- how many notes
abbrev pub scanned_notes : Result ℕ Refusal → ℕ
scanned_notes = value_in
