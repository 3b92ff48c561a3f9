-- 01, What to write where: "When an answer is an enum, a definition gives this paper's number and
-- values for each of its cases." Of a count of zeros, and of a line written; the number is
-- `number_in`'s. Assumes nothing.
use Rattle.std.specs.Prelude.{ℕ, Result}
use Rattle.common.specs.declared.Refusal.{Refusal}
use Rattle.common.specs.Refusal.{value_in}

-- the zeros inserted
abbrev pub counted_zeros : Result ℕ Refusal → ℕ
counted_zeros = value_in
