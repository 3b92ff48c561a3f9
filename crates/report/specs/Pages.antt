-- 01, What to write where: "When an answer is an enum, a definition gives this paper's number and
-- values for each of its cases." Of the page timer; the number is `number_in`. Assumes nothing.
use Rattle.std.specs.Prelude.{ℕ, Result}
use Rattle.common.specs.declared.Refusal.{Refusal}
use Rattle.common.specs.Refusal.{value_in}

-- ticks in all
abbrev pub pages_ticks : Result ℕ Refusal → ℕ
pages_ticks = value_in
