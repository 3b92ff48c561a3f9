-- 01, What to write where: "When an answer is an enum, a definition gives this paper's number and
-- values for each of its cases." Of a note and of a list that were sent; the number is `number_in`.
-- Assumes nothing.
use Rattle.std.specs.Prelude.{ℕ, Result, Ok, Err}
use Rattle.common.specs.declared.Refusal.{Refusal}
use Rattle.told.specs.declared.Gone.{Gone}
use Rattle.told.specs.declared.Total.{Total}

abbrev pub told_zeros : Result Gone Refusal → ℕ
told_zeros (Ok gone) = gone.zeros
told_zeros (Err k) = 0

abbrev pub told_ticks : Result Gone Refusal → ℕ
told_ticks (Ok gone) = gone.ticks
told_ticks (Err k) = 0

abbrev pub listed_notes : Result Total Refusal → ℕ
listed_notes (Ok total) = total.notes
listed_notes (Err k) = 0

abbrev pub listed_ticks : Result Total Refusal → ℕ
listed_ticks (Ok total) = total.ticks
listed_ticks (Err k) = 0
