-- 01, What to write where: "When an answer is an enum, a definition gives this paper's number and
-- values for each of its cases." Those of a note and of a list that were sent are the report's.
-- Assumes nothing.
pub use Rattle.told.specs.Answers.{told_zeros, told_ticks, listed_notes, listed_ticks}
