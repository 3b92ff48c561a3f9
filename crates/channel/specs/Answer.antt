-- The paper's number of a call's refusal, 0 for none, and the value that it gives, 0 for none.
-- Assumes nothing.
use Rattle.std.specs.Prelude.{ℕ}
use Rattle.common.specs.Refusal.{number_of}
use Rattle.channel.specs.declared.Answer.{Answer}
use Rattle.channel.specs.declared.Answer.TheVariants.{Done, Gave, Refused}

abbrev pub answer_number : Answer → ℕ
answer_number Done = 0
answer_number (Gave v) = 0
answer_number (Refused k) = number_of k

abbrev pub answer_value : Answer → ℕ
answer_value Done = 0
answer_value (Gave v) = v
answer_value (Refused k) = 0
