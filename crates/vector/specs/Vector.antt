-- 01, Interrupts and external status: the vector of a source, and what an acknowledge answers.
-- Assumes nothing.
use Rattle.std.specs.Prelude.{Bool, true, false, ℕ, ◌+◌, ◌*◌, ◌/◌, ◌%◌, Option, None, Some, if◌then◌else◌}
use Rattle.common.specs.Refusal.{number_of}
use Rattle.common.specs.declared.Refusal.TheVariants as refusal
use Rattle.interrupts.specs.declared.Source.{Source}
use Rattle.interrupts.specs.declared.Source.TheVariants.{AReceive, ATransmit, AExternal}
use Rattle.interrupts.specs.declared.Source.TheVariants.{BReceive, BTransmit, BExternal}
use Rattle.vector.specs.declared.Special.{Special}
use Rattle.vector.specs.declared.Acked.{Acked}
use Rattle.vector.specs.declared.Acked.TheVariants.{Vector, NothingWaits}

-- "Vector bits 3-1: B transmit 0, external 1, receive 2, special 3; A 4 to 7. RR2 with none
-- pending: 3."
unfoldable pub code_of : Option Source → Special → ℕ
code_of (Some AReceive) special = if special.a then 7 else 6
code_of (Some ATransmit) special = 4
code_of (Some AExternal) special = 5
code_of (Some BReceive) special = if special.b then 3 else 2
code_of (Some BTransmit) special = 0
code_of (Some BExternal) special = 1
code_of None special = 3

-- "D2 status affects vector"; "Status off: WR2."
unfoldable pub vector_of : ℕ → Bool → Option Source → Special → ℕ
vector_of wr2 affected source special =
    if affected then wr2 / 16 * 16 + code_of source special * 2 + wr2 % 2 else wr2

-- "An acknowledge answers with a vector byte or with the refusal that nothing waits."
abbrev pub acked_by : Bool → ℕ → Acked
acked_by true vector = Vector vector
acked_by false vector = NothingWaits

-- the paper's number and value of that answer
abbrev pub acked_number : Acked → ℕ
acked_number (Vector v) = 0
acked_number NothingWaits = number_of refusal.NothingWaits

abbrev pub acked_value : Acked → ℕ
acked_value (Vector v) = v
acked_value NothingWaits = 0
