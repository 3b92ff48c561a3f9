-- 01, Events: "Hard reset; control write, control read, data write, data read; transmit tick ..;
-- receive tick ..; set DCD and CTS; acknowledge; RETI." An event with what it is given, and what
-- it makes of a chip. Assumes nothing.
use Rattle.std.specs.Prelude.{List, [], ◌∷◌, ℕ}
use Rattle.common.specs.declared.Refusal.TheVariants as refusal
use Rattle.vector.specs.declared.Acked.{Acked}
use Rattle.vector.specs.declared.Acked.TheVariants.{Vector, NothingWaits}
use Rattle.channel.specs.declared.Answer.{Answer}
use Rattle.channel.specs.declared.Answer.TheVariants.{Done, Gave, Refused}
use Rattle.chip.specs.declared.Chip.{Chip}
use Rattle.chip.specs.declared.Outcome.{Outcome}
use Rattle.chip.specs.Interrupts.{acknowledge, reti}
use Rattle.chip.specs.Chip.{outcome, hard_reset, control_write, control_read_call}
use Rattle.chip.specs.Chip.{data_write_call, data_read_call, transmit_call, receive_call, lines_call}

-- channels, bytes and line levels are numbers as the caller gives them
pub data Event : Type 0 where
  HardReset : Event
  ControlWrite : (ch v : ℕ) → Event
  ControlRead : (ch : ℕ) → Event
  DataWrite : (ch v : ℕ) → Event
  DataRead : (ch : ℕ) → Event
  Transmit : (ch : ℕ) → Event
  Receive : (ch bit : ℕ) → Event
  SetLines : (ch dcd cts : ℕ) → Event
  Acknowledge : Event
  Reti : Event

-- "An acknowledge answers with a vector byte or with the refusal that nothing waits."
abbrev pub acked_answer : Acked → Answer
acked_answer (Vector v) = Gave v
acked_answer NothingWaits = Refused refusal.NothingWaits

-- "Every call takes the chip as it stands and hands it back."
abbrev pub step : Chip → Event → Outcome
step c HardReset = outcome Done hard_reset
step c (ControlWrite ch v) = control_write c ch v
step c (ControlRead ch) = control_read_call c ch
step c (DataWrite ch v) = data_write_call c ch v
step c (DataRead ch) = data_read_call c ch
step c (Transmit ch) = transmit_call c ch
step c (Receive ch bit) = receive_call c ch bit
step c (SetLines ch dcd cts) = lines_call c ch dcd cts
step c Acknowledge = outcome (acked_answer (acknowledge c).acked) (acknowledge c).chip
step c Reti = outcome Done (reti c)

-- a register of a channel written: WR0 takes its number, then it its value
abbrev pub set : ℕ → ℕ → ℕ → List Event
set ch wr v = ControlWrite ch wr ∷ ControlWrite ch v ∷ []
