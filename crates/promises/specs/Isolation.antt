-- 01, Interrupts: "Events on B never change A's line, data, RR1 or RR0 but D1, nor the reverse;
-- interrupts and hard reset are shared." What is an event on a channel, what of a channel the
-- sentence speaks of, and what else may stay as it was. Assumes nothing.
use Rattle.std.specs.Prelude.{◌≡◌, false, ℕ}
use Rattle.channel.specs.declared.Answer.{Answer}
use Rattle.channel.specs.declared.Channel.{Channel}
use Rattle.channel.specs.Answer.{answer_value}
use Rattle.channel.specs.Control.{rr0, rr1_now}
use Rattle.channel.specs.Events.{data_read, transmit_tick}
use Rattle.chip.specs.declared.Chip.{Chip}
use Rattle.chip.specs.Interrupts.{in_service}
use Rattle.chip.specs.Event.{Event, ControlWrite, ControlRead, DataWrite, DataRead}
use Rattle.chip.specs.Event.{Transmit, Receive, SetLines}

-- an event on the channel of this number
pub data On (ch : ℕ) : Event → Type 0 where
  control_write_lem : (v : ℕ) → On ch (ControlWrite ch v)
  control_read_lem : On ch (ControlRead ch)
  data_write : (v : ℕ) → On ch (DataWrite ch v)
  data_read_lem : On ch (DataRead ch)
  transmit : On ch (Transmit ch)
  receive : (bit : ℕ) → On ch (Receive ch bit)
  set_lines : (dcd cts : ℕ) → On ch (SetLines ch dcd cts)

-- "line": the bit that the next transmit tick gives
abbrev pub next_bit : Channel → ℕ
next_bit c = answer_value (transmit_tick c).answer

-- "data": what the next data read answers, a byte or that nothing waits
abbrev pub next_read : Channel → Answer
next_read c = (data_read c).answer

-- "RR0 but D1": D1, which is the chip's, set aside
abbrev pub rr0_but_d1 : Channel → ℕ
rr0_but_d1 c = rr0 c false

-- "line, data, RR1 or RR0 but D1"
abbrev pub Same : Channel → Channel → Type 0
Same is was =
    (next_bit is ≡ next_bit was) × (next_read is ≡ next_read was)
    × (rr1_now is ≡ rr1_now was) × (rr0_but_d1 is ≡ rr0_but_d1 was)

abbrev pub SameChip : Chip → Chip → Type 0
SameChip is was = Same is.a was.a × Same is.b was.b

-- a chip as it was, but for its sources in service
abbrev pub ServiceAlone : Chip → Chip → Type 0
ServiceAlone is was = is ≡ in_service was is.service
