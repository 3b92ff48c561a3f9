-- 01, Events: the calls of the chip, each with its refusals. "The lowest number wins for a chip
-- call (1, 2, 3)"; 02, P5: 10 "after 1". Assumes nothing.
use Rattle.std.specs.Prelude.{false, ℕ, eqb, if◌then◌else◌}
use Rattle.common.specs.declared.Refusal.{Refusal}
use Rattle.common.specs.declared.Refusal.TheVariants as refusal
use Rattle.interrupts.specs.Interrupts.{no_six}
use Rattle.channel.specs.declared.Side.TheVariants.{A, B}
use Rattle.channel.specs.declared.Answer.{Answer}
use Rattle.channel.specs.declared.Answer.TheVariants.{Done, Refused}
use Rattle.channel.specs.declared.Answered.{Answered}
use Rattle.channel.specs.declared.Channel.{Channel}
use Rattle.channel.specs.Channel.{answered, reset_with}
use Rattle.channel.specs.Control.{control_written, control_read}
use Rattle.channel.specs.Events.{data_written, data_read, transmit_tick}
pub use Rattle.channel.specs.Events.{on_level, receive_in, lines_in}
pub use Rattle.reading.specs.Both.{ends_service, resets}
use Rattle.reading.specs.Both.{service_under_a, service_under_b}
use Rattle.chip.specs.declared.Chip.{Chip}
use Rattle.chip.specs.declared.Outcome.{Outcome}
use Rattle.chip.specs.Interrupts.{chip, with_a, with_b, in_service, any_pending, rr2}

-- What a call hands back

abbrev pub outcome : Answer → Chip → Outcome
outcome w c = record { answer = w; chip = c }

-- "A refusal changes nothing, .. and returns only its number."
abbrev pub refused : Chip → Refusal → Outcome
refused c k = outcome (Refused k) c

-- the answer of a channel's event, with that channel put back
abbrev pub in_a : Chip → Answered → Outcome
in_a c r = outcome r.answer (with_a c r.channel)

abbrev pub in_b : Chip → Answered → Outcome
in_b c r = outcome r.answer (with_b c r.channel)

abbrev pub put : Chip → ℕ → Answered → Outcome
put c ch r = if eqb ch 0 then in_a c r else in_b c r

-- 1: "channel above 1"; each call by its channel
abbrev pub by_channel : Chip → ℕ → Outcome → Outcome → Outcome
by_channel c ch a b =
    if eqb ch 0 then a else (if eqb ch 1 then b else refused c refusal.Channel)

-- a call that both channels know alike
abbrev pub in_channel : Chip → ℕ → (Channel → Answered) → Outcome
in_channel c ch call = by_channel c ch (in_a c (call c.a)) (in_b c (call c.b))

-- "A hard reset is that for both, with DCD and CTS off."
abbrev pub hard_reset : Chip
hard_reset =
    chip (reset_with (record { dcd = false; cts = false }))
    (reset_with (record { dcd = false; cts = false })) no_six

-- Control writes and reads

-- WR0's command 7 ends a source in service, and a channel reset those of its channel
unfoldable pub control_write_a : Chip → ℕ → Outcome
control_write_a c v =
    in_a (in_service c (service_under_a c.a c.service v)) (control_written c.a A v)

unfoldable pub control_write_b : Chip → ℕ → Outcome
control_write_b c v =
    in_b (in_service c (service_under_b c.b c.service v)) (control_written c.b B v)

unfoldable pub control_write : Chip → ℕ → ℕ → Outcome
control_write c ch v = by_channel c ch (control_write_a c v) (control_write_b c v)

-- RR0 "D1 any source pending (A; 0 in B)"; "RR2: vector, B"
unfoldable pub control_read_call : Chip → ℕ → Outcome
control_read_call c ch =
    by_channel c ch (in_a c (control_read c.a (any_pending c) 0))
    (in_b c (control_read c.b false (rr2 c)))

-- Data

abbrev pub data_write_in : Channel → ℕ → Answered
data_write_in c v = answered Done (data_written c v)

unfoldable pub data_write_call : Chip → ℕ → ℕ → Outcome
data_write_call c ch v = in_channel c ch (λ x. data_write_in x v)

-- 02, P5: a data read says "nothing waits" apart from a byte 0
unfoldable pub data_read_call : Chip → ℕ → Outcome
data_read_call c ch = in_channel c ch data_read

-- Ticks and lines

unfoldable pub transmit_call : Chip → ℕ → Outcome
transmit_call c ch = in_channel c ch transmit_tick

unfoldable pub receive_call : Chip → ℕ → ℕ → Outcome
receive_call c ch bit = in_channel c ch (λ x. receive_in x bit)

unfoldable pub lines_call : Chip → ℕ → ℕ → ℕ → Outcome
lines_call c ch dcd cts = in_channel c ch (λ x. lines_in x dcd cts)
