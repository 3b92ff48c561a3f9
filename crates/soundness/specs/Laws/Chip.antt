-- A hard reset gives what a history gives, and every event keeps it. Assumes nothing.
use Rattle.std.proofs.Math.Bool.{false}
use Rattle.std.specs.Prelude.{◌||◌, ℕ, eqb, leb}
use Rattle.common.specs.Tools.{if_elim}
use Rattle.channel.specs.declared.Side.TheVariants.{A, B}
use Rattle.channel.specs.declared.Channel.{Channel}
use Rattle.channel.specs.declared.Answered.{Answered}
use Rattle.channel.specs.Events.{data_read, transmit_tick}
use Rattle.soundness.specs.Channel.{SoundChannel}
use Rattle.soundness.specs.Laws.Channel.{reset_sound, control_write_sound, control_read_sound}
use Rattle.soundness.specs.Laws.Channel.{data_write_sound, data_read_sound, transmit_sound}
use Rattle.soundness.specs.Laws.Channel.{receive_sound, lines_sound, SoundAnswered}
use Rattle.chip.specs.declared.Chip.{Chip}
use Rattle.chip.specs.declared.Outcome.{Outcome}
use Rattle.chip.specs.Interrupts.{any_pending, rr2, acknowledge, reti}
use Rattle.chip.specs.Chip.{hard_reset, by_channel, in_channel, on_level, control_write_a, control_write_b}
use Rattle.chip.specs.Chip.{control_write, control_read_call, data_write_in, data_write_call}
use Rattle.chip.specs.Chip.{data_read_call, transmit_call}
use Rattle.chip.specs.Chip.{receive_in, receive_call, lines_in, lines_call}
use Rattle.chip.specs.Event.{Event, HardReset, ControlWrite, ControlRead, DataWrite, DataRead}
use Rattle.chip.specs.Event.{Transmit, Receive, SetLines, Acknowledge, Reti, step}
use Rattle.soundness.specs.Chip.{SoundChip}

pub hard_reset_sound : SoundChip hard_reset
hard_reset_sound = (
  reset_sound (record { dcd = false; cts = false }),
  reset_sound (record { dcd = false; cts = false }),
)

-- The calls, each by its channel

abbrev SoundOutcome : Outcome → Type 0
SoundOutcome r = SoundChip r.chip

receive_in_lem : (c : Channel) (bit : ℕ) → SoundChannel c → SoundAnswered (receive_in c bit)
receive_in_lem c bit h = if_elim SoundAnswered (leb 2 bit) h (receive_sound c (on_level bit) h)

lines_in_lem : (c : Channel) (dcd cts : ℕ) → SoundChannel c → SoundAnswered (lines_in c dcd cts)
lines_in_lem c dcd cts h =
    if_elim SoundAnswered (leb 2 dcd || leb 2 cts) h
    (lines_sound c (on_level dcd) (on_level cts) h)

module _ (c : Chip) (h : SoundChip c) (ch : ℕ) where
  each : (a b : Outcome) → SoundOutcome a → SoundOutcome b → SoundOutcome (by_channel c ch a b)
  each a b p q =
      if_elim SoundOutcome (eqb ch 0) {x = a} p (if_elim SoundOutcome (eqb ch 1) {x = b} q h)

  alike : (call : Channel → Answered) → ((x : Channel) → SoundChannel x → SoundAnswered (call x))
      → SoundOutcome (in_channel c ch call)
  alike call k = each _ _ (k c.a h.0, h.1) (h.0, k c.b h.1)

  control_write_lem : (v : ℕ) → SoundOutcome (control_write c ch v)
  unfolding control_write control_write_a control_write_b
  control_write_lem v =
      each (control_write_a c v) (control_write_b c v)
      (control_write_sound c.a A v h.0, h.1)
      (h.0, control_write_sound c.b B v h.1)

  control_read_lem : SoundOutcome (control_read_call c ch)
  unfolding control_read_call
  control_read_lem =
      each _ _ (control_read_sound c.a (any_pending c) 0 h.0, h.1)
      (h.0, control_read_sound c.b false (rr2 c) h.1)

pub step_sound : (c : Chip) (e : Event) → SoundChip c → SoundChip (step c e).chip
unfolding data_write_call data_read_call transmit_call receive_call lines_call acknowledge reti
step_sound c HardReset h = hard_reset_sound
step_sound c (ControlWrite ch v) h = control_write_lem c h ch v
step_sound c (ControlRead ch) h = control_read_lem c h ch
step_sound c (DataWrite ch v) h = alike c h ch (λ x. data_write_in x v) (λ x. data_write_sound x v)
step_sound c (DataRead ch) h = alike c h ch data_read data_read_sound
step_sound c (Transmit ch) h = alike c h ch transmit_tick transmit_sound
step_sound c (Receive ch bit) h = alike c h ch (λ x. receive_in x bit) (λ x. receive_in_lem x bit)
step_sound c (SetLines ch dcd cts) h =
    alike c h ch (λ x. lines_in x dcd cts) (λ x. lines_in_lem x dcd cts)
step_sound c Acknowledge h = h
step_sound c Reti h = h
