-- WR0's command 3 makes a channel one that is just reset, with its lines as they were, and a hard
-- reset both, "with DCD and CTS off". Assumes nothing.
use Rattle.std.specs.Prelude.{◌≡◌, refl, false, ℕ}
use Rattle.settings.specs.declared.Lines.{Lines}
use Rattle.settings.specs.Settings.{command_in, mode_of, sending_of}
use Rattle.queue.specs.Queue as queues
use Rattle.interrupts.specs.declared.Six.{Six}
use Rattle.interrupts.specs.Interrupts.{no_sources, six}
use Rattle.channel.specs.declared.Channel.{Channel}
use Rattle.channel.specs.declared.Side.{Side}
use Rattle.channel.specs.declared.Side.TheVariants.{A, B}
use Rattle.channel.specs.Channel.{reset_with, live_of}
use Rattle.channel.specs.Control.{write_wr0, control_written, rr1_now}
use Rattle.channel.specs.Events.{pending_in, receive_pending, special_waits}
use Rattle.chip.specs.declared.Chip.{Chip}
use Rattle.reading.specs.Both.{service_under_a, service_under_b}
use Rattle.chip.specs.Chip.{control_write_a, control_write_b, control_write}
use Rattle.chip.specs.Event.{HardReset, ControlWrite, step}
use Rattle.effects.specs.Resets.{ResetChannel}

reset_so : (l : Lines) → ResetChannel l (reset_with l) no_sources
unfolding
    mode_of live_of rr1_now queues.rr1 queues.oldest sending_of pending_in receive_pending special_waits
    queues.special
reset_so l = record {
  registers = refl;
  buffer = refl;
  queue = refl;
  mode = refl;
  d6 = refl;
  d7 = refl;
  rr1 = refl;
  armed = refl;
  sent = refl;
  heard = refl;
  pending = refl;
  service = refl;
  unlatched = refl;
  pointer = refl;
  kept = refl;
}

reset_is : (c : Channel) (w : Side) (v : ℕ) → c.pointer ≡ 0 → command_in v ≡ 3
    → (control_written c w v).channel ≡ reset_with c.lines
unfolding control_written write_wr0
reset_is c w v p k = rw (p, k)

served_a : (c : Channel) (s : Six) (v : ℕ) → c.pointer ≡ 0 → command_in v ≡ 3
    → service_under_a c s v ≡ six no_sources s.b
served_a c s v p k = rw (p, k)

served_b : (c : Channel) (s : Six) (v : ℕ) → c.pointer ≡ 0 → command_in v ≡ 3
    → service_under_b c s v ≡ six s.a no_sources
served_b c s v p k = rw (p, k)

-- "3 Channel Reset"
pub reset_of_a : (c : Chip) (v : ℕ) → c.a.pointer ≡ 0 → command_in v ≡ 3
    → let d = (step c (ControlWrite 0 v)).chip in
    ResetChannel c.a.lines d.a d.service.a
unfolding control_write control_write_a
reset_of_a c v p k =
    rw (reset_is c.a A v p k, served_a c.a c.service v p k) (reset_so c.a.lines)

pub reset_of_b : (c : Chip) (v : ℕ) → c.b.pointer ≡ 0 → command_in v ≡ 3
    → let d = (step c (ControlWrite 1 v)).chip in
    ResetChannel c.b.lines d.b d.service.b
unfolding control_write control_write_b
reset_of_b c v p k =
    rw (reset_is c.b B v p k, served_b c.b c.service v p k) (reset_so c.b.lines)

-- "A hard reset is that for both, with DCD and CTS off."
abbrev off : Lines
off = record { dcd = false; cts = false }

pub hard_reset_lem : (c : Chip)
    → let d = (step c HardReset).chip in
    ResetChannel off d.a d.service.a × ResetChannel off d.b d.service.b
hard_reset_lem c = (reset_so off, reset_so off)
