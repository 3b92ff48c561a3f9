-- The sender's side of a channel: SDLC's part of its sender, and what SDLC heeds of its settings.
-- Assumes nothing.
use Rattle.std.specs.Prelude.{◌≡◌, Bool, false, ℕ, if◌then◌else◌}
use Rattle.std.proofs.Common.{ap}
use Rattle.common.specs.Tools.{eqb_elim}
use Rattle.common.specs.declared.Mode.{Mode}
use Rattle.common.specs.declared.Mode.TheVariants.{Sdlc}
use Rattle.shared.specs.Shared.{full}
use Rattle.sdlc.specs.declared.Framing.{Framing}
use Rattle.sdlc.specs.declared.Framer.{Framer}
use Rattle.sdlc.specs.Sending.{framing}
use Rattle.sender.specs.declared.Sender.{Sender}
use Rattle.sender.specs.declared.Sending.{Sending}
use Rattle.sender.specs.Sender.{framer_of}
use Rattle.sender.specs.Good.{Good}
use Rattle.settings.specs.Settings.{sending_of}
use Rattle.channel.specs.declared.Channel.{Channel}
use Rattle.chip.specs.declared.Chip.{Chip}
use Rattle.chip.specs.Event.{Event, HardReset, ControlWrite, ControlRead, DataWrite, DataRead}
use Rattle.chip.specs.Event.{Transmit, Receive, SetLines, Acknowledge, Reti}
use Rattle.stories.specs.Story.{Which, number, chan}
use Rattle.stories.specs.Sent.{ToSender, Ticks, Writes, Else, to_sender}
use Rattle.whole.specs.Come as come

-- what SDLC heeds of the settings: "In SDLC all characters have eight bits and no parity .. no
-- matter what WR3, WR4, WR5 and WR7 hold"
pub record Heeded : Type 0 where
  pub mode : Mode
  pub broken : Bool
  pub framing : Framing

abbrev pub heeded : Sending → Heeded
heeded g = record { mode = g.mode; broken = g.broken; framing = g.framing }

-- demand 3: "the SDLC sender on .., check .. included, .. no break"
abbrev pub good : Heeded
good = record { mode = Sdlc; broken = false; framing = come.good }

pub good_of : (g : Sending) → heeded g ≡ good → Good g
good_of g e = record {
  sdlc_mode_lem = ap (λ (h : Heeded). h.mode) e;
  on = ap (λ (h : Heeded). h.framing.on) e;
  included = ap (λ (h : Heeded). h.framing.included) e;
  no_break = ap (λ (h : Heeded). h.broken) e;
}

pub good_heeded : (g : Sending) → Good g → heeded g ≡ good
good_heeded g h =
    λ i. record {
      mode = h.sdlc_mode_lem i;
      broken = h.no_break i;
      framing = framing (h.on i)
          (h.included i);
    }

pub record SenderSide : Type 0 where
  pub sender : Framer
  pub heeds : Heeded

abbrev pub side : Framer → Heeded → SenderSide
side s h = record { sender = s; heeds = h }

abbrev pub sending_in : Channel → Sending
sending_in c = sending_of c.registers c.lines

abbrev pub part : Sending → Sender → SenderSide
part g s = side (framer_of s) (heeded g)

abbrev pub side_in : Channel → SenderSide
side_in c = part (sending_in c) c.sender

abbrev pub side_of : Which → Chip → SenderSide
side_of w c = side_in (chan w c)

abbrev pub full_of : Which → Chip → Bool
full_of w c = full (chan w c).sender.shared

abbrev pub latch_of : Which → Chip → Bool
latch_of w c = (chan w c).sender.shared.latch

-- What an event is to this sender, as something to match on: a proof by roles has three cases,
-- whatever the number of events
pub data View (w : Which) : Event → ToSender → Type 0 where
  its_tick : View w (Transmit (number w)) Ticks
  its_write : {v : ℕ} → View w (DataWrite (number w) v) (Writes v)
  other : {e : Event} → View w e Else

pub view : (w : Which) (e : Event) → View w e (to_sender w e)
view w HardReset = other
view w (ControlWrite ch v) = other
view w (ControlRead ch) = other
view w (DataWrite ch v) =
    eqb_elim (λ t. View w (DataWrite ch v) (if t then Writes v else Else)) ch (number w)
    (λ e. rw e its_write) (λ n. other)
view w (DataRead ch) = other
view w (Transmit ch) =
    eqb_elim (λ t. View w (Transmit ch) (if t then Ticks else Else)) ch (number w)
    (λ e. rw e its_tick) (λ n. other)
view w (Receive ch bit) = other
view w (SetLines ch dcd cts) = other
view w Acknowledge = other
view w Reti = other
