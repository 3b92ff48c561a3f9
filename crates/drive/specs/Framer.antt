-- Channel A with another state of its SDLC sender: what a station's ticks and data writes leave of
-- its other parts, once a byte waits that no tick has loaded yet. That this is what they leave is
-- said in proofs/Laws/Framer. Assumes nothing.
use Rattle.std.specs.Prelude.{Bool, not, ◌&&◌}
use Rattle.shared.specs.Shared.{full}
use Rattle.sdlc.specs.declared.Framer.{Framer}
use Rattle.sender.specs.Sender.{framer_in}
use Rattle.settings.specs.Settings.{transmit_on}
use Rattle.status.specs.declared.Live.{Live}
use Rattle.channel.specs.declared.Channel.{Channel}
use Rattle.status.specs.Status.{noticed}
use Rattle.channel.specs.Channel.{with_sender, with_status, with_transmit, live_of}
use Rattle.chip.specs.declared.Chip.{Chip}
use Rattle.chip.specs.Interrupts.{with_a}

-- the five live bits, but for the underrun latch
abbrev pub with_underrun : Live → Bool → Live
with_underrun l u =
    record { abort = l.abort; underrun = u; cts = l.cts; hunt = l.hunt; dcd = l.dcd }

-- transmit is pending behind a load, and ended by a write
abbrev pub channel_with : Channel → Framer → Channel
channel_with a s =
    let live = live_of a in
    let status = noticed a.status live (with_underrun live s.shared.latch) in
    with_transmit (with_status (with_sender a (framer_in a.sender s)) status)
    (not (full s.shared) && transmit_on a.registers.wr1)

abbrev pub chip_with : Chip → Framer → Chip
chip_with c s = with_a c (channel_with c.a s)
