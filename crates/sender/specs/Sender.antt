-- 01, Sending: one channel's sender: what all modes share, which mode ticks, and break. Every
-- sender and every setting has its tick, also one that no history makes. Assumes nothing.
use Rattle.std.specs.Prelude.{Bool, true, false, not, ◌&&◌, ◌||◌, ℕ, if◌then◌else◌}
use Rattle.common.specs.Mode.{in_sdlc, in_blocks, synchronous}
use Rattle.common.specs.declared.Mode.{Mode}
use Rattle.common.specs.declared.Mode.TheVariants.{NoMode, Asynchronous, Monosync, Bisync, Sdlc}
use Rattle.line.specs.declared.Insertion.{Insertion}
use Rattle.shared.specs.declared.Shared.{Shared}
use Rattle.shared.specs.Preset.{preset_for}
use Rattle.shared.specs.Shared.{full, shared_at_reset, filled, cleared, check_set}
use Rattle.asynchronous.specs.declared.Character.{Character}
use Rattle.asynchronous.specs.declared.Typed.{Typed}
use Rattle.asynchronous.specs.Sending.{no_character, under_way, tick_character}
use Rattle.bytesync.specs.declared.BlockUnit.{BlockUnit}
use Rattle.bytesync.specs.declared.BlockUnit.TheVariants as blocks
use Rattle.bytesync.specs.declared.Synced.{Synced}
use Rattle.bytesync.specs.Sending.{tick_block, sends_check}
use Rattle.sdlc.specs.declared.LineUnit.{LineUnit}
use Rattle.sdlc.specs.declared.LineUnit.TheVariants.{Mark}
use Rattle.sdlc.specs.declared.Framer.{Framer}
use Rattle.sdlc.specs.declared.Framing.{Framing}
use Rattle.sdlc.specs.declared.Framed.{Framed}
use Rattle.sdlc.specs.Sending.{not_counted, framer, tick_sdlc, aborted_by, checking}
use Rattle.sender.specs.declared.Sender.{Sender}
use Rattle.sender.specs.declared.Sending.{Sending}
use Rattle.sender.specs.declared.Ticked.{Ticked}

-- The parts of a sender

abbrev pub sender : LineUnit → Insertion → Character → BlockUnit → Shared → Sender
sender u i c b k = record { unit = u; insertion = i; character = c; block = b; shared = k }

abbrev pub ticked : Bool → Bool → Sender → Ticked
ticked b l s = record { bit = b; loaded = l; sender = s }

abbrev pub with_shared : Sender → Shared → Sender
with_shared s k = sender s.unit s.insertion s.character s.block k

-- SDLC's part, and that part put back
abbrev pub framer_of : Sender → Framer
framer_of s = framer s.unit s.insertion s.shared

abbrev pub framer_in : Sender → Framer → Sender
framer_in s f = sender f.unit f.insertion s.character s.block f.shared

-- A tick, by the mode

abbrev pub by_framer : Sender → Framed → Ticked
by_framer s t = ticked t.bit t.loaded (framer_in s t.framer)

abbrev pub by_typist : Sender → Typed → Ticked
by_typist s t =
    ticked t.bit t.loaded
    (sender s.unit s.insertion t.character s.block t.shared)

-- another unit of Monosync or Bisync, and what all modes share
abbrev pub block_in : Sender → BlockUnit → Shared → Sender
block_in s b k = sender s.unit s.insertion s.character b k

abbrev pub by_syncing : Sender → Synced → Ticked
by_syncing s t = ticked t.bit t.loaded (block_in s t.unit t.shared)

-- "Break sends 0 in place of each bit while the steps go on."
abbrev pub with_break : Bool → Ticked → Ticked
with_break true t = ticked false t.loaded t.sender
with_break false t = t

abbrev pub tick_in_blocks : Sending → Sender → Ticked
tick_in_blocks g s =
    with_break g.broken (by_syncing s (tick_block g.syncing s.block s.shared))

abbrev pub tick_in_sdlc : Framing → Bool → Sender → Ticked
tick_in_sdlc f broken s = with_break broken (by_framer s (tick_sdlc f (framer_of s)))

-- 01, Registers: "With no mode, ticks send 1, break or not, and receive nothing."
abbrev pub tick_in : Mode → Sending → Sender → Ticked
tick_in NoMode g s = ticked true false s
tick_in Asynchronous g s =
    with_break g.broken (by_typist s (tick_character g.typing s.character s.shared))
tick_in Monosync g s = tick_in_blocks g s
tick_in Bisync g s = tick_in_blocks g s
tick_in Sdlc g s = tick_in_sdlc g.framing g.broken s

unfoldable pub tick : Sending → Sender → Ticked
tick g s = tick_in g.mode g s

-- The host's doings

-- "A data write fills the buffer, replacing what is there."
abbrev pub written : Sender → ℕ → Sender
written s v = with_shared s (filled s.shared v)

-- "Send Abort (SDLC, on, no abort under way; else nothing)"
abbrev pub aborted : Sending → Sender → Sender
aborted g s =
    if in_sdlc g.mode then framer_in s (aborted_by g.framing (framer_of s)) else s

-- 01, Registers: WR0 "D7-6: .. 2 preset Tx check, 3 clear Underrun latch"; to what, the mode says
abbrev pub check_preset : Mode → Sender → Sender
check_preset m s = with_shared s (check_set s.shared (preset_for m))

abbrev pub latch_cleared : Sender → Sender
latch_cleared s = with_shared s (cleared s.shared)

-- 01, Registers: "An accepted WR4 that changes the mode idles the sender as after a mark, keeps
-- buffer and queue": every mode is at rest
abbrev pub idled : Sender → Sender
idled s = sender Mark not_counted no_character blocks.Mark s.shared

-- 01, Registers: "A channel reset .. empties buffer and queue, .. sets D6, .. presets both checks
-- to ones"
abbrev pub at_reset : Sender
at_reset = sender Mark not_counted no_character blocks.Mark shared_at_reset

-- What status reads

-- 01, Registers: RR1 "D0 all sent (1 in SDLC)", as in Monosync and Bisync; "Outside SDLC, all sent
-- means no character under way and the buffer empty."
abbrev pub all_sent : Sending → Sender → Bool
all_sent g s = synchronous g.mode || (not (under_way s.character) && not (full s.shared))

-- 01, Registers: RR0 "D2 transmit buffer empty and no check being sent"
abbrev pub buffer_ready : Sending → Sender → Bool
buffer_ready g s =
    not (full s.shared)
    && not (if in_blocks g.mode then sends_check s.block else checking s.unit)
