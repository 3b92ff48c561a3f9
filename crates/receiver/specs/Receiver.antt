-- 01, Receiving: one channel's receiver: what all modes share, which mode hears, off, and what the
-- other events do to it. Every receiver is accepted, also one that no history made. Assumes
-- nothing.
use Rattle.std.specs.Prelude.{Option, None, Bool, true, false, ◌&&◌, ◌||◌, ℕ, if◌then◌else◌}
use Rattle.std.specs.Bool.{beq}
use Rattle.common.specs.Mode.{in_sdlc, in_blocks}
use Rattle.common.specs.declared.Mode.{Mode}
use Rattle.common.specs.declared.Mode.TheVariants.{NoMode, Asynchronous, Monosync, Bisync, Sdlc}
use Rattle.line.specs.Check.{ones}
use Rattle.shared.specs.Preset.{preset_for}
use Rattle.entry.specs.declared.Entry.{Entry}
use Rattle.asynchronous.specs.declared.Assembly.{Assembly}
use Rattle.asynchronous.specs.declared.Assembled.{Assembled}
use Rattle.asynchronous.specs.Hearing.{no_assembly, hear_character}
use Rattle.bytesync.specs.declared.Reception.{Reception}
use Rattle.bytesync.specs.declared.Matched.{Matched}
use Rattle.bytesync.specs.Hearing.{searching, hear_block}
use Rattle.sdlc.specs.declared.Content.{Content}
use Rattle.sdlc.specs.declared.Listener.{Listener}
use Rattle.sdlc.specs.declared.Listened.{Listened}
use Rattle.sdlc.specs.Hearing.{content_at, heard_so, hear_sdlc}
use Rattle.receiver.specs.declared.Receiving.{Receiving}
use Rattle.receiver.specs.declared.Receiver.{Receiver}
use Rattle.receiver.specs.declared.Heard.{Heard}

-- The parts of a receiver

abbrev pub receiver : Content → Assembly → Reception → ℕ → Bool → Receiver
receiver c a r k x =
    record { content = c; assembly = a; reception = r; check = k; broken = x }

-- SDLC's part, and that part put back
abbrev pub listener_of : Receiver → Listener
listener_of s = heard_so s.content s.check s.broken

abbrev pub listener_in : Receiver → Listener → Receiver
listener_in s l = receiver l.content s.assembly s.reception l.check l.broken

-- what Monosync and Bisync have heard, put back
abbrev pub reception_in : Receiver → Reception → Receiver
reception_in s r = receiver s.content s.assembly r s.check s.broken

-- what a tick gives: the receiver, and an entry for the queue or none
abbrev pub heard : Receiver → Option Entry → Heard
heard s e = record { receiver = s; entry = e }

abbrev pub silent : Receiver → Heard
silent s = heard s None

abbrev pub by_listener : Receiver → Listened → Heard
by_listener s h = heard (listener_in s h.listener) h.entry

abbrev pub by_assembly : Receiver → Assembled → Heard
by_assembly s h =
    heard (receiver s.content h.assembly s.reception s.check h.broken) h.entry

abbrev pub by_matched : Receiver → Matched → Heard
by_matched s h =
    heard (receiver s.content s.assembly h.reception h.check s.broken) h.entry

-- Other events

-- 01, Registers: a channel reset "leaves no mode, .. clears D7 .., presets both checks to ones"
abbrev pub reset : Receiver
reset = receiver (content_at false false 0) (no_assembly false) (searching false) ones false

-- "drops the unfinished part, a wait for a 1 and the count of ones and, in SDLC, starts hunt"; 02,
-- P3: "Enter Hunt starts the search again". Hunt is h and D7 x from now on. The check, which only a
-- flag, its command and a reset preset, stays
abbrev pub dropped : Receiver → Bool → Bool → Receiver
dropped s h x =
    receiver (content_at h false 0) (no_assembly false) (searching h) s.check x

-- "in SDLC a WR3 write with D4 set": D7 stays
abbrev pub enter_hunt : Receiver → Receiver
enter_hunt s = dropped s true s.broken

-- 01, Registers: "An accepted WR4 that changes the mode .. clears D7, drops the half-received
-- character and frame, and starts hunt in SDLC", as in Monosync and Bisync
abbrev pub mode_changed : Receiver → Bool → Receiver
mode_changed s hunts = dropped s hunts false

-- 01, Registers: WR0, "D7-6: 1 preset Rx check"; to what, the mode says
abbrev pub preset_check : Mode → Receiver → Receiver
preset_check m s =
    receiver s.content s.assembly s.reception (preset_for m) s.broken

-- 01, Registers: RR0, "D4 hunt (SDLC; else 0)"; 02, P3: "RR0 D4 showing it"
abbrev pub hunting : Receiving → Receiver → Bool
hunting g s =
    (in_sdlc g.mode && s.content.hunt) || (in_blocks g.mode && s.reception.hunt)

-- hunt in every mode and D7 are the same: RR0 shows no difference
abbrev pub shows_as : Receiver → Receiver → Bool
shows_as s was =
    beq s.broken was.broken
    && (beq s.content.hunt was.content.hunt
    && beq s.reception.hunt was.reception.hunt)

-- A receive tick. "With no mode, ticks .. receive nothing"; "A tick while off clears D7, and it ..
-- drops the unfinished part"

abbrev pub hear_in_characters : Receiving → Receiver → Bool → Heard
hear_in_characters g s b =
    if g.on then by_assembly s (hear_character g.format s.assembly s.broken b)
    else silent (dropped s false false)

abbrev pub hear_in_blocks : Receiving → Receiver → Bool → Heard
hear_in_blocks g s b =
    if g.on then by_matched s (hear_block g.matching s.reception s.check b)
    else silent (dropped s true false)

abbrev pub hear_in_frames : Receiving → Receiver → Bool → Heard
hear_in_frames g s b =
    if g.on then by_listener s (hear_sdlc g.addressing (listener_of s) b)
    else silent (dropped s true false)

abbrev pub hear_in : Mode → Receiving → Receiver → Bool → Heard
hear_in NoMode g s b = silent s
hear_in Asynchronous g s b = hear_in_characters g s b
hear_in Monosync g s b = hear_in_blocks g s b
hear_in Bisync g s b = hear_in_blocks g s b
hear_in Sdlc g s b = hear_in_frames g s b

unfoldable pub hear : Receiving → Receiver → Bool → Heard
hear g s b = hear_in g.mode g s b
