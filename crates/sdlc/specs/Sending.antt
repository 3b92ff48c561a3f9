-- 01, Sending: the SDLC sender, a tick at a time. A unit holds first the number of its bits that
-- are still to be sent, then what is left to shift out. Every sender and every setting has its
-- tick, also one that no history makes. Assumes nothing.
use Rattle.std.specs.Prelude.{Bool, true, false, not, ◌&&◌, ℕ, ◌-◌, ◌/◌, eqb, if◌then◌else◌}
use Rattle.line.specs.Bits.{odd}
use Rattle.line.specs.Check.{sdlc, top, shifted, complement}
use Rattle.line.specs.Insertion.{counted}
use Rattle.line.specs.declared.Insertion.{Insertion}
use Rattle.shared.specs.Shared.{full, waiting_byte, emptied, latched, byte_entered}
use Rattle.shared.specs.declared.Shared.{Shared}
use Rattle.sdlc.specs.declared.LineUnit.{LineUnit}
use Rattle.sdlc.specs.declared.LineUnit.TheVariants.{Mark, Flag, Byte, Check, Abort}
use Rattle.sdlc.specs.declared.Framing.{Framing}
use Rattle.sdlc.specs.declared.Framer.{Framer}
use Rattle.sdlc.specs.declared.Framed.{Framed}

-- The parts of a sender

abbrev pub insertion : ℕ → Bool → Insertion
insertion run owed = record { run = run; owed = owed }

-- outside byte and check no ones are counted and no zero is owed
abbrev pub not_counted : Insertion
not_counted = insertion 0 false

abbrev pub paid : Insertion → Insertion
paid i = insertion i.run false

abbrev pub framing : Bool → Bool → Framing
framing on included = record { on = on; included = included }

abbrev pub framer : LineUnit → Insertion → Shared → Framer
framer u i k = record { unit = u; insertion = i; shared = k }

abbrev pub framed : Bool → Bool → Framer → Framed
framed b l s = record { bit = b; loaded = l; framer = s }

-- a bit with which nothing is loaded
abbrev pub sent_bit : Bool → LineUnit → Insertion → Shared → Framed
sent_bit b u i k = framed b false (framer u i k)

-- The first bit of each unit. "After five ones in a row in byte and check bits, counted on from the
-- opening flag, one 0 is owed": `run` ones went before it

abbrev pub start_mark : Shared → Framed
start_mark k = sent_bit true Mark not_counted k

abbrev pub start_flag : Shared → Framed
start_flag k = sent_bit false (Flag 7) not_counted k

-- "byte (low bit first)"; "A byte enters the check at its load if WR5 D0 is set.": v, which waited
abbrev pub start_byte : Framing → ℕ → ℕ → Shared → Framed
start_byte g run v k =
    let i = counted run (odd v) in
    framed (odd v) true (framer (Byte 7 (v / 2)) i (emptied (byte_entered sdlc g.included v k)))

-- "The check: .. complemented, x^15 first (ISO/IEC 13239), taken at its first bit. Sending it
-- leaves the generator alone."
abbrev pub start_check : ℕ → Shared → Framed
start_check run k =
    let c = complement k.check in
    sent_bit (top c) (Check 15 (shifted c)) (counted run (top c)) k

-- "else, if the latch is clear and WR5 D0 set, check, otherwise flag; either sets the latch."
abbrev pub underrun : Framing → ℕ → Shared → Framed
underrun g run k =
    if not k.latch && g.included then start_check run (latched k) else start_flag (latched k)

-- "After mark or abort: flag. After flag: byte if the buffer is full, else flag. After byte: byte
-- if full; else, if the latch is clear and WR5 D0 set, check, otherwise flag; either sets the
-- latch. After check: flag."
unfoldable pub following : Framing → LineUnit → ℕ → Shared → Framed
following g Mark run k = start_flag k
following g (Abort n) run k = start_flag k
following g (Flag n) run k = if full k then start_byte g run (waiting_byte k) k else start_flag k
following g (Byte n v) run k =
    if full k then start_byte g run (waiting_byte k) k else underrun g run k
following g (Check n v) run k = start_flag k

-- "The next unit is chosen on the tick that sends its first bit, after any owed 0: if off, mark."
abbrev pub next : Framing → LineUnit → ℕ → Shared → Framed
next g u run k = if g.on then following g u run k else start_mark k

-- 01, The part we model: "the flag is 01111110". Its bit when n are still to be sent
abbrev pub flag_bit : ℕ → Bool
flag_bit n = not (eqb n 8) && not (eqb n 1)

-- no bit of this unit is left
abbrev pub no_bit_left : LineUnit → Bool
no_bit_left Mark = true
no_bit_left (Flag n) = eqb n 0
no_bit_left (Byte n v) = eqb n 0
no_bit_left (Check n v) = eqb n 0
no_bit_left (Abort n) = eqb n 0

-- the next bit of a byte and of a check, all but the first
abbrev pub byte_on : ℕ → ℕ → ℕ → Shared → Framed
byte_on n v run k = sent_bit (odd v) (Byte (n - 1) (v / 2)) (counted run (odd v)) k

abbrev pub check_on : ℕ → ℕ → ℕ → Shared → Framed
check_on n v run k = sent_bit (top v) (Check (n - 1) (shifted v)) (counted run (top v)) k

-- the next bit of a unit that has one left; a mark, which has none, goes on as a mark
abbrev pub goes_on : LineUnit → ℕ → Shared → Framed
goes_on Mark run k = start_mark k
goes_on (Flag n) run k = sent_bit (flag_bit n) (Flag (n - 1)) not_counted k
goes_on (Byte n v) run k = byte_on n v run k
goes_on (Check n v) run k = check_on n v run k
goes_on (Abort n) run k = sent_bit true (Abort (n - 1)) not_counted k

-- "Only an abort, reset or mode change cuts a unit short."
unfoldable pub going : Framing → LineUnit → ℕ → Shared → Framed
going g u run k = if no_bit_left u then next g u run k else goes_on u run k

-- "one 0 is owed and sent next, even before the flag"
unfoldable pub tick_sdlc : Framing → Framer → Framed
tick_sdlc g s =
    if s.insertion.owed then sent_bit false s.unit (paid s.insertion) s.shared
    else going g s.unit s.insertion.run s.shared

-- Send Abort

-- under way from the command to the next unit's first bit
abbrev pub aborting : LineUnit → Bool
aborting Mark = false
aborting (Flag n) = false
aborting (Byte n v) = false
aborting (Check n v) = false
aborting (Abort n) = true

-- "Send Abort (SDLC, on, no abort under way; else nothing) empties buffer and shifter, drops an
-- owed zero, sets the latch, and eight ones start on the next tick."
abbrev pub cut_short : Framer → Framer
cut_short s = framer (Abort 8) not_counted (emptied (latched s.shared))

abbrev pub aborted_by : Framing → Framer → Framer
aborted_by g s = if g.on && not (aborting s.unit) then cut_short s else s

-- 01, Registers: RR0 "D2 transmit buffer empty and no check being sent"
abbrev pub checking : LineUnit → Bool
checking Mark = false
checking (Flag n) = false
checking (Byte n v) = false
checking (Check n v) = true
checking (Abort n) = false
