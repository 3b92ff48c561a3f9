-- 02, P3: the sender of Monosync and Bisync, a tick at a time. A unit holds first the number of its
-- bits that are still to be sent, then what is left to shift out. Every unit and every setting has
-- its tick, also one that no history makes. Assumes nothing.
use Rattle.std.specs.Prelude.{Bool, true, false, not, ◌&&◌, ℕ, ◌-◌, ◌/◌, eqb, if◌then◌else◌}
use Rattle.line.specs.Bits.{odd}
use Rattle.line.specs.Check.{top, shifted}
use Rattle.shared.specs.Shared.{full, waiting_byte, emptied, latched, byte_entered}
use Rattle.shared.specs.declared.Shared.{Shared}
use Rattle.bytesync.specs.declared.Syncs.{Syncs}
use Rattle.bytesync.specs.declared.BlockUnit.{BlockUnit}
use Rattle.bytesync.specs.declared.BlockUnit.TheVariants.{Mark, Sync, Byte, Check}
use Rattle.bytesync.specs.declared.Syncing.{Syncing}
use Rattle.bytesync.specs.declared.Synced.{Synced}
use Rattle.bytesync.specs.Syncs.{pair}

abbrev pub syncing : Bool → Bool → ℕ → Syncs → Syncing
syncing on included p s = record { on = on; included = included; polynomial = p; syncs = s }

abbrev pub synced : Bool → Bool → BlockUnit → Shared → Synced
synced b l u k = record { bit = b; loaded = l; unit = u; shared = k }

-- a bit with which nothing is loaded
abbrev pub sent_bit : Bool → BlockUnit → Shared → Synced
sent_bit b u k = synced b false u k

-- The first bit of each unit

abbrev pub start_mark : Shared → Synced
start_mark k = sent_bit true Mark k

-- "Monosync sends WR6 ..; Bisync uses WR6 then WR7": eight bits, or sixteen as one unit
abbrev pub sync_sent : Syncs → ℕ
sync_sent s = if s.both then pair s else s.first

abbrev pub sync_left : Syncs → ℕ
sync_left s = if s.both then 15 else 7

abbrev pub start_sync : Syncing → Shared → Synced
start_sync g k =
    let v = sync_sent g.syncs in sent_bit (odd v) (Sync (sync_left g.syncs) (v / 2)) k

-- "A byte enters the check at its load if WR5 D0 is set", over the polynomial that WR5 D2 chooses
-- then. "No zeros are inserted.": v, which waited
abbrev pub start_byte : Syncing → ℕ → Shared → Synced
start_byte g v k =
    synced (odd v) true (Byte 7 (v / 2)) (emptied (byte_entered g.polynomial g.included v k))

-- "not complemented", x^15 first, taken at its first bit; sending it leaves the generator alone
abbrev pub start_check : Shared → Synced
start_check k = sent_bit (top k.check) (Check 15 (shifted k.check)) k

-- after a sync or a check: byte if the buffer is full, else sync
abbrev pub byte_or_sync : Syncing → Shared → Synced
byte_or_sync g k = if full k then start_byte g (waiting_byte k) k else start_sync g k

-- "At an underrun the sender sends sync characters, before them the check if the latch is clear and
-- WR5 D0 set, and sets the latch."
abbrev pub underrun : Syncing → Shared → Synced
underrun g k =
    if not k.latch && g.included then start_check (latched k) else start_sync g (latched k)

-- the unit behind one that has ended; after a mark, sync, even if a byte waits
unfoldable pub following : Syncing → BlockUnit → Shared → Synced
following g Mark k = start_sync g k
following g (Sync n v) k = byte_or_sync g k
following g (Byte n v) k = if full k then start_byte g (waiting_byte k) k else underrun g k
following g (Check n v) k = byte_or_sync g k

-- chosen on the tick that sends its first bit: if off, mark; latch and buffer stay
abbrev pub next : Syncing → BlockUnit → Shared → Synced
next g u k = if g.on then following g u k else start_mark k

-- a unit that has a bit left goes on, also while off
unfoldable pub tick_block : Syncing → BlockUnit → Shared → Synced
tick_block g Mark k = next g Mark k
tick_block g (Sync n v) k =
    if eqb n 0 then next g (Sync n v) k else sent_bit (odd v) (Sync (n - 1) (v / 2)) k
tick_block g (Byte n v) k =
    if eqb n 0 then next g (Byte n v) k else sent_bit (odd v) (Byte (n - 1) (v / 2)) k
tick_block g (Check n v) k =
    if eqb n 0 then next g (Check n v) k else sent_bit (top v) (Check (n - 1) (shifted v)) k

-- 01, Registers: RR0 "D2 transmit buffer empty and no check being sent"
abbrev pub sends_check : BlockUnit → Bool
sends_check Mark = false
sends_check (Sync n v) = false
sends_check (Byte n v) = false
sends_check (Check n v) = true
