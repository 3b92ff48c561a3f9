-- Most ticks, in a form of their own and no part of 02: while a byte has bits left, neither
-- settings nor buffer have a part in a transmit tick; outside hunt, a bit that ends no character
-- hands nothing over. That they are the ticks is said in Laws/Within. Assumes nothing.
use Rattle.std.specs.Prelude.{Bool, false, not, ◌&&◌, ℕ, ◌+◌, ◌-◌, ◌/◌, eqb, ltb, if◌then◌else◌}
use Rattle.line.specs.Bits.{odd}
use Rattle.line.specs.Check.{top, shifted}
use Rattle.shared.specs.declared.Shared.{Shared}
use Rattle.bytesync.specs.declared.BlockUnit.{BlockUnit}
use Rattle.bytesync.specs.declared.BlockUnit.TheVariants.{Mark, Sync, Byte, Check}
use Rattle.bytesync.specs.declared.Reception.{Reception}
use Rattle.bytesync.specs.declared.Synced.{Synced}
use Rattle.bytesync.specs.Sending.{sent_bit, start_mark}
use Rattle.bytesync.specs.Hearing.{reception, shift_in, last_bit}

-- Sending

-- the bits of a unit that are still to be sent, and the tick of a unit that has one
abbrev pub unit_left : BlockUnit → ℕ
unit_left Mark = 0
unit_left (Sync n v) = n
unit_left (Byte n v) = n
unit_left (Check n v) = n

abbrev pub going_on : BlockUnit → Shared → Synced
going_on Mark k = start_mark k
going_on (Sync n v) k = sent_bit (odd v) (Sync (n - 1) (v / 2)) k
going_on (Byte n v) k = sent_bit (odd v) (Byte (n - 1) (v / 2)) k
going_on (Check n v) k = sent_bit (top v) (Check (n - 1) (shifted v)) k

-- the bits of a byte that are still to be sent, and what is left of it to shift out; 0 in another
-- unit
abbrev pub byte_left : BlockUnit → ℕ
byte_left Mark = 0
byte_left (Sync n v) = 0
byte_left (Byte n v) = n
byte_left (Check n v) = 0

abbrev pub byte_rest : BlockUnit → ℕ
byte_rest Mark = 0
byte_rest (Sync n v) = 0
byte_rest (Byte n v) = v
byte_rest (Check n v) = 0

abbrev pub within : BlockUnit → Bool
within u = not (eqb (byte_left u) 0)

unfoldable pub tick_within : BlockUnit → Shared → Synced
tick_within u k = sent_bit (odd (byte_rest u)) (Byte (byte_left u - 1) (byte_rest u / 2)) k

-- Receiving

abbrev pub count_after : ℕ → ℕ
count_after n = if ltb n last_bit then n + 1 else 0

unfoldable pub hears_on : Reception → Bool
hears_on r = not r.hunt && ltb r.count last_bit

unfoldable pub moved_on : Reception → Bool → Reception
moved_on r b = reception false (shift_in b r.bits) (count_after r.count) r.block
