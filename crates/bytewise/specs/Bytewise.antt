-- A byte put down at once over a buffer, one bit to a cell, by tables that are lent, whatever they
-- hold. Assumes nothing.
use Rattle.std.specs.Prelude.{◌≡◌, List, ℕ, ◌+◌, ◌-◌, ◌*◌, ◌/◌, ◌<◌, ltb, length, if◌then◌else◌}
use Rattle.stamp.specs.Stamp.{run_in}
use Rattle.imprint.specs.Imprint.{stamp_for, stamp_room, twelve_by}
use Rattle.bytewise.specs.declared.Press.{Press}

-- a buffer and the press over it
pub record Plate : Type 0 where
  pub buffer : List ℕ
  pub press : Press

abbrev pub plate : List ℕ → Press → Plate
plate buffer p = record { buffer = buffer; press = p }

abbrev pub press_at : ℕ → ℕ → Press
press_at at row = record { at = at; row = row }

-- the ones in a row that a press's row is for; a row is 256 for each, and none is behind that of
-- four
abbrev pub run_of : Plate → ℕ
run_of s = s.press.row / 256

abbrev pub Ready : Plate → Type 0
Ready s = (s.press.row ≡ run_of s * 256) × (run_of s < 5)

-- the press behind a stamp at a place, and the stamp's cells with it
abbrev pub behind : ℕ → ℕ → Press
behind at e = press_at (at + 8 + e / 8192) (run_in e * 256)

abbrev pub stamped : List ℕ → Plate → ℕ → Plate
stamped fours s e =
    plate (twelve_by fours s.buffer s.press.at e) (behind s.press.at e)

-- a byte is put down where there is room for a stamp's cells, and else nothing is
unfoldable pub byte_stamped : List ℕ → List ℕ → Plate → ℕ → Plate
byte_stamped stamps fours s v =
    if ltb (length s.buffer - s.press.at) stamp_room
    then s
    else stamped fours s (stamp_for stamps s.press.row v)

abbrev pub two_stamped : List ℕ → List ℕ → Plate → ℕ → ℕ → Plate
two_stamped stamps fours s v w = byte_stamped stamps fours (byte_stamped stamps fours s v) w
