-- Laws of a byte put down at once: by the right tables, where there is room, it is the byte with
-- its inserted zeros, once at least four cells more are stored behind it. Assumes nothing.
use Rattle.std.specs.Prelude.{◌≡◌, Bool, List, ◌++◌, ℕ, ◌+◌, ◌-◌, ◌*◌, ◌/◌, ◌%◌, ◌≤◌, length, get_or}
use Rattle.std.proofs.Common.{ap, arith}
use borrow.Author.Tests.{le-leb, le-ltb}
use Rattle.std.proofs.lemmas.List.Edits.{sets}
use Rattle.std.proofs.Math.Seq.{length-sets}
use Rattle.line.specs.Bits.{low_bits, cells}
use Rattle.line.specs.Insertion.{run_over}
use Rattle.line.specs.Laws.Insertion.{run_over_lt}
use Rattle.stamp.specs.Stamp.{sent_as, twelve, run_in, stamp_table, four_table}
use Rattle.stamp.specs.Laws.{Says, table_says}
use Rattle.imprint.specs.Imprint.{stamp_for, stamp_room}
use Rattle.imprint.specs.Laws.{twelve_is, over_gone}
use Rattle.bytewise.specs.Bytewise.{Plate, plate, press_at, run_of, Ready}
use Rattle.bytewise.specs.Bytewise.{stamped, byte_stamped}

-- A byte by any tables, where there is room

pub byte_stamped_lem : (stamps fours : List ℕ) (s : Plate) (v : ℕ)
    → stamp_room ≤ length s.buffer - s.press.at
    → byte_stamped stamps fours s v ≡ stamped fours s (stamp_for stamps s.press.row v)
unfolding byte_stamped
byte_stamped_lem stamps fours s v room =
    rw (le-ltb (length s.buffer - s.press.at) stamp_room room)

-- A byte by the right tables

module _ (s : Plate) (v : ℕ) (ready : Ready s)
    (room : stamp_room ≤ length s.buffer - s.press.at) where
  abbrev run : ℕ
  run = run_of s

  abbrev e : ℕ
  e = get_or stamp_table (s.press.row + v % 256) 0

  abbrev put : Plate
  put = byte_stamped stamp_table four_table s v

  says : Says run v e
  says =
      rw (ap (λ (row : ℕ). get_or stamp_table (row + v % 256) 0) ready.0)
      (table_says run v ready.1)

  put_is : put
      ≡ plate (sets s.buffer s.press.at (cells (twelve e)))
      (press_at (s.press.at + 8 + e / 8192) (run_in e * 256))
  unfolding byte_stamped stamp_for
  put_is =
      rw (
        le-ltb (length s.buffer - s.press.at) stamp_room room,
        le-leb s.press.row 1024 (omega (arith, ready.0, ready.1)),
        twelve_is s.buffer s.press.at e,
      )

  pub byte_at : put.press.at ≡ s.press.at + length (sent_as run v)
  byte_at = rw put_is (omega (arith, says.count))

  row_is : put.press.row ≡ run_over run (low_bits 8 v) * 256
  row_is = rw put_is (ap (λ (x : ℕ). x * 256) says.left)

  pub byte_run : run_of put ≡ run_over run (low_bits 8 v)
  byte_run = omega (arith, row_is)

  pub byte_ready : Ready put
  byte_ready =
      (omega (arith, row_is), omega (arith, row_is, run_over_lt run (low_bits 8 v) ready.1))

  pub byte_size : length put.buffer ≡ length s.buffer
  byte_size = rw put_is (length-sets s.buffer s.press.at (cells (twelve e)))

  pub byte_line : (next : List Bool) → 4 ≤ length next
      → sets put.buffer put.press.at (cells next)
      ≡ sets s.buffer s.press.at (cells (sent_as run v ++ next))
  byte_line next h =
      rw (byte_at, put_is, says.sent)
      (over_gone s.buffer s.press.at (sent_as run v) says.over next
      (omega (arith, says.few)))
