-- What is to come on the line. From a sender of these modes and the bytes that the host has still
-- to write, `to_come` gives the bits from here to the end of the sync behind the block, if each byte
-- is written in time: `rest` are the bytes of the block, `tail` those that go straight behind its
-- check. The laws (proofs/Laws/Come): a tick in time takes the first of these bits (`takes`), a write into
-- the empty buffer changes none of them (`moves`, `moves_behind`). Assumes nothing.
use Rattle.std.specs.Prelude.{◌≡◌, Option, None, Bool, true, false, not, ◌||◌, List, [], ◌∷◌, ◌++◌, ℕ, suc, ◌-◌, ◌/◌, ◌^◌, ◌<◌, eqb, take, if◌then◌else◌}
use Rattle.line.specs.Bits.{low_bits, text_bits}
use Rattle.line.specs.Check.{top_bits}
use Rattle.shared.specs.declared.Shared.{Shared}
use Rattle.shared.specs.Shared.{shared, full, filled, cleared, check_set}
use Rattle.bytesync.specs.declared.Syncs.{Syncs}
use Rattle.bytesync.specs.declared.BlockUnit.{BlockUnit}
use Rattle.bytesync.specs.declared.BlockUnit.TheVariants.{Mark, Sync, Byte, Check}
use Rattle.bytesync.specs.declared.Syncing.{Syncing}
use Rattle.bytesync.specs.Sending.{sync_sent, tick_block}
use Rattle.shared.specs.Preset.{zeros}
use Rattle.whole.specs.Come.{waiting}
use Rattle.whole.specs.Stage.{Remains}
use Rattle.blocks.specs.Check.{check_from}

-- the sender on, the check included; WR6 is a byte
pub record Good (g : Syncing) : Type 0 where
  pub on : g.on ≡ true
  pub included : g.included ≡ true
  pub first : g.syncs.first < 256

-- a sender: the unit under way, and what the senders of all modes share
pub record Sends : Type 0 where
  pub unit : BlockUnit
  pub shared : Shared

abbrev pub sends : BlockUnit → Shared → Sends
sends u k = record { unit = u; shared = k }

abbrev pub ticked : Syncing → Sends → Sends
ticked g s = let t = tick_block g s.unit s.shared in sends t.unit t.shared

abbrev pub filled_with : Sends → ℕ → Sends
filled_with s v = sends s.unit (filled s.shared v)

-- A block on the line

-- "Monosync sends WR6 ..; Bisync uses WR6 then WR7"
abbrev pub sync_bits : Syncs → List Bool
sync_bits y = if y.both then low_bits 8 y.first ++ low_bits 8 y.second else low_bits 8 y.first

-- bytes straight behind the check, then a sync
abbrev pub behind : Syncing → List ℕ → List Bool
behind g tail = text_bits 8 tail ++ sync_bits g.syncs

-- bytes, their check from the register c on, what goes behind it
unfoldable pub closed : Syncing → ℕ → List ℕ → List ℕ → List Bool
closed g c vs tail =
    text_bits 8 vs ++ (top_bits 16 (check_from g.polynomial c vs) ++ behind g tail)

-- by the unit under way: a sync or a byte is before the check while the latch is clear, and behind
-- it once the latch is set
abbrev pub coming : Syncing → Shared → List ℕ → List ℕ → BlockUnit → List Bool
coming g k rest tail Mark = sync_bits g.syncs ++ closed g k.check (waiting k rest) tail
coming g k rest tail (Sync n v) =
    if k.latch then low_bits n v else low_bits n v ++ closed g k.check (waiting k rest) tail
coming g k rest tail (Byte n v) =
    low_bits n v
    ++ (if k.latch then behind g (waiting k tail) else closed g k.check (waiting k rest) tail)
coming g k rest tail (Check n v) = top_bits n v ++ behind g (waiting k tail)

abbrev pub to_come : Syncing → Sends → List ℕ → List ℕ → List Bool
to_come g s rest tail = coming g s.shared rest tail s.unit

-- In time: a tick that chooses behind a sync, a byte or a check, while there is more to write,
-- finds the buffer full

abbrev pub chooses : BlockUnit → Bool
chooses Mark = false
chooses (Sync n v) = eqb n 0
chooses (Byte n v) = eqb n 0
chooses (Check n v) = eqb n 0

abbrev pub timely : Bool → BlockUnit → List ℕ → Bool
timely full u [] = true
timely full u (v ∷ rest) = full || not (chooses u)

abbrev pub in_time : Sends → List ℕ → List ℕ → Bool
in_time s rest tail =
    timely (full s.shared) s.unit (if s.shared.latch then tail else rest)

-- A block's stages, with `rest` and `tail` still to write
pub data Stage : Sends → List ℕ → List ℕ → Type 0 where
  at_mark : (b : Option ℕ) (c : ℕ) (rest tail : List ℕ) → Remains b rest
      → Stage (sends Mark (shared b false c)) rest tail
  opening : (n v : ℕ) (b : Option ℕ) (c : ℕ) (rest tail : List ℕ) → Remains b rest
      → Stage (sends (Sync n v) (shared b false c)) rest tail
  in_byte : (n v : ℕ) (b : Option ℕ) (c : ℕ) (rest tail : List ℕ)
      → Stage (sends (Byte n v) (shared b false c)) rest tail
  in_check : (n v : ℕ) (b : Option ℕ) (c : ℕ) (tail : List ℕ)
      → Stage (sends (Check n v) (shared b true c)) [] tail
  in_tail : (n v : ℕ) (b : Option ℕ) (c : ℕ) (tail : List ℕ)
      → Stage (sends (Byte n v) (shared b true c)) [] tail
  closing : (n v c : ℕ) → Stage (sends (Sync n v) (shared None true c)) [] []

-- The host's story: ticks and data writes; its line, how many ticks it has, and the sender behind
-- it

pub data Act : Type 0 where
  Tick : Act
  Write : ℕ → Act

unfoldable pub acts_line : Syncing → Sends → List Act → List Bool
acts_line g s [] = []
acts_line g s (Tick ∷ acts) =
    (tick_block g s.unit s.shared).bit ∷ acts_line g (ticked g s) acts
acts_line g s (Write v ∷ acts) = acts_line g (filled_with s v) acts

unfoldable pub ticks : List Act → ℕ
ticks [] = 0
ticks (Tick ∷ acts) = suc (ticks acts)
ticks (Write v ∷ acts) = ticks acts

unfoldable pub last_of : Syncing → Sends → List Act → Sends
last_of g s [] = s
last_of g s (Tick ∷ acts) = last_of g (ticked g s) acts
last_of g s (Write v ∷ acts) = last_of g (filled_with s v) acts

-- a story in time: it writes `rest` and, once the latch is set, `tail`, each byte into an empty
-- buffer, and no tick that chooses comes too early; `left` and `more` of them are unwritten when it
-- ends
pub data InTime (g : Syncing) (left more : List ℕ) : Sends → List ℕ → List ℕ → List Act
    → Type 0 where
  over : {s : Sends} → InTime g left more s left more []
  ticking : {s : Sends} {rest tail : List ℕ} {acts : List Act} → in_time s rest tail ≡ true
      → InTime g left more (ticked g s) rest tail acts
      → InTime g left more s rest tail (Tick ∷ acts)
  writing : {s : Sends} {v : ℕ} {rest tail : List ℕ} {acts : List Act} → full s.shared ≡ false
      → InTime g left more (filled_with s v) rest tail acts
      → InTime g left more s (v ∷ rest) tail (Write v ∷ acts)
  writing_behind : {s : Sends} {v : ℕ} {rest tail : List ℕ} {acts : List Act}
      → s.shared.latch ≡ true → full s.shared ≡ false
      → InTime g left more (filled_with s v) rest tail acts
      → InTime g left more s rest (v ∷ tail) (Write v ∷ acts)

-- A block from end to end: p bits of a sync are sent, the latch is clear, the check preset

abbrev pub sync_length : Syncs → ℕ
sync_length y = if y.both then 16 else 8

abbrev pub sync_unit : Syncs → ℕ → BlockUnit
sync_unit y p = Sync (sync_length y - p) (sync_sent y / 2 ^ p)

abbrev pub started : Syncs → ℕ → Sends
started y p = sends (sync_unit y p) (shared None false zeros)

-- the bits of that sync that are sent
abbrev pub sync_head : Syncs → ℕ → List Bool
sync_head y p = take p (sync_bits y)

-- sync, bytes, their check, what goes straight behind it, sync
abbrev pub block_bits : Syncing → List ℕ → List ℕ → List Bool
block_bits g vs tail = sync_bits g.syncs ++ closed g zeros vs tail

-- "WR0 D7-6: .. 2 preset Tx check, 3 clear Underrun latch", for the next block
abbrev pub readied : Sends → Sends
readied s = sends s.unit (cleared (check_set s.shared zeros))
