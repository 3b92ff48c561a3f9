-- Worked cases, computed: the published values of both checks from zero over the digits 1 to 9
-- (CRC-16/ARC, CRC-16/KERMIT), blocks heard in both modes, and a block sent. Assumes nothing.
use Rattle.std.specs.Prelude.{Some, ◌≡◌, refl, Bool, true, false, List, [], ◌∷◌, ◌++◌, ℕ, replicate, None}
use Rattle.line.specs.Bits.{low_bits, text_bits, from_low}
use Rattle.line.specs.Check.{sdlc, check_step, check_over, top_bits}
use Rattle.shared.specs.Shared.{shared}
use Rattle.bytesync.specs.declared.BlockUnit.TheVariants.{Mark}
use Rattle.bytesync.specs.declared.Matching.{Matching}
use Rattle.bytesync.specs.declared.Syncing.{Syncing}
use Rattle.bytesync.specs.Syncs.{syncs, crc16}
use Rattle.bytesync.specs.Sending.{syncing, following, tick_block}
use Rattle.bytesync.specs.Hearing.{block, reception_at, searching, sync_seen, hunting, entering}
use Rattle.bytesync.specs.Hearing.{arrived, assembling, hear_block}
use Rattle.shared.specs.Preset.{zeros}
use Rattle.blocks.specs.Check.{check_from, check_bytes}
use Rattle.blocks.specs.Heard.{Moment, final, hear_all, along, entries_of}
use Rattle.blocks.specs.Come.{sends, closed, block_bits, Act, Tick, Write, acts_line}

abbrev digits : List ℕ
digits = 0x31 ∷ 0x32 ∷ 0x33 ∷ 0x34 ∷ 0x35 ∷ 0x36 ∷ 0x37 ∷ 0x38 ∷ 0x39 ∷ []

pub arc : check_bytes (check_from crc16 zeros digits) ≡ 0x3D ∷ 0xBB ∷ []
unfolding check_bytes check_over check_step text_bits low_bits top_bits from_low
arc = refl

pub kermit : check_bytes (check_from sdlc zeros digits) ≡ 0x89 ∷ 0x21 ∷ []
unfolding check_bytes check_over check_step text_bits low_bits top_bits from_low
kermit = refl

-- eight ticks a character, WR3 D3 clear or set
abbrev ticks_of : Bool → List ℕ → List Moment
ticks_of i [] = []
ticks_of i (v ∷ vs) = along (replicate 8 i) (low_bits 8 v) ++ ticks_of i vs

abbrev set : Bool → Bool → Matching
set both strip =
    record { syncs = syncs both 0x10 0x16; strip = strip; checking = false; polynomial = crc16 }

-- Monosync, stripped: the sync, two more, a byte; then a byte, the check, a sync
pub mono_heard : hear_all (set false true) (searching true) zeros
    (ticks_of false (0x16 ∷ 0x16 ∷ 0x16 ∷ 0x41 ∷ []) ++ ticks_of true
    (0x42 ∷ 0xB0 ∷ 0x61 ∷ 0x16 ∷ []))
    ≡ final (reception_at false (block false true (Some 0x16))) 0
    (entries_of (0x41 ∷ 0x42 ∷ 0xB0 ∷ 0x61 ∷ 0x16 ∷ []))
unfolding hear_all along low_bits hear_block hunting sync_seen assembling arrived entering check_over
    check_step entries_of
mono_heard = refl

-- Bisync, not stripped: the sync, one half more, and a byte that would be a sync if it were its
-- turn
pub bisync_heard : hear_all (set true false) (searching true) zeros
    (ticks_of false (0x10 ∷ 0x16 ∷ 0x10 ∷ 0x10 ∷ []))
    ≡ final (reception_at false (block false false (Some 0x10))) 0 (entries_of (0x10 ∷ 0x10 ∷ []))
unfolding hear_all along low_bits hear_block hunting sync_seen assembling arrived entering check_over
    check_step entries_of
bisync_heard = refl

-- Monosync sent: a byte before the first tick, the next on the last tick in time, and a pad
-- straight behind the check
abbrev sending : Syncing
sending = syncing true true crc16 (syncs false 0x16 0x16)

abbrev story : List Act
story =
    Write 0x41 ∷ (replicate 16 Tick ++
    (Write 0x42 ∷ (replicate 9 Tick ++ (Write 0xFF ∷ replicate 31 Tick))))

pub mono_sent : acts_line sending (sends Mark (shared None false zeros)) story
    ≡ block_bits sending (0x41 ∷ 0x42 ∷ []) (0xFF ∷ [])
unfolding acts_line tick_block following closed text_bits low_bits top_bits check_over check_step
mono_sent = refl
