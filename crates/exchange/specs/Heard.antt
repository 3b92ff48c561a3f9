-- A terminal's block, computed to meet what the demand asks, and the theorem said of it: Monosync,
-- WR7 = 16, CRC-16, leading syncs kept out, other events behind every bit, and WR3 D3 written where
-- it must be. Then the same with a bit flipped. Assumes nothing.
use Rattle.std.specs.Prelude.{◌≡◌, refl, Bool, true, false, List, [], ◌∷◌, ◌++◌, ℕ, ◌<◌, drop}
use Rattle.std.proofs.Common.{arith}
use Rattle.line.specs.Bits.{text_bits, Below, below_none as none, below_more as more}
use Rattle.blocks.specs.Check.{check_bytes, with_check}
use Rattle.blocks.specs.Characters.{ends_of, further_syncs, turn_after, block_given}
use Rattle.settings.specs.Bytes.{preset_received}
use Rattle.chip.specs.Computing.{computing}
use Rattle.chip.specs.declared.Chip.{Chip}
use Rattle.chip.specs.Chip.{hard_reset}
use Rattle.chip.specs.Event.{Event, ControlWrite, ControlRead, DataWrite, DataRead, Transmit}
use Rattle.chip.specs.Event.{Receive, SetLines, Acknowledge, Reti, set}
use Rattle.stories.specs.Story.{A, after, throughout}
use Rattle.stories.specs.Received.{bits_of}
use Rattle.stories.specs.Receiving.{story}
use Rattle.terminals.specs.Side.{side_of, moments_of}
use Rattle.terminals.specs.Statement.{Listening, matching_of, BlockFed, Received}
use Rattle.terminals.specs.Statement.{rr1_d6}
use Rattle.terminals.specs.Room.{fed}
use Rattle.terminals.specs.Demand.{block_received, flip_seen}

-- from a hard reset: Monosync, WR7, CRC-16, on with leading syncs kept out, the check preset
abbrev pub begin : Chip
begin =
    after hard_reset (set 0 4 0 ++ (set 0 7 0x16 ++ (set 0 5 0b100 ++ (set 0 3 0b11
    ++ (ControlWrite 0 preset_received ∷ [])))))

-- behind every bit: reads, status reads, the sender, lines, interrupts, the other channel, refused
-- calls
abbrev pub noise : List Event
noise =
    DataRead 0 ∷ ControlWrite 0 0b10001 ∷ ControlRead 0 ∷ DataWrite 0 3 ∷ Transmit 0
    ∷ SetLines 0 1 1 ∷ Receive 1 1 ∷ Acknowledge ∷ Reti ∷ Receive 0 2 ∷ []

abbrev pub checking_on : List Event
checking_on = set 0 3 0b1011

-- a sync, one further, 41; then, with WR3 D3 set, 42, the check and a sync
abbrev pub opening : List ℕ
opening = 0x16 ∷ 0x16 ∷ 0x41 ∷ []

abbrev pub block_story : ℕ → List Event
block_story v =
    story A noise (text_bits 8 opening)
    ++ (checking_on ++ (story A noise (text_bits 8 (v ∷ 0xB0 ∷ 0x61 ∷ 0x16 ∷ []))
    ++ (ControlWrite 0 1 ∷ [])))

abbrev pub sent : List Event
sent = block_story 0x42

-- 42 with its lowest bit turned over
abbrev pub flipped : List Event
flipped = block_story 0x43

all_bytes : (v : ℕ) → v < 256
    → Below 256 (0x16 ∷ 0x41 ∷ v ∷ 0xB0 ∷ 0x61 ∷ 0x16 ∷ [])
all_bytes v h =
    more {v = 0x16} (omega arith) (more {v = 0x41} (omega arith) (more h
    (more {v = 0xB0} (omega arith)
    (more {v = 0x61} (omega arith) (more {v = 0x16} (omega arith) none)))))

pub record Examples : Type 0 where
  pub listens : Listening (side_of A begin)
  pub check : with_check 0x8005 (0x41 ∷ 0x42 ∷ []) ≡ 0x41 ∷ 0x42 ∷ 0xB0 ∷ 0x61 ∷ []
  pub fed_block : BlockFed A begin sent 1 (with_check 0x8005 (0x41 ∷ 0x42 ∷ [])) 0x16
  pub given : block_given (matching_of A begin) 1 (with_check 0x8005 (0x41 ∷ 0x42 ∷ [])) 0x16
      ≡ 0x41 ∷ 0x42 ∷ 0xB0 ∷ 0x61 ∷ 0x16 ∷ []
  pub fed_flipped : BlockFed A begin flipped 1 (0x41 ∷ 0x43 ∷ 0xB0 ∷ 0x61 ∷ []) 0x16
  -- without D3, which is not set before the second byte is complete, it is another story
  pub too_late : ends_of 15 (moments_of A begin (story A [] (text_bits 8 opening)))
      ≡ false ∷ false ∷ []

pub examples : Examples
unfolding
    computing throughout bits_of moments_of ends_of further_syncs check_bytes story after
examples = record {
  listens = record {
    mode = refl;
    on = refl;
    begun = refl;
    preset = refl;
    empty = refl;
    three = refl;
    first = omega arith;
    second = omega arith;
  };
  check = refl;
  fed_block = record {
    story = fed A begin sent refl;
    bits = refl;
    first = false;
    lets = refl;
    below = all_bytes 0x42 (omega arith);
  };
  given = refl;
  fed_flipped = record {
    story = fed A begin flipped refl;
    bits = refl;
    first = false;
    lets = refl;
    below = all_bytes 0x43 (omega arith);
  };
  too_late = refl;
}

-- the theorems speak of these stories
pub received : Received A begin sent
    (block_given (matching_of A begin) 1 (with_check 0x8005 (0x41 ∷ 0x42 ∷ [])) 0x16) false
unfolding turn_after computing after
received =
    block_received A begin sent 1 0x41 0x16 (0x42 ∷ []) examples.listens (λ e. omega arith)
    examples.fed_block

-- the bits of text and check behind the one that is turned over
abbrev behind_flip : List Bool
behind_flip = drop 9 (text_bits 8 (0x41 ∷ 0x42 ∷ 0xB0 ∷ 0x61 ∷ []))

pub flipped_seen : rr1_d6 A (after begin flipped) ≡ true
unfolding computing check_bytes story after
flipped_seen =
    flip_seen A begin flipped 1 0x41 0x16 (0x41 ∷ 0x42 ∷ []) (0x43 ∷ 0xB0 ∷ 0x61 ∷ [])
    (text_bits 8 (0x41 ∷ [])) behind_flip false examples.listens refl refl
    examples.fed_flipped refl
