-- A block sent, computed to meet what is asked, and the theorem said of it: Bisync, syncs 10 and
-- 16, CRC-16, two bytes, a pad straight behind the check, other events in between. Assumes nothing.
use Rattle.std.specs.Prelude.{◌≡◌, refl, true, List, [], ◌∷◌, ◌++◌}
use Rattle.std.proofs.Common.{arith}
use Rattle.blocks.specs.Come.{sync_head, block_bits}
use Rattle.settings.specs.Bytes.{reset_status, preset_sent, clear_underrun}
use Rattle.chip.specs.Computing.{computing}
use Rattle.chip.specs.declared.Chip.{Chip}
use Rattle.chip.specs.Chip.{hard_reset}
use Rattle.chip.specs.Event.{Event, ControlWrite, ControlRead, DataWrite, DataRead, Transmit}
use Rattle.chip.specs.Event.{Receive, SetLines, Acknowledge, Reti, set}
use Rattle.stories.specs.Story.{A, after}
use Rattle.stories.specs.Sent.{line_of, ticks}
use Rattle.stories.specs.Sending.{times}
use Rattle.dispatch.specs.Side.{syncing_of}
use Rattle.dispatch.specs.Statement.{syncs_of, Start}
use Rattle.dispatch.specs.Tests.{timely, in_time_lem}
use Rattle.dispatch.specs.Block.{block_sent}

-- from a hard reset: Bisync, WR6 and WR7, on with CRC-16 included, check preset, latch cleared;
-- three bits of the first sync
abbrev pub begin : Chip
begin =
    after hard_reset (set 0 4 0b10000 ++ (set 0 6 0x10 ++ (set 0 7 0x16 ++ (set 0 5 0b1101
    ++ (ControlWrite 0 preset_sent ∷ ControlWrite 0 clear_underrun ∷ times 3 (Transmit 0 ∷ []))))))

-- a tick, with other events behind it
abbrev pub noisy : List Event
noisy =
    Transmit 0 ∷ DataRead 0 ∷ ControlWrite 0 reset_status ∷ ControlRead 0 ∷ Transmit 1
    ∷ DataWrite 1 7 ∷ SetLines 0 1 1 ∷ Receive 0 1 ∷ Acknowledge ∷ Reti ∷ Transmit 2 ∷ []

-- 13 bits of the sync; 42 while 41 is sent; FF once the check has begun
abbrev pub sent : List Event
sent =
    DataWrite 0 0x41 ∷ (times 14 noisy ++ (DataWrite 0 0x42 ∷ (times 16 noisy
    ++ (DataWrite 0 0xFF ∷ times 39 noisy))))

pub record Examples : Type 0 where
  pub start : Start A begin 3
  pub in_time_lem : timely A begin (0x41 ∷ 0x42 ∷ []) (0xFF ∷ []) sent ≡ true
  pub all : ticks A sent ≡ 69

pub examples : Examples
unfolding computing times timely ticks after
examples = record {
  start = record {
    inside = omega arith;
    n = 13;
    x = 0b1011000010;
    sync = refl;
    left = refl;
    empty = refl;
    preset = refl;
    cleared = refl;
    settings = record {
      mode = refl;
      no_break = refl;
      syncing = record { on = refl; included = refl; first = omega arith };
    };
  };
  in_time_lem = refl;
  all = refl;
}

pub block_seen : sync_head (syncs_of A begin) 3 ++ line_of A begin sent
    ≡ block_bits (syncing_of A begin) (0x41 ∷ 0x42 ∷ []) (0xFF ∷ [])
unfolding computing times ticks after
block_seen =
    block_sent A begin 3 0x41 (0x42 ∷ []) (0xFF ∷ []) sent examples.start
    (in_time_lem A begin (0x41 ∷ 0x42 ∷ []) (0xFF ∷ []) sent examples.in_time_lem) refl
