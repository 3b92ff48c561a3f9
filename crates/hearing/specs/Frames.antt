-- 01, Receiving, SDLC: flags, zeros dropped, the delay, ends and checks, stray bits, aborts,
-- address search and hunt. Assumes nothing.
use Rattle.std.specs.Prelude.{◌≡◌, refl, List, [], ◌∷◌, ◌++◌, ℕ}
use Rattle.chip.specs.Event.{Event}
use Rattle.tales.specs.Tale.{Happens, telling, reads, bytes}
use Rattle.tales.specs.Words.{command, set, hears, takes, reset_status, preset_received}
use Rattle.tales.specs.Words.{sdlc_mode, hear_eight}
use Rattle.tales.specs.Words.{hearing, flag, ones, frame00}
use Rattle.hearing.specs.Happens.{happens}

-- "Reset External/Status"
abbrev afresh : List Event
afresh = command 0 reset_status

-- behind a flag, nothing latched
abbrev opened : List Event
opened = hearing 0 sdlc_mode ++ flag 0 ++ afresh ++ afresh

-- marked example 2's frame of FF, and that of 00 with its first bit turned over
abbrev frame_ff : List Event
frame_ff = hears 0 42 0b011111101111101110000000011111011101111110

abbrev flipped : List Event
flipped = hears 0 40 0b0111111010000000000111100000111101111110

-- the frame of 00 behind a flag that has come
abbrev next00 : List Event
next00 = hears 0 32 0b00000000000111100000111101111110

-- 28 bits of content, and the zero behind five ones, whose remainder is that of a good check
abbrev stray : List Event
stray = flag 0 ++ hears 0 29 0b01000001011010111110100000010 ++ flag 0

-- the frame of 00, with the received check preset in its middle
abbrev preset_within : List Event
preset_within =
    hears 0 20 0b01111110000000000001 ++ command 0 preset_received
    ++ hears 0 20 0b11100000111101111110

-- address search for this address
abbrev searching : ℕ → List Event
searching v = set 0 4 sdlc_mode ++ set 0 6 v ++ set 0 3 0b11000101

-- WR3, eight bits: off; with Enter Hunt, on and off
abbrev off : ℕ
off = 0b11000000

abbrev off_for_a_tick : List Event
off_for_a_tick = set 0 3 off ++ ones 0 1 ++ set 0 3 hear_eight

abbrev hunts : ℕ
hunts = 0b11010001

abbrev hunts_off : ℕ
hunts_off = 0b11010000

pub record Told (happens : Happens) : Type 0 where
  -- "a 0 after five ones is dropped"; "at the flag with the end mark"; marked example 4
  pub values : bytes happens (hearing 0 sdlc_mode ++ frame_ff) 0 3 ≡ 0xFF ∷ 0x00 ∷ 0xFF ∷ []
  pub good_end_lem : reads happens (hearing 0 sdlc_mode ++ frame_ff ++ takes 0 2) 0 1 ≡ 0x87
  pub bad_end_lem : reads happens (hearing 0 sdlc_mode ++ flipped ++ takes 0 2) 0 1 ≡ 0xC7
  -- a flag's own bits are no content: the next frame, behind the same flag, has just its bytes
  pub next_values :
      bytes happens (hearing 0 sdlc_mode ++ frame00 0 ++ takes 0 3 ++ next00) 0 3
      ≡ 0x00 ∷ 0x78 ∷ 0xF0 ∷ []
  -- "Stray bits are thrown away and the check is bad."
  pub stray_bad : reads happens (hearing 0 sdlc_mode ++ stray ++ takes 0 2) 0 1 ≡ 0xC7
  -- "Content under eight bits queues nothing."
  pub under_eight : reads happens (hearing 0 sdlc_mode ++ flag 0 ++ hears 0 7 0 ++ flag 0) 0 0 ≡ 0x54
  -- "through a seven-bit delay"; "A character is queued when the next has left the delay": 8 + 8
  -- + 7
  pub not_yet : reads happens (hearing 0 sdlc_mode ++ flag 0 ++ hears 0 22 0) 0 0 ≡ 0x54
  pub queued : reads happens (hearing 0 sdlc_mode ++ flag 0 ++ hears 0 23 0) 0 0 ≡ 0x55
  -- "a seventh one is an abort (outside hunt): D7 sets until the next 0, and the frame is dropped
  -- until a flag"
  pub abort : reads happens (opened ++ ones 0 7 ++ afresh) 0 0 ≡ 0xC4
  pub abort_over : reads happens (opened ++ ones 0 7 ++ afresh ++ hears 0 1 0 ++ afresh) 0 0 ≡ 0x44
  pub dropped : reads happens (hearing 0 sdlc_mode ++ flag 0 ++ ones 0 7 ++ hears 0 25 0) 0 0 ≡ 0x54
  pub not_in_hunt : reads happens (hearing 0 sdlc_mode ++ ones 0 7 ++ afresh) 0 0 ≡ 0x54
  pub abort_of_dropped :
      reads happens (searching 0xC2 ++ flag 0 ++ afresh ++ afresh ++ hears 0 16 0 ++ ones 0 7) 0 0
      ≡ 0xC4
  -- "Address search .. drops a frame if that byte is neither WR6 nor FF", "applied when the first
  -- byte has left the delay"
  pub address : reads happens (searching 0x00 ++ frame00 0) 0 0 ≡ 0x55
  pub other_address : reads happens (searching 0x0F ++ frame00 0) 0 0 ≡ 0x54
  pub everyone : reads happens (searching 0xC2 ++ frame_ff) 0 0 ≡ 0x55
  pub address_later :
      reads happens (searching 0xC2 ++ flag 0 ++ set 0 6 0 ++ hears 0 23 0) 0 0 ≡ 0x55
  -- "a flag ends hunt": six ones and a 0, whatever came before
  pub hunt_over : reads happens (hearing 0 sdlc_mode ++ afresh ++ hears 0 7 0b1111110) 0 0 ≡ 0x44
  -- "in SDLC a WR3 write with D4 set, drops the unfinished part, .. and the count of ones and ..
  -- starts hunt": on or off, the queue stays
  pub hunt_anew : reads happens (opened ++ set 0 3 hunts ++ afresh) 0 0 ≡ 0x54
  pub hunt_anew_off : reads happens (opened ++ set 0 3 hunts_off ++ afresh) 0 0 ≡ 0x54
  pub ones_dropped :
      reads happens
      (hearing 0 sdlc_mode ++ afresh ++ ones 0 5 ++ set 0 3 hunts ++ hears 0 2 0b10) 0 0 ≡ 0x54
  pub queue_kept :
      reads happens (hearing 0 sdlc_mode ++ flag 0 ++ hears 0 23 0 ++ set 0 3 hunts) 0 0 ≡ 0x55
  -- "A tick while off" does so too
  pub off_hunts : reads happens (opened ++ set 0 3 off ++ ones 0 1 ++ afresh) 0 0 ≡ 0x54
  pub off_drops_ones :
      reads happens (hearing 0 sdlc_mode ++ afresh ++ ones 0 5 ++ off_for_a_tick ++ hears 0 2 0b10) 0 0
      ≡ 0x54
  -- WR0 "D7-6: 1 preset Rx check"
  pub check_preset_lem :
      reads happens (hearing 0 sdlc_mode ++ preset_within ++ takes 0 2) 0 1
      ≡ 0xC7

pub told : Told happens
unfolding telling
told = record {
  values = refl;
  good_end_lem = refl;
  bad_end_lem = refl;
  next_values = refl;
  stray_bad = refl;
  under_eight = refl;
  not_yet = refl;
  queued = refl;
  abort = refl;
  abort_over = refl;
  dropped = refl;
  not_in_hunt = refl;
  abort_of_dropped = refl;
  address = refl;
  other_address = refl;
  everyone = refl;
  address_later = refl;
  hunt_over = refl;
  hunt_anew = refl;
  hunt_anew_off = refl;
  ones_dropped = refl;
  queue_kept = refl;
  off_hunts = refl;
  off_drops_ones = refl;
  check_preset_lem = refl;
}
