-- 01, Registers: "An accepted WR4 that changes the mode idles the sender as after a mark, keeps
-- buffer and queue, clears D7, drops the half-received character and frame, and starts hunt in
-- SDLC. With no mode, ticks send 1, break or not, and receive nothing." Each word by a tale, and
-- what no word names is kept. Assumes nothing.
use Rattle.std.specs.Prelude.{◌≡◌, refl, List, [], ◌∷◌, ◌++◌}
use Rattle.chip.specs.Event.{Event}
use Rattle.tales.specs.Tale.{Happens, telling, digits, reads, line}
use Rattle.tales.specs.Words.{command, set, hears, writes, takes, ticks, ones, reset_status}
use Rattle.tales.specs.Words.{clear_underrun, one_stop, one_stop_odd, sdlc_mode, hear_eight, hearing}
use Rattle.tales.specs.Words.{sending, framing, char41, cut41, blank}
use Rattle.resetting.specs.Happens.{happens}
use Rattle.resetting.specs.Resets.{wrong_parity}

-- "Reset External/Status"
abbrev afresh : List Event
afresh = command 0 reset_status

-- to a mode, and by the other one back to it
abbrev to_sdlc : List Event
to_sdlc = set 0 4 sdlc_mode

abbrev to_asynchronous : List Event
to_asynchronous = set 0 4 one_stop

abbrev via_sdlc : List Event
via_sdlc = to_sdlc ++ to_asynchronous

abbrev via_characters : List Event
via_characters = to_asynchronous ++ to_sdlc

-- a character's start bit is out, a transmit interrupt being on
abbrev under_way : List Event
under_way = sending 0 one_stop ++ set 0 1 0b10 ++ writes 0 0 ++ ticks 0 1

-- two characters have come and one is read, the interrupt for first characters on
abbrev first_read : List Event
first_read = hearing 0 one_stop ++ set 0 1 0b1000 ++ char41 0 ++ char41 0 ++ takes 0 1

pub record Told (happens : Happens) : Type 0 where
  -- "An accepted WR4 that changes the mode": the same mode again, with other parity, cuts nothing
  pub same_mode_lem : reads happens (under_way ++ set 0 4 one_stop) 0 1 ≡ 0x00
  pub same_but_parity : reads happens (under_way ++ set 0 4 one_stop_odd) 0 1 ≡ 0x00
  -- a refused one changes nothing, "the register pointer included": the byte behind it is WR4 again
  pub pointer_stays : reads happens (set 0 4 0xFF ++ command 0 sdlc_mode) 0 0 ≡ 0x54
  -- "idles the sender as after a mark": no character is under way; no zero is owed, a flag begins
  pub idled : reads happens (under_way ++ via_sdlc) 0 1 ≡ 0x01
  pub nothing_owed :
      line happens (framing 0 ++ writes 0 0xF8 ++ ticks 0 16 ++ via_characters) 0 2
      ≡ 0 ∷ 1 ∷ []
  -- "keeps buffer and queue"
  pub buffer_kept : reads happens (writes 0 0xFF ++ to_asynchronous) 0 1 ≡ 0x00
  pub queue_kept : reads happens (hearing 0 one_stop ++ char41 0 ++ to_sdlc) 0 0 ≡ 0x55
  -- "clears D7"
  pub d7_clear :
      reads happens (hearing 0 one_stop ++ blank 0 ++ afresh ++ to_sdlc ++ afresh) 0 0 ≡ 0x55
  -- "drops the half-received character and frame", a wait for a 1 and the count of ones with them
  pub half_character :
      reads happens (hearing 0 one_stop ++ hears 0 1 0 ++ via_sdlc ++ ones 0 9) 0 0
      ≡ 0x54
  pub no_wait :
      reads happens (hearing 0 one_stop ++ cut41 0 ++ takes 0 1 ++ via_sdlc ++ char41 0) 0 0
      ≡ 0x55
  pub half_frame :
      reads happens
      (hearing 0 sdlc_mode ++ ones 0 5 ++ via_characters ++ hears 0 2 0b10 ++ afresh) 0 0 ≡ 0x54
  -- "and starts hunt in SDLC"
  pub hunts : reads happens to_sdlc 0 0 ≡ 0x54
  pub no_hunt : reads happens (to_sdlc ++ afresh ++ to_asynchronous) 0 0 ≡ 0x44
  -- no word names D6, the check, the armed flag, a pending transmit or RR1's latches
  pub d6_kept : reads happens (command 0 clear_underrun ++ to_asynchronous) 0 0 ≡ 0x04
  pub check_kept :
      line happens (framing 0 ++ writes 0 0 ++ ticks 0 16 ++ via_characters ++ writes 0 0) 0 32
      ≡ digits 32 0b01111110000000001110001011110000
  pub still_disarmed : reads happens (first_read ++ to_sdlc) 0 0 ≡ 0x55
  pub transmit_kept : reads happens (under_way ++ to_sdlc) 0 0 ≡ 0x56
  pub latches_kept : reads happens (wrong_parity ++ to_sdlc) 0 1 ≡ 0x11
  -- "With no mode, ticks send 1, break or not, and receive nothing."
  pub sends_ones : line happens (set 0 5 0b01111001 ++ writes 0 0) 0 2 ≡ 1 ∷ 1 ∷ []
  pub loads_nothing : reads happens (set 0 5 0b01111001 ++ writes 0 0 ++ ticks 0 2) 0 0 ≡ 0x40
  pub hears_nothing : reads happens (set 0 3 hear_eight ++ char41 0) 0 0 ≡ 0x44

pub told : Told happens
unfolding telling
told = record {
  same_mode_lem = refl;
  same_but_parity = refl;
  pointer_stays = refl;
  idled = refl;
  nothing_owed = refl;
  buffer_kept = refl;
  queue_kept = refl;
  d7_clear = refl;
  half_character = refl;
  no_wait = refl;
  half_frame = refl;
  hunts = refl;
  no_hunt = refl;
  d6_kept = refl;
  check_kept = refl;
  still_disarmed = refl;
  transmit_kept = refl;
  latches_kept = refl;
  sends_ones = refl;
  loads_nothing = refl;
  hears_nothing = refl;
}
