-- 01, Registers: "A channel reset zeroes the WRs, empties buffer and queue, leaves no mode, sets
-- D6, clears D7 and RR1 D4 and D5, arms the first-character interrupt, presets both checks to ones,
-- ends that channel's pending and in-service sources and unlatches external status. A hard reset is
-- that for both, with DCD and CTS off." Each word by a tale. Assumes nothing.
use Rattle.std.specs.Prelude.{◌≡◌, refl, List, [], ◌∷◌, ◌++◌, ℕ}
use Rattle.channel.specs.declared.Answer.TheVariants.{Gave}
use Rattle.chip.specs.Event.{Event, HardReset, ControlRead, SetLines, Acknowledge}
use Rattle.tales.specs.Tale.{Happens, telling, digits, answers, refusal, reads, line}
use Rattle.tales.specs.Words.{command, set, hears, writes, takes, ticks, channel_reset, reset_status}
use Rattle.tales.specs.Words.{clear_underrun, one_stop, one_stop_odd, sdlc_mode, hear_eight, send_eight}
use Rattle.tales.specs.Words.{hearing, sending, framing, char41, blank, flag, frame00}
use Rattle.resetting.specs.Happens.{happens}

abbrev afresh : List Event
afresh = command 0 reset_status

abbrev reset : List Event
reset = command 0 channel_reset

-- 41 in eight bits with the parity bit of even parity, while odd is set
abbrev pub wrong_parity : List Event
wrong_parity = hearing 0 one_stop_odd ++ hears 0 11 0b01000001001

-- A has read a first character, its interrupt for first characters on
abbrev first_read : List Event
first_read = hearing 0 one_stop ++ set 0 1 0b1000 ++ char41 0 ++ takes 0 1

-- a byte 00 has entered A's check
abbrev checked : List Event
checked = framing 0 ++ writes 0 0 ++ ticks 0 16

-- DCD has asked, and was taken
abbrev served : ℕ → List Event
served ch = set ch 1 0b1 ++ (SetLines ch 1 0 ∷ Acknowledge ∷ [])

pub record Told (happens : Happens) : Type 0 where
  -- "zeroes the WRs": no external interrupt, receiver off, sender off, address 0, vector 0
  pub wr1_zero : reads happens (set 0 1 0b1 ++ reset ++ (SetLines 0 1 0 ∷ [])) 0 0 ≡ 0x4C
  pub wr3_zero :
      reads happens (set 0 3 hear_eight ++ reset ++ set 0 4 sdlc_mode ++ afresh ++ flag 0) 0 0
      ≡ 0x54
  pub wr5_zero :
      line happens (set 0 5 send_eight ++ reset ++ set 0 4 one_stop ++ writes 0 0) 0 1 ≡ 1 ∷ []
  pub wr6_zero :
      reads happens
      (set 0 6 0xC2 ++ reset ++ set 0 4 sdlc_mode ++ set 0 3 0b11000101 ++ frame00 0) 0 0 ≡ 0x55
  pub wr2_zero : reads happens (set 1 2 0xF1 ++ command 1 channel_reset) 1 2 ≡ 0
  -- "empties buffer and queue"
  pub buffer_empty : reads happens (writes 0 0xFF ++ reset) 0 0 ≡ 0x44
  pub queue_empty : reads happens (hearing 0 one_stop ++ char41 0 ++ reset) 0 0 ≡ 0x44
  -- "leaves no mode": neither hunt nor a tick of SDLC
  pub no_mode : reads happens (set 0 4 sdlc_mode ++ reset ++ hears 0 1 1) 0 0 ≡ 0x44
  -- "sets D6, clears D7 and RR1 D4 and D5"
  pub d6_set : reads happens (command 0 clear_underrun ++ reset) 0 0 ≡ 0x44
  pub d7_clear : reads happens (hearing 0 one_stop ++ blank 0 ++ reset) 0 0 ≡ 0x44
  pub d4_clear : reads happens (wrong_parity ++ reset) 0 1 ≡ 0x01
  -- "arms the first-character interrupt"
  pub armed :
      reads happens (first_read ++ reset ++ hearing 0 one_stop ++ set 0 1 0b1000 ++ char41 0) 0 0
      ≡ 0x47
  -- "presets both checks to ones": the frame of 00 is marked example 1's
  pub preset :
      line happens (checked ++ reset ++ framing 0 ++ writes 0 0) 0 40
      ≡ digits 40 0b0111111000000000000111100000111101111110
  -- "ends that channel's pending and in-service sources", and no other's
  pub transmit_ended :
      reads happens (sending 0 one_stop ++ set 0 1 0b10 ++ writes 0 0 ++ ticks 0 1 ++ reset) 0 0
      ≡ 0x44
  pub service_ended :
      refusal happens (served 0 ++ reset ++ set 0 1 0b1 ++ (SetLines 0 0 0 ∷ [])) Acknowledge ≡ 0
  pub service_of_b : refusal happens (served 1 ++ reset) Acknowledge ≡ 4
  pub service_ended_in_b :
      refusal happens
      (served 1 ++ command 1 channel_reset ++ set 1 1 0b1 ++ (SetLines 1 0 0 ∷ [])) Acknowledge ≡ 0
  pub service_of_a : refusal happens (served 0 ++ command 1 channel_reset) Acknowledge ≡ 4
  -- "unlatches external status", and latches nothing itself; the lines are as they were
  pub unlatched : reads happens ((SetLines 0 1 1 ∷ []) ++ reset ++ set 0 1 0b1) 0 0 ≡ 0x6C
  pub nothing_latched :
      reads happens (command 0 clear_underrun ++ reset ++ (SetLines 0 1 0 ∷ [])) 0 0 ≡ 0x4C
  -- "Channel Reset ignores the other fields."
  pub no_pointer : answers happens (command 0 0b00011001) (ControlRead 0) ≡ Gave 0x44
  pub no_d7_d6 : reads happens (command 0 0b11011000) 0 0 ≡ 0x44
  -- "A hard reset is that for both, with DCD and CTS off."
  pub lines_off : reads happens (SetLines 0 1 1 ∷ HardReset ∷ []) 0 0 ≡ 0x44
  pub b_too :
      reads happens (command 1 clear_underrun ++ (SetLines 1 1 1 ∷ HardReset ∷ [])) 1 0 ≡ 0x44

pub told : Told happens
unfolding telling
told = record {
  wr1_zero = refl;
  wr3_zero = refl;
  wr5_zero = refl;
  wr6_zero = refl;
  wr2_zero = refl;
  buffer_empty = refl;
  queue_empty = refl;
  no_mode = refl;
  d6_set = refl;
  d7_clear = refl;
  d4_clear = refl;
  armed = refl;
  preset = refl;
  transmit_ended = refl;
  service_ended = refl;
  service_of_b = refl;
  service_ended_in_b = refl;
  service_of_a = refl;
  unlatched = refl;
  nothing_latched = refl;
  no_pointer = refl;
  no_d7_d6 = refl;
  lines_off = refl;
  b_too = refl;
}
