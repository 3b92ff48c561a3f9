-- 01, Sending: "Asynchronous: start 0, the low bits, parity, stop ones. A character is loaded on
-- the tick of its start bit, if on, the buffer is full and none is under way, and is then
-- finished as set on that tick; otherwise the tick sends 1. Outside SDLC, all sent means no
-- character under way and the buffer empty." Assumes nothing.
use Rattle.std.specs.Prelude.{◌≡◌, refl, List, [], ◌∷◌, ◌++◌, ℕ}
use Rattle.chip.specs.Event.{Event, SetLines}
use Rattle.tales.specs.Tale.{Happens, telling, digits, reads, line}
use Rattle.tales.specs.Words.{set, writes, ticks, one_stop, two_stops, one_stop_odd}
use Rattle.tales.specs.Words.{one_stop_even, sdlc_mode, send_eight}
use Rattle.speaking.specs.Happens.{happens}

-- A is set so, by WR4 and WR5, and given this byte
abbrev sends : ℕ → ℕ → ℕ → List Event
sends wr4 wr5 v = set 0 4 wr4 ++ set 0 5 wr5 ++ writes 0 v

-- WR5 with the sender on, by its character's length
abbrev five : ℕ
five = 0b00001000

abbrev six : ℕ
six = 0b01001000

abbrev seven : ℕ
seven = 0b00101000

-- eight bits with the sender off, and with a break
abbrev off : ℕ
off = 0b01100000

abbrev broken : ℕ
broken = 0b01111000

-- WR3: auto enables
abbrev enables : List Event
enables = set 0 3 0b00100000

pub record Told (happens : Happens) : Type 0 where
  -- "start 0, the low bits, parity, stop ones"; marked example 5
  pub eight_bits_lem : line happens (sends one_stop send_eight 0x41) 0 11 ≡ digits 11 0b01000001011
  pub seven_bits : line happens (sends one_stop seven 0x3F) 0 10 ≡ digits 10 0b0111111011
  pub six_bits : line happens (sends one_stop six 0x1F) 0 9 ≡ digits 9 0b011111011
  pub five_bits : line happens (sends one_stop five 0x0F) 0 8 ≡ digits 8 0b01111011
  -- "stop bits 01 one, 11 two"
  pub two_stops_lem : reads happens (sends two_stops send_eight 0 ++ ticks 0 10) 0 1 ≡ 0x00
  pub two_stops_sent : reads happens (sends two_stops send_eight 0 ++ ticks 0 11) 0 1 ≡ 0x01
  -- "WR4: D0 parity, D1 even": of the bits that are sent
  pub odd_parity : line happens (sends one_stop_odd seven 0x41) 0 10 ≡ digits 10 0b0100000111
  pub even_parity_lem : line happens (sends one_stop_even seven 0x41) 0 10 ≡ digits 10 0b0100000101
  pub parity_of_five : line happens (sends one_stop_odd five 0x20) 0 8 ≡ digits 8 0b00000011
  -- "is then finished as set on that tick": with another length, and off
  pub length_as_set :
      line happens (sends one_stop send_eight 0 ++ ticks 0 1 ++ set 0 5 five) 0 9
      ≡ digits 9 0b000000001
  pub finished_off :
      line happens (sends one_stop send_eight 0 ++ ticks 0 1 ++ set 0 5 off) 0 9
      ≡ digits 9 0b000000001
  -- "A data write fills the buffer, replacing what is there."
  pub replaced : line happens (sends one_stop send_eight 0 ++ writes 0 0xFF) 0 2 ≡ 0 ∷ 1 ∷ []
  -- "if on, the buffer is full and none is under way; otherwise the tick sends 1"
  pub off_waits : line happens (sends one_stop off 0) 0 2 ≡ 1 ∷ 1 ∷ []
  pub one_by_one :
      line happens (sends one_stop send_eight 0 ++ ticks 0 1 ++ writes 0 0xFF) 0 11
      ≡ digits 11 0b00000000101
  -- "all sent means no character under way and the buffer empty"
  pub not_sent : reads happens (sends one_stop send_eight 0) 0 1 ≡ 0x00
  pub under_way_lem : reads happens (sends one_stop send_eight 0 ++ ticks 0 9) 0 1 ≡ 0x00
  pub all_sent_lem : reads happens (sends one_stop send_eight 0 ++ ticks 0 10) 0 1 ≡ 0x01
  -- "Events on B never change A's .., nor the reverse": B has no mode, and its byte is not sent
  pub byte_in_b : reads happens (set 0 4 sdlc_mode ++ writes 1 7) 1 1 ≡ 0x00
  -- "Break sends 0 in place of each bit while the steps go on.": off or on
  pub break_off : line happens (set 0 4 one_stop ++ set 0 5 0b00010000) 0 2 ≡ 0 ∷ 0 ∷ []
  pub break_goes_on :
      line happens (sends one_stop broken 0x0F ++ ticks 0 5 ++ set 0 5 send_eight) 0 5
      ≡ digits 5 0b00001
  -- "On means WR5 D3 and, with auto enables, CTS."
  pub no_cts : line happens (enables ++ sends one_stop send_eight 0) 0 1 ≡ 1 ∷ []
  pub cts :
      line happens (enables ++ (SetLines 0 0 1 ∷ []) ++ sends one_stop send_eight 0) 0 1 ≡ 0 ∷ []
  pub cts_alone :
      line happens (enables ++ (SetLines 0 0 1 ∷ []) ++ sends one_stop off 0) 0 1 ≡ 1 ∷ []

pub told : Told happens
unfolding telling
told = record {
  eight_bits_lem = refl;
  seven_bits = refl;
  six_bits = refl;
  five_bits = refl;
  two_stops_lem = refl;
  two_stops_sent = refl;
  odd_parity = refl;
  even_parity_lem = refl;
  parity_of_five = refl;
  length_as_set = refl;
  finished_off = refl;
  replaced = refl;
  off_waits = refl;
  one_by_one = refl;
  not_sent = refl;
  under_way_lem = refl;
  all_sent_lem = refl;
  byte_in_b = refl;
  break_off = refl;
  break_goes_on = refl;
  no_cts = refl;
  cts = refl;
  cts_alone = refl;
}
