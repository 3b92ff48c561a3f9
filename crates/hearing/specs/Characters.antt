-- 01, Receiving: "Asynchronous: 0 starts a character as set on that tick; one stop bit is checked
-- and queues it. Unused high bits read 1; below eight bits a parity bit lies just above the data.
-- After a stop bit of 0 a 1 must come before the next start; if data and parity were 0 too, D7 sets
-- until that 1." And what on and off mean for it. Assumes nothing.
use Rattle.std.specs.Prelude.{◌≡◌, refl, List, [], ◌∷◌, ◌++◌, ℕ}
use Rattle.chip.specs.Event.{Event, SetLines}
use Rattle.tales.specs.Tale.{Happens, telling, reads, bytes}
use Rattle.tales.specs.Words.{command, set, hears, takes, reset_status, one_stop, two_stops}
use Rattle.tales.specs.Words.{one_stop_odd, one_stop_even, hear_eight, hearing, char41, cut41, blank}
use Rattle.tales.specs.Words.{ones}
use Rattle.hearing.specs.Happens.{happens}

-- "Reset External/Status"
abbrev afresh : List Event
afresh = command 0 reset_status

-- A in this mode with a WR3 for five, six or seven bits
abbrev short : ℕ → ℕ → List Event
short wr4 wr3 = set 0 4 wr4 ++ set 0 3 wr3

abbrev five : ℕ
five = 0b00000001

abbrev six : ℕ
six = 0b10000001

abbrev seven : ℕ
seven = 0b01000001

-- WR3, eight bits: off; with Enter Hunt; with auto enables, on and off
abbrev off : ℕ
off = 0b11000000

abbrev off_for : ℕ → List Event
off_for bit = set 0 3 off ++ hears 0 1 bit ++ set 0 3 hear_eight

abbrev hunts : ℕ
hunts = 0b11010001

abbrev enables : ℕ
enables = 0b11100001

-- 41 in eight bits with the parity bit of even parity, 0, and with a 1
abbrev evenly : List Event
evenly = hears 0 11 0b01000001001

abbrev oddly : List Event
oddly = hears 0 11 0b01000001011

pub record Told (happens : Happens) : Type 0 where
  pub eight_bits_lem : bytes happens (hearing 0 one_stop ++ char41 0) 0 1 ≡ 0x41 ∷ []
  -- "Unused high bits read 1; below eight bits a parity bit lies just above the data."; marked
  -- examples 6 and 7
  pub seven_bits : bytes happens (short one_stop_odd seven ++ hears 0 10 0b0100000111) 0 1 ≡ 0xC1 ∷ []
  pub six_bits : bytes happens (short one_stop six ++ hears 0 8 0b01111101) 0 1 ≡ 0xDF ∷ []
  pub five_bits : bytes happens (short one_stop_even five ++ hears 0 8 0b01000011) 0 1 ≡ 0xE1 ∷ []
  -- 02, P1: "the true rule for asynchronous sending": of what reads 111000DD and 1111000D all five
  -- bits are given
  pub no_shape :
      bytes happens (short one_stop five ++ hears 0 14 0b01000010100011) 0 2 ≡ 0xE1 ∷ 0xF1 ∷ []
  -- "WR4: D0 parity, D1 even"; RR1 "D4 parity"
  pub odd_wanted : reads happens (hearing 0 one_stop_odd ++ evenly) 0 1 ≡ 0x11
  pub odd_heard : reads happens (hearing 0 one_stop_odd ++ oddly) 0 1 ≡ 0x01
  pub even_wanted : reads happens (hearing 0 one_stop_even ++ oddly) 0 1 ≡ 0x11
  -- "as set on that tick": parity is switched off before the stop bit
  pub parity_as_set :
      reads happens (hearing 0 one_stop_even ++ char41 0 ++ set 0 4 one_stop ++ ones 0 1) 0 1
      ≡ 0x11
  -- "one stop bit is checked": RR1 "D6 framing error"; a second is no part of a character
  pub framing_error : reads happens (hearing 0 one_stop ++ cut41 0) 0 1 ≡ 0x41
  pub one_checked :
      bytes happens (hearing 0 two_stops ++ char41 0 ++ char41 0) 0 2 ≡ 0x41 ∷ 0x41 ∷ []
  -- "After a stop bit of 0 a 1 must come before the next start"
  pub no_start : reads happens (hearing 0 one_stop ++ cut41 0 ++ takes 0 1 ++ blank 0) 0 0 ≡ 0x44
  pub start_behind_1 :
      reads happens (hearing 0 one_stop ++ cut41 0 ++ takes 0 1 ++ ones 0 1 ++ char41 0) 0 0 ≡ 0x45
  -- "if data and parity were 0 too, D7 sets until that 1"
  pub no_break : reads happens (hearing 0 one_stop ++ cut41 0) 0 0 ≡ 0x45
  pub no_break_by_parity :
      reads happens (hearing 0 one_stop_odd ++ hears 0 11 0b00000000010) 0 0 ≡ 0x45
  pub breaks : reads happens (hearing 0 one_stop ++ blank 0) 0 0 ≡ 0xC5
  pub break_over : reads happens (hearing 0 one_stop ++ blank 0 ++ ones 0 1 ++ afresh) 0 0 ≡ 0x45
  -- "A tick while off clears D7, and .. drops the unfinished part"
  pub off_clears_d7 :
      reads happens (hearing 0 one_stop ++ blank 0 ++ afresh ++ off_for 0 ++ afresh) 0 0 ≡ 0x45
  pub off_drops :
      reads happens (hearing 0 one_stop ++ hears 0 1 0 ++ off_for 1 ++ ones 0 9) 0 0 ≡ 0x44
  -- "in SDLC a WR3 write with D4 set": not here
  pub no_hunt_here :
      reads happens (hearing 0 one_stop ++ hears 0 1 0 ++ set 0 3 hunts ++ ones 0 9) 0 0 ≡ 0x45
  -- "On means WR3 D0 and, with auto enables, DCD."
  pub no_dcd : reads happens (set 0 4 one_stop ++ set 0 3 enables ++ char41 0) 0 0 ≡ 0x44
  pub dcd :
      reads happens (set 0 4 one_stop ++ set 0 3 enables ++ (SetLines 0 1 0 ∷ []) ++ char41 0) 0 0
      ≡ 0x4D
  pub dcd_alone :
      reads happens (set 0 4 one_stop ++ set 0 3 0b11100000 ++ (SetLines 0 1 0 ∷ []) ++ char41 0) 0 0
      ≡ 0x4C

pub told : Told happens
unfolding telling
told = record {
  eight_bits_lem = refl;
  seven_bits = refl;
  six_bits = refl;
  five_bits = refl;
  no_shape = refl;
  odd_wanted = refl;
  odd_heard = refl;
  even_wanted = refl;
  parity_as_set = refl;
  framing_error = refl;
  one_checked = refl;
  no_start = refl;
  start_behind_1 = refl;
  no_break = refl;
  no_break_by_parity = refl;
  breaks = refl;
  break_over = refl;
  off_clears_d7 = refl;
  off_drops = refl;
  no_hunt_here = refl;
  no_dcd = refl;
  dcd = refl;
  dcd_alone = refl;
}
