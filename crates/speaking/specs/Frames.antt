-- 01, Sending: "SDLC goes in units": what follows what, zeros owed, the check, break and Send
-- Abort. Assumes nothing.
use Rattle.std.specs.Prelude.{◌≡◌, refl, List, [], ◌∷◌, ◌++◌, ℕ}
use Rattle.chip.specs.Event.{Event}
use Rattle.tales.specs.Tale.{Happens, telling, digits, reads, line}
use Rattle.tales.specs.Words.{command, set, writes, ticks, send_abort, reset_status, preset_sent}
use Rattle.tales.specs.Words.{clear_underrun, sdlc_mode, send_eight, send_checked, framing, byte_waits}
use Rattle.speaking.specs.Happens.{happens}

-- A in SDLC with the latch cleared; the check is not included
abbrev unchecked : List Event
unchecked = set 0 4 sdlc_mode ++ set 0 5 send_eight ++ command 0 clear_underrun

-- WR5: on, length 00, no check
abbrev five : List Event
five = set 0 5 0b00001000

-- the byte 00 has been sent to its last bit, and four bits of its check
abbrev sent : List Event
sent = byte_waits 0 ++ ticks 0 16

abbrev checking : List Event
checking = byte_waits 0 ++ ticks 0 20

-- the twelve bits of that check that are left, and the flag behind them
abbrev check_rest : List ℕ
check_rest = digits 12 0b111000001111

abbrev flag_bits : List ℕ
flag_bits = digits 8 0b01111110

-- WR5: eight bits, the check included, off; with a break
abbrev off : List Event
off = set 0 5 0b01100001

abbrev broken : List Event
broken = set 0 5 0b01111001

pub record Told (happens : Happens) : Type 0 where
  -- marked examples 1 to 3: "mark (1 tick), flag, byte (low bit first), check (16)", the zero
  -- that is owed "sent next, even before the flag"
  pub byte_00 :
      line happens (byte_waits 0x00) 0 40 ≡ digits 40 0b0111111000000000000111100000111101111110
  pub byte_ff :
      line happens (byte_waits 0xFF) 0 42 ≡ digits 42 0b011111101111101110000000011111011101111110
  pub byte_88 :
      line happens (byte_waits 0x88) 0 41 ≡ digits 41 0b01111110000100010001110000011111001111110
  -- "In SDLC all characters have eight bits .. no matter what WR3, WR4, WR5 and WR7 hold."; 02, P1:
  -- "the true rule for asynchronous sending": F0, 1111000D, is eight bits here
  pub no_shape :
      line happens (set 0 4 sdlc_mode ++ five ++ writes 0 0xF0) 0 16
      ≡ flag_bits ++ digits 8 0b00001111
  -- "After five ones in a row in byte and check bits, counted on from the opening flag": over two
  -- bytes, and from a byte into its check
  pub over_bytes :
      line happens (byte_waits 0xE0 ++ ticks 0 9 ++ writes 0 0x03) 0 16
      ≡ digits 16 0b0000111110000000
  pub into_check :
      line happens (byte_waits 0xF0) 0 41 ≡ digits 41 0b01111110000011111011011111011000000111111
  -- "After byte: .. if the latch is clear and WR5 D0 set, check, otherwise flag; either sets the
  -- latch"
  pub no_check :
      line happens (unchecked ++ writes 0 0) 0 24 ≡ digits 16 0b0111111000000000 ++ flag_bits
  pub flag_latches :
      reads happens (unchecked ++ writes 0 0 ++ command 0 reset_status ++ ticks 0 17) 0 0 ≡ 0x54
  pub latched_no_check :
      line happens (set 0 4 sdlc_mode ++ set 0 5 send_checked ++ writes 0 0 ++ ticks 0 16) 0 8
      ≡ flag_bits
  -- "After check: flag.", though a byte waits
  pub flag_behind_check : line happens (checking ++ writes 0 0x55) 0 20 ≡ check_rest ++ flag_bits
  -- "taken at its first bit. Sending it leaves the generator alone": a preset does not change it
  pub check_taken : line happens (checking ++ command 0 preset_sent) 0 12 ≡ check_rest
  -- "A byte enters the check at its load if WR5 D0 is set."
  pub not_entered :
      line happens (unchecked ++ writes 0 0 ++ ticks 0 16 ++ writes 0 0 ++ set 0 5 send_checked) 0 24
      ≡ digits 24 0b000000000001111000001111
  -- "if off, mark", D6 as it was; "Only an abort, reset or mode change cuts a unit short."
  pub flag_finished : line happens (framing 0 ++ ticks 0 2 ++ off) 0 8 ≡ digits 8 0b11111011
  pub check_finished : line happens (checking ++ set 0 5 send_eight) 0 12 ≡ check_rest
  pub mark_behind_byte : line happens (sent ++ off) 0 2 ≡ 1 ∷ 1 ∷ []
  pub no_underrun : reads happens (sent ++ off ++ ticks 0 1 ++ command 0 reset_status) 0 0 ≡ 0x14
  -- RR0 "D2 transmit buffer empty and no check being sent"
  pub no_d2 : reads happens (sent ++ ticks 0 1) 0 0 ≡ 0x50
  pub d2_again : reads happens (sent ++ ticks 0 17) 0 0 ≡ 0x54
  -- "Break sends 0 in place of each bit while the steps go on.": the ones of FF are counted
  pub broken_flag : line happens (framing 0 ++ broken) 0 3 ≡ 0 ∷ 0 ∷ 0 ∷ []
  pub counted_on :
      line happens (byte_waits 0xFF ++ broken ++ ticks 0 13 ++ set 0 5 send_checked) 0 2 ≡ 0 ∷ 1 ∷ []
  -- "Send Abort (SDLC, on, no abort under way; else nothing)": "A unit is under way until the next
  -- one's first bit"
  pub aborted : line happens (sent ++ command 0 send_abort) 0 16 ≡ digits 16 0b1111111101111110
  -- and drops the byte in the buffer: RR0 D2
  pub buffer_dropped :
      reads happens (byte_waits 0 ++ ticks 0 9 ++ writes 0 0 ++ command 0 send_abort) 0 0 ≡ 0x54
  pub abort_once :
      line happens (sent ++ command 0 send_abort ++ ticks 0 8 ++ command 0 send_abort) 0 8 ≡ flag_bits
  pub no_abort_off :
      reads happens (framing 0 ++ off ++ command 0 send_abort ++ command 0 reset_status) 0 0 ≡ 0x14

pub told : Told happens
unfolding telling
told = record {
  byte_00 = refl;
  byte_ff = refl;
  byte_88 = refl;
  no_shape = refl;
  over_bytes = refl;
  into_check = refl;
  no_check = refl;
  flag_latches = refl;
  latched_no_check = refl;
  flag_behind_check = refl;
  check_taken = refl;
  not_entered = refl;
  flag_finished = refl;
  check_finished = refl;
  mark_behind_byte = refl;
  no_underrun = refl;
  no_d2 = refl;
  d2_again = refl;
  broken_flag = refl;
  counted_on = refl;
  aborted = refl;
  buffer_dropped = refl;
  abort_once = refl;
  no_abort_off = refl;
}
