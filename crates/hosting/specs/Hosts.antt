-- Demand 3 of hosts that are not punctual, and the flag's own bits. Assumes nothing.
use Rattle.std.specs.Prelude.{◌≡◌, refl, List, ◌++◌}
use Rattle.chip.specs.Event.{Event}
use Rattle.tales.specs.Tale.{Happens, telling, digits, reads, line}
use Rattle.tales.specs.Words.{command, hears, writes, takes, ticks, send_abort, preset_sent}
use Rattle.tales.specs.Words.{clear_underrun, sdlc_mode, hearing, framing, byte_waits, flag, ones}
use Rattle.hosting.specs.Happens.{happens}

-- WR0: the next frame's check and latch
abbrev anew : List Event
anew = command 0 preset_sent ++ command 0 clear_underrun

-- F8 owes a zero behind its last bit, so it lasts nine ticks: 55 comes behind the eighth tick after
-- its load
abbrev ninth : List Event
ninth = byte_waits 0xF8 ++ ticks 0 17 ++ writes 0 0x55

-- Send Abort amid the byte 00; then 55, behind a preset and a clear
abbrev behind_abort : List Event
behind_abort = byte_waits 0 ++ ticks 0 12 ++ command 0 send_abort ++ anew ++ writes 0 0x55

-- A hears seven bytes of a frame and is not read; then an abort and a flag
abbrev overflown : List Event
overflown = hearing 0 sdlc_mode ++ flag 0 ++ hears 0 56 0 ++ ones 0 8 ++ flag 0

-- the frame of 00 is out, and the next note's byte waits
abbrev next_note : List Event
next_note = byte_waits 0 ++ ticks 0 40 ++ anew ++ writes 0 0

pub record Told (happens : Happens) : Type 0 where
  -- "After mark or abort: flag"
  pub behind_mark : line happens (framing 0) 0 8 ≡ digits 8 0b01111110
  -- "the frame holds just the bytes loaded so far": and this one is loaded
  pub ninth_loaded : line happens ninth 0 8 ≡ digits 8 0b10101010
  -- "bytes written after the abort belong to another frame": eight ones, a flag, 55
  pub after_abort : line happens behind_abort 0 24 ≡ digits 24 0b111111110111111010101010
  -- "never reports an end for the frame": neither the oldest entry nor the one that overran has an
  -- end mark
  pub oldest_no_end : reads happens overflown 0 1 ≡ 0x01
  pub newest_no_end : reads happens (overflown ++ takes 0 2) 0 1 ≡ 0x21
  -- "one 0 is owed and sent next, even before the flag": the frame of 88 ends so
  pub zero_before_flag : line happens (byte_waits 0x88 ++ ticks 0 32) 0 9 ≡ digits 9 0b001111110
  -- "a closing flag opens the next frame"
  pub one_flag : line happens next_note 0 32 ≡ digits 32 0b00000000000111100000111101111110

pub told : Told happens
unfolding telling
told = record {
  behind_mark = refl;
  ninth_loaded = refl;
  after_abort = refl;
  oldest_no_end = refl;
  newest_no_end = refl;
  zero_before_flag = refl;
  one_flag = refl;
}
