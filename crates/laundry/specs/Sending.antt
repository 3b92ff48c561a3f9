-- 02, P3, sending: "Monosync sends WR6"; "At an underrun the sender sends sync characters, before
-- them the check if the latch is clear and WR5 D0 set, and sets the latch. WR5 D2 = 1 chooses
-- x^16+x^15+x^2+1, .. preset to zeros here and not complemented." Assumes nothing.
use Rattle.std.specs.Prelude.{◌≡◌, refl, List, ◌++◌}
use Rattle.chip.specs.Event.{Event}
use Rattle.tales.specs.Tale.{Happens, telling, digits, line, reads}
use Rattle.tales.specs.Words.{command, set, writes, ticks, preset_sent, clear_underrun, reset_status}
use Rattle.laundry.specs.Happens.{happens}

-- A in Monosync, sync 16, WR7 another byte; on, CRC-16, check included, preset
abbrev monosync : List Event
monosync =
    set 0 4 0 ++ (set 0 6 0x16 ++ (set 0 7 0x35 ++ (set 0 5 0b1101 ++ command 0 preset_sent)))

abbrev cleared : List Event
cleared =
    monosync ++ (command 0 clear_underrun ++ (command 0 reset_status ++ command 0 reset_status))

-- 41 is written within a sync
abbrev one : List Event
one = ticks 0 8 ++ writes 0 0x41

pub record Told (happens : Happens) : Type 0 where
  -- "Monosync sends WR6"
  pub sync : line happens cleared 0 8 ≡ digits 8 0b01101000
  -- "before them the check": CRC-16 of 41 from zeros is 30C0, and goes out as C0 30; a sync behind
  -- it
  pub checked :
      line happens (cleared ++ one) 0 32
      ≡ digits 8 0b10000010 ++ (digits 16 0b0000001100001100 ++ digits 8 0b01101000)
  -- "if the latch is clear"
  pub unchecked :
      line happens (monosync ++ one) 0 16 ≡ digits 8 0b10000010 ++ digits 8 0b01101000
  -- "and sets the latch": D6 with the check's first bit, D2 is 0
  pub latch_clear : reads happens (cleared ++ (one ++ ticks 0 8)) 0 0 ≡ 0x14
  pub latch_set : reads happens (cleared ++ (one ++ ticks 0 9)) 0 0 ≡ 0x50

pub told : Told happens
unfolding telling
told = record {
  sync = refl;
  checked = refl;
  unchecked = refl;
  latch_clear = refl;
  latch_set = refl;
}
