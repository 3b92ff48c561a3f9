-- 01, Interrupts: which sources are pending. RR0 D1 of A, "any source pending", shows it: 2 in the
-- last digit. Assumes nothing.
use Rattle.std.specs.Prelude.{◌≡◌, refl, List, [], ◌∷◌, ◌++◌, ℕ}
use Rattle.chip.specs.Event.{Event, SetLines}
use Rattle.tales.specs.Tale.{Happens, telling, reads}
use Rattle.tales.specs.Words.{command, set, writes, takes, ticks, arm, reset_transmit, one_stop}
use Rattle.tales.specs.Words.{hearing, sending, char41, cut41}
use Rattle.asking.specs.Happens.{happens}

-- A hears in this receive mode, two characters come and one is read
abbrev one_read : ℕ → List Event
one_read mode = hearing 0 one_stop ++ set 0 1 mode ++ char41 0 ++ char41 0 ++ takes 0 1

abbrev three : List Event
three = char41 0 ++ char41 0 ++ char41 0

-- A sends a character with this WR1; its start bit is out
abbrev loaded : ℕ → List Event
loaded wr1 = sending 0 one_stop ++ set 0 1 wr1 ++ writes 0 0x41 ++ ticks 0 1

-- DCD goes on with this WR1
abbrev carrier : ℕ → List Event
carrier wr1 = set 0 1 wr1 ++ (SetLines 0 1 0 ∷ [])

pub record Told (happens : Happens) : Type 0 where
  -- "Receive is pending by mode if a character waits (mode 1: and armed)"
  pub none_by_mode_0 : reads happens (one_read 0) 0 0 ≡ 0x45
  pub all_by_mode_3 : reads happens (one_read 0b11000) 0 0 ≡ 0x47
  -- "A data read takes the oldest and disarms the first-character interrupt"
  pub disarmed : reads happens (one_read 0b01000) 0 0 ≡ 0x45
  -- "4 arm first-character interrupt"; one that waits counts
  pub armed_again : reads happens (one_read 0b01000 ++ command 0 arm) 0 0 ≡ 0x47
  -- "or, modes 1 to 3, if the oldest entry is special: .. framing": armed or not
  pub special_disarmed : reads happens (one_read 0b01000 ++ takes 0 1 ++ cut41 0) 0 0 ≡ 0x47
  -- "special: overrun"
  pub overrun_special : reads happens (one_read 0b01000 ++ three ++ takes 0 2) 0 0 ≡ 0x47
  -- "Transmit: set by a load while WR1 D1 is set"
  pub load_sets : reads happens (loaded 0b10) 0 0 ≡ 0x46
  pub no_load_without_d1 : reads happens (loaded 0 ++ set 0 1 0b10) 0 0 ≡ 0x44
  -- "ended by data write, command 5 or D1 off"
  pub data_write_ends : reads happens (loaded 0b10 ++ writes 0 0x41) 0 0 ≡ 0x40
  pub command_5_ends : reads happens (loaded 0b10 ++ command 0 reset_transmit) 0 0 ≡ 0x44
  pub d1_off_ends : reads happens (loaded 0b10 ++ set 0 1 0 ++ set 0 1 0b10) 0 0 ≡ 0x44
  -- "External: latched and WR1 D0."
  pub external : reads happens (carrier 1) 0 0 ≡ 0x4E
  pub no_external_without_d0 : reads happens (carrier 0) 0 0 ≡ 0x4C

pub told : Told happens
unfolding telling
told = record {
  none_by_mode_0 = refl;
  all_by_mode_3 = refl;
  disarmed = refl;
  armed_again = refl;
  special_disarmed = refl;
  overrun_special = refl;
  load_sets = refl;
  no_load_without_d1 = refl;
  data_write_ends = refl;
  command_5_ends = refl;
  d1_off_ends = refl;
  external = refl;
  no_external_without_d0 = refl;
}
