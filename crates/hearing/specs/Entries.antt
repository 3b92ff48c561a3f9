-- 01, Receiving: "The queue has three entries; a fourth replaces the newest and is marked
-- overrun. A data read takes the oldest"; Registers: RR1 "D6 and D7 are the oldest entry's; D4
-- and D5 are latched when an entry so marked becomes the oldest, until Error Reset." Assumes
-- nothing.
use Rattle.std.specs.Prelude.{◌≡◌, refl, List, [], ◌∷◌, ◌++◌}
use Rattle.chip.specs.Event.{Event}
use Rattle.tales.specs.Tale.{Happens, telling, reads, bytes}
use Rattle.tales.specs.Words.{command, hears, takes, ones, reset_errors, one_stop, one_stop_odd}
use Rattle.tales.specs.Words.{hearing}
use Rattle.tales.specs.Words.{char41, cut41}
use Rattle.hearing.specs.Happens.{happens}

-- four characters, 41 to 44
abbrev four : List Event
four =
    hearing 0 one_stop ++ char41 0 ++ hears 0 10 0b0010000101 ++ hears 0 10 0b0110000101
    ++ hears 0 10 0b0001000101

-- two of 41, and another
abbrev two_and : List Event → List Event
two_and third = hearing 0 one_stop ++ char41 0 ++ char41 0 ++ third

-- 41 with a right and with a wrong parity bit, odd parity being set
abbrev right : List Event
right = hears 0 11 0b01000001011

abbrev wrong : List Event
wrong = hears 0 11 0b01000001001

pub record Told (happens : Happens) : Type 0 where
  -- "a fourth replaces the newest and is marked overrun": its own marks stay, the replaced one's go
  pub replaced : bytes happens four 0 3 ≡ 0x41 ∷ 0x42 ∷ 0x44 ∷ []
  pub overrun : reads happens (four ++ takes 0 2) 0 1 ≡ 0x21
  pub marks_gone :
      reads happens (two_and (cut41 0) ++ ones 0 1 ++ char41 0 ++ takes 0 2) 0 1 ≡ 0x21
  pub marks_kept :
      reads happens (hearing 0 one_stop_odd ++ right ++ right ++ right ++ wrong ++ takes 0 2) 0 1
      ≡ 0x31
  -- "D4 and D5 are latched when an entry so marked becomes the oldest, until Error Reset"
  pub not_oldest : reads happens (hearing 0 one_stop_odd ++ right ++ wrong) 0 1 ≡ 0x01
  pub oldest : reads happens (hearing 0 one_stop_odd ++ right ++ wrong ++ takes 0 1) 0 1 ≡ 0x11
  pub latched : reads happens (hearing 0 one_stop_odd ++ wrong ++ right ++ takes 0 1) 0 1 ≡ 0x11
  pub overrun_latched : reads happens (four ++ takes 0 3) 0 1 ≡ 0x21
  pub error_reset_lem : reads happens (four ++ takes 0 2 ++ command 0 reset_errors) 0 1 ≡ 0x01
  pub queue_stays : reads happens (four ++ takes 0 2 ++ command 0 reset_errors) 0 0 ≡ 0x45
  -- "D6 and D7 are the oldest entry's"
  pub d6_of_the_oldest :
      reads happens (hearing 0 one_stop ++ cut41 0 ++ ones 0 1 ++ char41 0 ++ takes 0 1) 0 1 ≡ 0x01

pub told : Told happens
unfolding telling
told = record {
  replaced = refl;
  overrun = refl;
  marks_gone = refl;
  marks_kept = refl;
  not_oldest = refl;
  oldest = refl;
  latched = refl;
  overrun_latched = refl;
  error_reset_lem = refl;
  queue_stays = refl;
  d6_of_the_oldest = refl;
}
