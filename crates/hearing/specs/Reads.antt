-- 02, P5: the clerk's tales. "A data read should say 'nothing waits' apart from a byte 0"; and 01,
-- Events, of the look that finds nothing: "A refusal changes nothing". Assumes nothing.
use Rattle.std.specs.Prelude.{◌≡◌, refl, List, [], ◌∷◌, ◌++◌}
use Rattle.channel.specs.declared.Answer.TheVariants.{Gave}
use Rattle.chip.specs.Event.{Event, ControlRead, DataRead}
use Rattle.tales.specs.Tale.{Happens, telling, answers, refusal, reads, bytes}
use Rattle.tales.specs.Words.{command, set, hears, takes, one_stop, hearing, char41}
use Rattle.hearing.specs.Happens.{happens}

-- A hears characters of eight bits, and the first one asks
abbrev clerk : List Event
clerk = hearing 0 one_stop ++ set 0 1 0b1000

-- 00 comes, with its start and stop
abbrev char00 : List Event
char00 = hears 0 10 0b0000000001

pub record Told (happens : Happens) : Type 0 where
  -- "10, data read with nothing waiting, after 1"
  pub empty : refusal happens clerk (DataRead 0) ≡ 10
  pub empty_again : refusal happens (clerk ++ takes 0 1) (DataRead 0) ≡ 10
  pub no_channel : refusal happens clerk (DataRead 2) ≡ 1
  -- a byte 00 that was sent comes back as itself, and what follows it is told as nothing
  pub zero_waits : refusal happens (clerk ++ char00) (DataRead 0) ≡ 0
  pub zero : bytes happens (clerk ++ char00) 0 1 ≡ 0 ∷ []
  pub behind_zero : refusal happens (clerk ++ char00 ++ takes 0 1) (DataRead 0) ≡ 10
  pub letter_waits : refusal happens (clerk ++ char41 0) (DataRead 0) ≡ 0
  pub letter : bytes happens (clerk ++ char41 0) 0 1 ≡ 0x41 ∷ []
  pub behind_letter : refusal happens (clerk ++ char41 0 ++ takes 0 1) (DataRead 0) ≡ 10
  -- "A refusal changes nothing": behind an empty look the first character still asks, RR0 D1
  pub armed : reads happens (clerk ++ takes 0 1 ++ char41 0) 0 0 ≡ 0x47
  -- the pointer stays at RR1, which shows all sent
  pub pointer : answers happens (clerk ++ command 0 1 ++ takes 0 1) (ControlRead 0) ≡ Gave 0x01
  -- the overrun latch stays: four characters came, three were read, and one look was empty
  pub latch :
      reads happens (clerk ++ char00 ++ char00 ++ char00 ++ char00 ++ takes 0 4) 0 1 ≡ 0x21

pub told : Told happens
unfolding telling
told = record {
  empty = refl;
  empty_again = refl;
  no_channel = refl;
  zero_waits = refl;
  zero = refl;
  behind_zero = refl;
  letter_waits = refl;
  letter = refl;
  behind_letter = refl;
  armed = refl;
  pointer = refl;
  latch = refl;
}
