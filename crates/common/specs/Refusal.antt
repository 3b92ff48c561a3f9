-- 01, Events, and 02: the number that the paper gives each refusal. Assumes nothing.
use Rattle.std.specs.Prelude.{ℕ, Result, Ok, Err}
use Rattle.common.specs.declared.Refusal.{Refusal}
use Rattle.common.specs.declared.Refusal.TheVariants.{Channel, Level, Setting, NothingWaits}
use Rattle.common.specs.declared.Refusal.TheVariants.{NoList, NoteLength, CutList, NoRoom}
use Rattle.common.specs.declared.Refusal.TheVariants.{LongList, NoCharacter}

abbrev pub number_of : Refusal → ℕ
number_of Channel = 1
number_of Level = 2
number_of Setting = 3
number_of NothingWaits = 4
number_of NoList = 5
number_of NoteLength = 6
number_of CutList = 7
number_of NoRoom = 8
number_of LongList = 9
number_of NoCharacter = 10

-- of an answer that may be a refusal: 0 where it is none
abbrev pub number_in : {T : Type 0} → Result T Refusal → ℕ
number_in (Ok x) = 0
number_in (Err k) = number_of k

-- the number that it gives: 0 where it is a refusal
abbrev pub value_in : Result ℕ Refusal → ℕ
value_in (Ok x) = x
value_in (Err k) = 0
