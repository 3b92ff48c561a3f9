-- How a tale is told: events happen to a chip from a hard reset on, and then something is asked of
-- it and compared. What an event does is handed in, so that a wrong chip can be asked too. Assumes
-- nothing.
use Rattle.std.specs.Prelude.{List, [], ◌∷◌, ◌++◌, ℕ, zero, suc, ◌/◌, ◌%◌}
use Rattle.common.specs.Same.{same}
use Rattle.channel.specs.declared.Answer.{Answer}
use Rattle.channel.specs.Answer.{answer_number, answer_value}
use Rattle.chip.specs.declared.Chip.{Chip}
use Rattle.chip.specs.declared.Outcome.{Outcome}
use Rattle.chip.specs.Computing.{computing}
use Rattle.chip.specs.Chip.{hard_reset}
use Rattle.chip.specs.Event.{Event, ControlWrite, ControlRead, DataRead, Transmit, Acknowledge}

abbrev pub Happens : Type 0
Happens = Chip → Event → Outcome

unfoldable pub chip_behind : Happens → Chip → List Event → Chip
chip_behind h c [] = c
chip_behind h c (e ∷ es) = chip_behind h (h c e).chip es

-- the values that these events give, 0 where one gives none
unfoldable pub given : Happens → Chip → List Event → List ℕ
given h c [] = []
given h c (e ∷ es) = answer_value (h c e).answer ∷ given h (h c e).chip es

unfoldable pub times : ℕ → Event → List Event
times zero e = []
times (suc n) e = e ∷ times n e

-- behind a tale: what this event answers
abbrev pub answers : Happens → List Event → Event → Answer
answers h tale e = (h (chip_behind h hard_reset tale) e).answer

-- the number with which it is refused, 0 for none
abbrev pub refusal : Happens → List Event → Event → ℕ
refusal h tale e = answer_number (answers h tale e)

-- a register as its channel reads it
abbrev pub reads : Happens → List Event → ℕ → ℕ → ℕ
reads h tale ch rr =
    answer_value (answers h (tale ++ (ControlWrite ch rr ∷ [])) (ControlRead ch))

-- the vector of an acknowledge
abbrev pub vector : Happens → List Event → ℕ
vector h tale = answer_value (answers h tale Acknowledge)

-- the next n bits of a line
abbrev pub line : Happens → List Event → ℕ → ℕ → List ℕ
line h tale ch n = given h (chip_behind h hard_reset tale) (times n (Transmit ch))

-- what n data reads give
abbrev pub bytes : Happens → List Event → ℕ → ℕ → List ℕ
bytes h tale ch n = given h (chip_behind h hard_reset tale) (times n (DataRead ch))

-- the n binary digits of v, as they are written
unfoldable pub digits : ℕ → ℕ → List ℕ
digits zero v = []
digits (suc n) v = digits n (v / 2) ++ (v % 2 ∷ [])

-- all that a tale is computed by, opened together
unfoldable pub telling : ℕ
unfolding computing chip_behind given times digits same
telling = 0
