-- What a host reads behind an event, by the calls alone. Assumes nothing.
use Rattle.std.specs.Prelude.{List, [], ◌∷◌, ℕ, eqb, if◌then◌else◌}
use Rattle.channel.specs.Answer.{answer_number, answer_value}
use Rattle.chip.specs.declared.Chip.{Chip}
use Rattle.chip.specs.declared.Outcome.{Outcome}
use Rattle.chip.specs.Chip.{control_write, control_read_call}

-- 01, Registers: "Any control read .. uses the pointer and sets it to 0."
unfoldable pub pointed_at : Chip → ℕ → ℕ → Outcome
pointed_at c channel n = control_write (control_read_call c channel).chip channel n

-- so behind one a write of n to WR0 points at register n, and the next read gives it
unfoldable pub register_of : Chip → ℕ → ℕ → ℕ
register_of c channel n = answer_value (control_read_call (pointed_at c channel n).chip channel).answer

-- an event's numbers by their places: its refusal and its value, 0 for none; then RR0 and RR1 of
-- A, and RR0, RR1 and RR2 of B
unfoldable pub shown : Outcome → ℕ → ℕ
shown o k =
    if eqb k 0 then answer_number o.answer
    else (if eqb k 1 then answer_value o.answer
    else (if eqb k 2 then register_of o.chip 0 0
    else (if eqb k 3 then register_of o.chip 0 1
    else (if eqb k 4 then register_of o.chip 1 0
    else (if eqb k 5 then register_of o.chip 1 1
    else register_of o.chip 1 2)))))

-- all seven
abbrev pub numbers : Outcome → List ℕ
numbers o =
    shown o 0 ∷ shown o 1 ∷ shown o 2 ∷ shown o 3 ∷ shown o 4 ∷ shown o 5 ∷ shown o 6 ∷ []
