-- 01, Note list and line: what sending a list tells, note by note and in all. Assumes nothing.
use Rattle.std.specs.Prelude.{Result, Ok, Err, Bool, List, [], ◌∷◌, ◌++◌, ℕ, ◌+◌, ◌/◌, leb, length, if◌then◌else◌}
use Rattle.std.proofs.lemmas.List.Edits.{sets}
use Rattle.common.specs.declared.Refusal.{Refusal}
use Rattle.line.specs.Frame.{zeros_of, ticks_of}
use Rattle.flags.specs.declared.Between.{Between}
use Rattle.flags.specs.Flags.{total_ticks}
use Rattle.notes.specs.NoteList.{Reading, whole, refuses, read_list}

-- A note

-- "Lines: number, bytes, zeros inserted, ticks with both flags"
abbrev pub row_of : ℕ → List ℕ → List ℕ
row_of number note = number ∷ (length note ∷ (zeros_of note ∷ (ticks_of note ∷ [])))

abbrev pub row_length : ℕ
row_length = 4

-- the rows of these notes, one behind the other
unfoldable pub rows_from : ℕ → List (List ℕ) → List ℕ
rows_from number [] = []
rows_from number (note ∷ notes) = row_of number note ++ rows_from (number + 1) notes

-- A list

-- the whole report: the rows, "last `end`, notes, ticks in all"; or the list's refusal alone. Of
-- how notes follow each other only the ticks in all know
pub data Report : Type 0 where
  report : (rows : List ℕ) (notes ticks : ℕ) → Report
  refusal : Refusal → Report

abbrev pub reported : Between → Reading → Report
reported between (whole notes) =
    report (rows_from 1 notes) (length notes) (total_ticks between notes)
reported between (refuses k) = refusal k

abbrev pub report_of : Between → List ℕ → Report
report_of between list = reported between (read_list list)

-- What a caller has of it

-- rows go into a lent part where they are told, all of them or, where it is too short, none
abbrev pub has_room : ℕ → List ℕ → Bool
has_room notes lent = leb notes (length lent / row_length)

abbrev pub told_at : Bool → List ℕ → ℕ → List ℕ → List ℕ
told_at told lent at rows = if told then sets lent at rows else lent

abbrev pub rows_in : List ℕ → Report → List ℕ
rows_in lent (report rows notes ticks) = told_at (has_room notes lent) lent 0 rows
rows_in lent (refusal k) = lent

-- the page timer's answer: the ticks in all
abbrev pub pages_of : Report → Result ℕ Refusal
pages_of (report rows notes ticks) = Ok ticks
pages_of (refusal k) = Err k
