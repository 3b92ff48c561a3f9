-- What the zero count answers, and what refuses a line. Assumes nothing.
use Rattle.std.specs.Prelude.{List, ℕ, Result, Ok, Err, ltb, length, if◌then◌else◌}
use Rattle.common.specs.declared.Refusal.{Refusal}
use Rattle.common.specs.declared.Refusal.TheVariants.{NoteLength, NoRoom}
use Rattle.line.specs.Line.{note_fits}
use Rattle.line.specs.Frame.{zeros_of, ticks_of}

-- the zeros inserted, or 01's refusal 6
unfoldable pub count_of : List ℕ → Result ℕ Refusal
count_of note = if note_fits (length note) then Ok (zeros_of note) else Err NoteLength

-- 01: "ticks with both flags", of a note that has a line
unfoldable pub line_ticks : List ℕ → ℕ
line_ticks note = if note_fits (length note) then ticks_of note else 0

-- 01: "For a line: 6, then 8", of a note's line in so many bytes
unfoldable pub room_of : List ℕ → ℕ → Result (Unit {0}) Refusal
room_of note room =
    if note_fits (length note)
    then (if ltb room (ticks_of note) then Err NoRoom else Ok tt)
    else Err NoteLength
