-- 01, Note list and line: what the line writer answers, and what it leaves in the caller's buffer.
-- Assumes nothing.
use Rattle.std.specs.Prelude.{Bool, List, ◌++◌, ℕ, ◌+◌, ◌-◌, Result, Ok, Err, ltb, length, take, drop, if◌then◌else◌}
use Rattle.common.specs.declared.Refusal.{Refusal}
use Rattle.common.specs.declared.Refusal.TheVariants.{NoteLength, NoRoom}
use Rattle.line.specs.Bits.{cells}
use Rattle.line.specs.Frame.{zeros_of, ticks_of}
use Rattle.line.specs.Line.{note_fits}

-- 01, refusal 8: "the lent line buffer has fewer bytes from the named place on (none if the place
-- is past its end) than the line". "For a line: 6, then 8." The writer "returns the zeros
-- inserted".
unfoldable pub write_of : List ℕ → List ℕ → ℕ → Result ℕ Refusal
write_of note buffer at =
    if note_fits (length note)
    then (if ltb (length buffer - at) (ticks_of note) then Err NoRoom else Ok (zeros_of note))
    else Err NoteLength

-- "puts one note's frame, flags included, one bit per byte, at a place inside the caller's buffer,
-- and touches nothing before or after it"
abbrev pub written_at : List Bool → List ℕ → ℕ → List ℕ
written_at bits buffer at = take at buffer ++ (cells bits ++ drop (at + length bits) buffer)

abbrev pub buffer_after : Result ℕ Refusal → List Bool → List ℕ → ℕ → List ℕ
buffer_after (Ok z) bits buffer at = written_at bits buffer at
buffer_after (Err k) bits buffer at = buffer
