-- 01, Note list and line: what stands at a place of a list. Assumes nothing.
use Rattle.std.specs.Prelude.{◌≡◌, true, not, Result, Ok, Err, Option, Some, None, List, []}
use Rattle.std.specs.Prelude.{ℕ, ◌+◌, ◌-◌, ◌*◌, ◌≤◌, ltb, leb, length, get_or, take, drop, if◌then◌else◌}
use Rattle.common.specs.declared.Refusal.{Refusal}
use Rattle.common.specs.declared.Refusal.TheVariants.{NoteLength, CutList}
use Rattle.line.specs.Line.{note_fits}

-- 01: "notes: two-byte big-endian length, text"
abbrev pub length_bytes : ℕ
length_bytes = 2

-- the length and the text of a note that begins at place i
abbrev pub length_at : List ℕ → ℕ → ℕ
length_at list i = get_or list i 0 * 256 + get_or list (i + 1) 0

abbrev pub text_at : List ℕ → ℕ → ℕ → List ℕ
text_at list i k = take k (drop (i + length_bytes) list)

-- nothing more, a note of so many bytes, or a bad note
abbrev pub Head : Type 0
Head = Result (Option ℕ) Refusal

-- 01, Events: "note by note 7 for a cut length, 6, 7 for a cut note"
unfoldable pub head_of : List ℕ → ℕ → Head
head_of list i =
    if leb (length list) i then Ok None
    else (if ltb (length list - i) length_bytes then Err CutList
    else (if not (note_fits (length_at list i)) then Err NoteLength
    else (if ltb (length list - i - length_bytes) (length_at list i) then Err CutList
    else Ok (Some (length_at list i)))))

-- a note that stands at place i of l bytes fits, and lies within them
abbrev pub Within : ℕ → ℕ → Head → Type 0
Within l i (Ok None) = Unit
Within l i (Ok (Some k)) = (note_fits k ≡ true) × (i + length_bytes + k ≤ l)
Within l i (Err k) = Unit

-- the text of the note at place i, nothing where no note stands
abbrev pub text_of : List ℕ → ℕ → Head → List ℕ
text_of list i (Ok None) = []
text_of list i (Ok (Some k)) = text_at list i k
text_of list i (Err k) = []

abbrev pub note_at : List ℕ → ℕ → List ℕ
note_at list i = text_of list i (head_of list i)
