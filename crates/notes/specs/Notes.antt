-- The notes of a list one behind the other, as a walk takes them: from a place on, up to the first
-- that is none or bad. Of a list that is read they are all its notes (Laws/Notes.antt).
-- Assumes nothing.
use Rattle.std.specs.Prelude.{Ok, Err, Some, None, List, [], ◌∷◌, ℕ, zero, suc, ◌+◌, length}
use Rattle.head.specs.NoteHead.{length_bytes, text_at, Head, head_of}
use Rattle.notes.specs.declared.Notes.{Notes}
use Rattle.notes.specs.NoteList.{first_note}

-- rest is what stands behind a note of k bytes
abbrev pub note_before : List ℕ → ℕ → Head → (ℕ → List (List ℕ)) → List (List ℕ)
note_before list i (Ok None) rest = []
note_before list i (Ok (Some k)) rest = text_at list i k ∷ rest k
note_before list i (Err k) rest = []

-- at most so many notes, from place i on
unfoldable pub notes_within : ℕ → List ℕ → ℕ → List (List ℕ)
notes_within zero list i = []
notes_within (suc most) list i =
    note_before list i (head_of list i) (λ k. notes_within most list (i + length_bytes + k))

-- all notes from place i on: a list has fewer notes than bytes
unfoldable pub notes_from : List ℕ → ℕ → List (List ℕ)
notes_from list i = notes_within (length list) list i

abbrev pub notes_of : List ℕ → List (List ℕ)
notes_of list = notes_from list first_note

-- those that a walk has still to take
abbrev pub notes_left : Notes → List (List ℕ)
notes_left notes = notes_from notes.list.now notes.at
