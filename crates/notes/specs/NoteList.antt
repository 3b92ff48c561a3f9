-- 01, Note list and line: what a list is, and how it is read. Assumes nothing.
use Rattle.std.specs.Prelude.{◌≡◌, true, not, Result, Ok, Err, Some, None, ℕ, zero, suc, ◌+◌, ◌/◌, ◌%◌, eqb, ltb, length, get_or, if◌then◌else◌}
use mathlib.Core.List.{List, [], ◌∷◌, ◌++◌, foldl}
use Rattle.common.specs.Refusal.{number_of}
use Rattle.common.specs.declared.Refusal.{Refusal}
use Rattle.common.specs.declared.Refusal.TheVariants.{NoList, LongList}
use Rattle.line.specs.Line.{note_fits}
use Rattle.head.specs.NoteHead.{length_bytes, text_at, Head, head_of}

-- A list of notes

-- 01: "A list is version byte 1, then notes: two-byte big-endian length, text."
abbrev pub version : ℕ
version = 1

-- the list of these notes, and its bytes after the version byte
unfoldable pub notes_bytes : List (List ℕ) → List ℕ
notes_bytes [] = []
notes_bytes (note ∷ notes) = length note / 256 ∷ (length note % 256 ∷ (note ++ notes_bytes notes))

abbrev pub list_of : List (List ℕ) → List ℕ
list_of notes = version ∷ notes_bytes notes

-- each of these notes may stand in a list
pub data AllFit : List (List ℕ) → Type 0 where
  fits_none : AllFit []
  fits_more : {note : List ℕ} {notes : List (List ℕ)} → note_fits (length note) ≡ true
      → AllFit notes → AllFit (note ∷ notes)

-- Reading a list: all its notes, or one refusal

pub data Reading : Type 0 where
  whole : List (List ℕ) → Reading
  refuses : Refusal → Reading

-- the paper's number of a refused list, 0 for none
abbrev pub reading_number : Reading → ℕ
reading_number (whole notes) = 0
reading_number (refuses k) = number_of k

abbrev pub in_front : List ℕ → Reading → Reading
in_front note (whole notes) = whole (note ∷ notes)
in_front note (refuses k) = refuses k

-- "the first bad note decides": rest is the reading after a note of k bytes
abbrev pub read_head : List ℕ → ℕ → Head → (ℕ → Reading) → Reading
read_head list i (Ok None) rest = whole []
read_head list i (Ok (Some k)) rest = in_front (text_at list i k) (rest k)
read_head list i (Err k) rest = refuses k

-- at most so many notes, from place i on
unfoldable pub read_from : ℕ → List ℕ → ℕ → Reading
read_from zero list i = whole []
read_from (suc most) list i =
    read_head list i (head_of list i) (λ k. read_from most list (i + length_bytes + k))

-- all notes from place i on: a list has fewer notes than bytes
unfoldable pub rest_from : List ℕ → ℕ → Reading
rest_from list i = read_from (length list) list i

-- the place of the first note
abbrev pub first_note : ℕ
first_note = 1

-- 01, refusal 9: "list longer than 65,535 bytes"
abbrev pub longest_list : ℕ
longest_list = 65535

-- 01, refusal 5: "list empty, or its first byte is not 1". "For a list: 9, 5, then note by note .."
unfoldable pub read_list : List ℕ → Reading
read_list list =
    if ltb longest_list (length list) then refuses LongList
    else (if eqb (length list) 0 then refuses NoList
    else (if not (eqb (get_or list 0 0) version) then refuses NoList
    else rest_from list first_note))

-- the scan's answer: the number of notes, or the refusal
abbrev pub scanned : Reading → Result ℕ Refusal
scanned (whole notes) = Ok (length notes)
scanned (refuses k) = Err k

-- a walk over what was read: a step with each note in its turn, then the finish; or the refusal
abbrev pub walk : {S A : Type 0} → (S → List ℕ → S) → (S → A) → (Refusal → A) → S → Reading → A
walk step finish refused s (whole notes) = finish (foldl step s notes)
walk step finish refused s (refuses k) = refused k
