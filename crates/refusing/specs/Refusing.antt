-- Demand 1: "Bad input gets a numbered refusal, each for its one stated cause; the chip and every
-- lent buffer are then as before." The paper's table, row by row, for the calls of the chip, for a
-- line and for a list. A call is refused with the number of the first row that holds in the order
-- that the paper gives, and with none if none does. That every call accepts every input and ends is
-- each function's own proof: no public function has a `requires`. Assumes nothing.
use Rattle.std.specs.Prelude.{◌≡◌, refl, ◌≢◌, not, ◌||◌, List, [], ◌∷◌, ℕ, ◌-◌, Result, Ok, Err, eqb, ltb, leb, length, get_or, if◌then◌else◌}
use Rattle.common.specs.Tools.{bool_or}
use Rattle.common.specs.declared.Refusal.{Refusal}
use Rattle.common.specs.Refusal.{number_in}
use Rattle.line.specs.Frame.{frame, ticks_of}
use Rattle.line.specs.Line.{note_fits}
use Rattle.zeros.specs.Zeros.{count_of}
use Rattle.writer.specs.Writer.{write_of, buffer_after}
use Rattle.common.specs.Refusal.{number_in}
use Rattle.head.specs.NoteHead.{length_bytes, length_at, head_of}
use Rattle.notes.specs.NoteList.{rest_from, first_note, version, longest_list}
use Rattle.notes.specs.NoteList.{read_list, reading_number}
use Rattle.chip.specs.declared.Chip.{Chip}
use Rattle.chip.specs.Event.{Event}
use Rattle.promises.specs.Refusals.{Row, rows_of, first_row}
use Rattle.promises.specs.Laws.Refusals.{refused_by_the_table, refused_changes_nothing}
use Rattle.channel.specs.Answer.{answer_number}
use Rattle.stories.specs.Story.{happens}

-- The chip's calls: rows 1, 2, 3, and 4 for acknowledge; which rows an event knows is `rows_of`

pub chip_refused : (c : Chip) (e : Event)
    → answer_number (happens c e).answer ≡ first_row (rows_of c e)
chip_refused = refused_by_the_table

pub chip_kept : (c : Chip) (e : Event) → answer_number (happens c e).answer ≢ 0
    → (happens c e).chip ≡ c
chip_kept = refused_changes_nothing

-- A line: "6, then 8"

-- 6: "a note's length is 0 or above 2,048"
abbrev pub length_bad : ℕ → Row
length_bad n = (6, not (note_fits n))

-- 8: "the lent line buffer has fewer bytes from the named place on (none if the place is past its
-- end) than the line"
abbrev pub room_short : List ℕ → List ℕ → ℕ → Row
room_short note buffer at = (8, ltb (length buffer - at) (ticks_of note))

pub line_refused : (note buffer : List ℕ) (at : ℕ)
    → number_in (write_of note buffer at)
    ≡ first_row (length_bad (length note) ∷ room_short note buffer at ∷ [])
unfolding write_of
line_refused note buffer at =
    bool_or (note_fits (length note))
    (λ f. bool_or (ltb (length buffer - at) (ticks_of note)) (λ r. rw (f, r)) (λ r. rw (f, r)))
    (λ f. rw f)

pub line_kept : (note buffer : List ℕ) (at : ℕ) → number_in (write_of note buffer at) ≢ 0
    → buffer_after (write_of note buffer at) (frame note) buffer at ≡ buffer
line_kept note buffer at = go (write_of note buffer at)
  where
    go : (w : Result ℕ Refusal) → number_in w ≢ 0 → buffer_after w (frame note) buffer at ≡ buffer
    go (Ok z) n = absurd (n refl)
    go (Err k) n = refl

pub zeros_refused : (note : List ℕ)
    → number_in (count_of note) ≡ first_row (length_bad (length note) ∷ [])
unfolding count_of
zeros_refused note = bool_or (note_fits (length note)) (λ f. rw f) (λ f. rw f)

-- A list: "9, 5, then note by note 7 for a cut length, 6, 7 for a cut note; the first bad note
-- decides"

-- 9: "list longer than 65,535 bytes"
abbrev pub list_long : List ℕ → Row
list_long list = (9, ltb longest_list (length list))

-- 5: "list empty, or its first byte is not 1"
abbrev pub list_none : List ℕ → Row
list_none list = (5, eqb (length list) 0 || not (eqb (get_or list 0 0) version))

-- 7: "the list ends inside a length or a note", for the note that begins at place i
abbrev pub length_cut : List ℕ → ℕ → Row
length_cut list i = (7, ltb (length list - i) length_bytes)

abbrev pub note_cut : List ℕ → ℕ → Row
note_cut list i = (7, ltb (length list - i - length_bytes) (length_at list i))

pub note_refused : (list : List ℕ) (i : ℕ)
    → number_in (head_of list i)
    ≡ (if leb (length list) i then 0 else first_row
    (length_cut list i ∷ length_bad (length_at list i) ∷ note_cut list i ∷ []))
unfolding head_of
note_refused list i =
    bool_or (leb (length list) i) (λ e. rw e)
    (λ e. bool_or (ltb (length list - i) length_bytes) (λ f. rw (e, f))
    (λ f. bool_or (note_fits (length_at list i))
    (λ g. bool_or (ltb (length list - i - length_bytes) (length_at list i)) (λ h. rw (e, f, g, h))
    (λ h. rw (e, f, g, h)))
    (λ g. rw (e, f, g))))

pub list_refused : (list : List ℕ)
    → reading_number (read_list list)
    ≡ (if (list_long list).1 then 9 else
    (if (list_none list).1 then 5 else reading_number (rest_from list first_note)))
unfolding read_list
list_refused list =
    bool_or (ltb longest_list (length list)) (λ e. rw e)
    (λ e. bool_or (eqb (length list) 0) (λ f. rw (e, f))
    (λ f. bool_or (eqb (get_or list 0 0) version) (λ g. rw (e, f, g)) (λ g. rw (e, f, g))))
