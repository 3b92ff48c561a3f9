-- Laws of the notes from a place on: what stands there decides; all of them fit, and they are few;
-- of a list that the scan accepts they are its notes. Assumes nothing.
use Rattle.std.specs.Prelude.{◌≡◌, refl, not, true, Ok, Some, List, ◌∷◌, ℕ, zero, suc, ◌+◌, ◌≤◌, eqb, ltb, length, get_or}
use Rattle.std.proofs.Common.{sym, ap, subst, ◌∙◌, arith}
use Rattle.common.specs.Tools.{if_elim}
use Rattle.line.specs.Line.{note_fits}
use Rattle.head.specs.NoteHead.{length_bytes, length_at, text_at, head_of}
use Rattle.head.specs.Laws.{head_end, head_elim, text_at_length}
use Rattle.notes.specs.NoteList.{version, first_note, longest_list, AllFit, fits_none, fits_more}
use Rattle.notes.specs.NoteList.{Reading, whole, refuses, in_front, read_head, read_from, rest_from}
use Rattle.notes.specs.NoteList.{read_list, scanned}
use Rattle.notes.specs.Laws.Reading.{refused_apart}
use Rattle.notes.specs.Notes.{note_before, notes_within, notes_from, notes_of}

-- What stands at a place decides, whatever the count

within_more : (most : ℕ) (list : List ℕ) (i : ℕ) → length list ≤ i + most
    → notes_within (suc most) list i ≡ notes_within most list i
unfolding notes_within
within_more zero list i h = rw (head_end list i (omega arith))
within_more (suc most) list i h =
    head_elim
    (λ x. note_before list i x (λ k. notes_within (suc most) list (i + length_bytes + k))
    ≡ note_before list i x (λ k. notes_within most list (i + length_bytes + k)))
    list i (λ past. refl) (λ k. refl)
    (λ fits here. ap (λ (rest : List (List ℕ)). text_at list i (length_at list i) ∷ rest)
    (within_more most list (i + length_bytes + length_at list i) (omega arith)))

pub notes_head : (list : List ℕ) (i : ℕ)
    → notes_from list i
    ≡ note_before list i (head_of list i) (λ k. notes_from list (i + length_bytes + k))
unfolding notes_from notes_within
notes_head list i = sym (within_more (length list) list i (omega arith))

pub next_note : (list : List ℕ) (i k : ℕ) → head_of list i ≡ Ok (Some k)
    → notes_from list i ≡ text_at list i k ∷ notes_from list (i + length_bytes + k)
next_note list i k e = rw (notes_head list i, e)

-- All of them fit, and they are no more than the list's bytes

within_fit : (most : ℕ) (list : List ℕ) (i : ℕ) → AllFit (notes_within most list i)
unfolding notes_within
within_fit zero list i = fits_none
within_fit (suc most) list i =
    let k = length_at list i in
    head_elim
    (λ x. AllFit (note_before list i x (λ n. notes_within most list (i + length_bytes + n)))) list i
    (λ past. fits_none) (λ n. fits_none)
    (λ fits here. fits_more (ap note_fits (text_at_length list i k here) ∙ fits)
    (within_fit most list (i + length_bytes + k)))

pub notes_fit : (list : List ℕ) (i : ℕ) → AllFit (notes_from list i)
unfolding notes_from
notes_fit list i = within_fit (length list) list i

-- the first of them fits
pub first_fits : (list : List ℕ) (i : ℕ) {note : List ℕ} {rest : List (List ℕ)}
    → notes_from list i ≡ note ∷ rest → note_fits (length note) ≡ true
first_fits list i e = first (subst AllFit e (notes_fit list i))
  where
    first : {note : List ℕ} {rest : List (List ℕ)} → AllFit (note ∷ rest)
        → note_fits (length note) ≡ true
    first (fits_more fits all) = fits

within_few : (most : ℕ) (list : List ℕ) (i : ℕ) → length (notes_within most list i) ≤ most
unfolding notes_within
within_few zero list i = omega arith
within_few (suc most) list i =
    head_elim
    (λ x. length (note_before list i x (λ n. notes_within most list (i + length_bytes + n)))
    ≤ suc most) list i
    (λ past. omega arith) (λ n. omega arith)
    (λ fits here. omega (arith, within_few most list (i + length_bytes + length_at list i)))

pub notes_few : (list : List ℕ) (i : ℕ) → length (notes_from list i) ≤ length list
unfolding notes_from
notes_few list i = within_few (length list) list i

-- Of a list that is read they are its notes

front_read : (note : List ℕ) (r : Reading) (rest notes : List (List ℕ))
    → ((behind : List (List ℕ)) → r ≡ whole behind → rest ≡ behind)
    → in_front note r ≡ whole notes → note ∷ rest ≡ notes
front_read note (whole behind) rest notes same e = let r = same behind refl in cc
front_read note (refuses k) rest notes same e = cc

within_read : (most : ℕ) (list : List ℕ) (i : ℕ) (notes : List (List ℕ))
    → read_from most list i ≡ whole notes → notes_within most list i ≡ notes
unfolding notes_within read_from
within_read zero list i notes e = cc
within_read (suc most) list i notes e =
    let next = i + length_bytes + length_at list i in
    head_elim
    (λ x. read_head list i x (λ k. read_from most list (i + length_bytes + k)) ≡ whole notes
    → note_before list i x (λ k. notes_within most list (i + length_bytes + k)) ≡ notes) list i
    (λ past e. cc) (λ k e. cc)
    (λ fits here. front_read (text_at list i (length_at list i)) (read_from most list next)
    (notes_within most list next) notes (within_read most list next)) e

pub read_notes : (list : List ℕ) (notes : List (List ℕ)) → read_list list ≡ whole notes
    → notes_of list ≡ notes
unfolding read_list rest_from notes_from
read_notes list notes =
    let Read : Reading → Type 0 = λ r. r ≡ whole notes → notes_of list ≡ notes in
    if_elim Read (ltb longest_list (length list)) (λ e. cc)
    (if_elim Read (eqb (length list) 0) (λ e. cc)
    (if_elim Read (not (eqb (get_or list 0 0) version)) (λ e. cc)
    (within_read (length list) list first_note notes)))

-- and so many as the scan gave
pub accepted_notes : (list : List ℕ) (n : ℕ) → scanned (read_list list) ≡ Ok n
    → (read_list list ≡ whole (notes_of list)) × (length (notes_of list) ≡ n)
accepted_notes list n = by-reading (read_list list) refl
  where
    by-reading : (r : Reading) → read_list list ≡ r → scanned r ≡ Ok n
        → (r ≡ whole (notes_of list)) × (length (notes_of list) ≡ n)
    by-reading (whole notes) e counted =
        let same = read_notes list notes e in
        let m : length notes ≡ n = cc in
        (ap whole (sym same), ap length same ∙ m)
    by-reading (refuses k) e counted = refused_apart k n counted
