-- Reading a list and putting it together undo each other. Assumes nothing.
use Rattle.std.specs.Prelude.{Ok, Some, ◌≡◌, not, List, [], ◌∷◌, ◌++◌, ltb, length, get_or, take, drop, if◌then◌else◌}
use Rattle.std.proofs.Math.Path.{refl}
use Rattle.std.proofs.Common.{sym, ap, ap₂, subst, ◌∙◌, arith, add-zero, add-one, length-append}
use Rattle.std.proofs.Common.{length-drop, drop_of_length-le, take-append-drop, drop-cons}
use Rattle.std.proofs.Common.{drop-drop, get_or-drop, le-ltb}
use Rattle.std.proofs.Math.Bool.{true}
use Prim.Native.Nat.{ℕ, zero, suc, ◌+◌, ◌/◌, ◌%◌, ◌≤◌, ◌<◌}
use Rattle.std.proofs.Math.Numerals.{add-two}
use Rattle.std.proofs.Math.Dec.{eqb-suc-zero}
use Rattle.std.proofs.Math.Seq.{take-append_seam, drop-append_seam}
use Rattle.common.specs.Tools.{eqb_elim, if_elim}
use Rattle.common.specs.declared.Refusal.TheVariants.{NoList}
use Rattle.line.specs.Line.{note_fits}
use Rattle.line.specs.Bits.{Below, below_none, below_more}
use Rattle.head.specs.NoteHead.{length_bytes, length_at, text_at, head_of}
use Rattle.head.specs.Laws.{head_end, head_elim, head_note, text_at_length}
use Rattle.notes.specs.NoteList.{version, first_note, longest_list, notes_bytes, list_of}
use Rattle.notes.specs.NoteList.{AllFit, fits_none, fits_more, Reading, whole, refuses}
use Rattle.notes.specs.NoteList.{in_front, read_head, read_from, rest_from, read_list}
use Rattle.notes.specs.Laws.Reading.{rest_end, rest_note}

-- From a list to its notes and back

-- what a reading says of the bytes that were read: its notes, put together, are these bytes, and
-- all of them fit
abbrev ReadWell : (List (List ℕ) → List ℕ) → List ℕ → Reading → Type 0
ReadWell together bytes (whole notes) = (together notes ≡ bytes) × AllFit notes
ReadWell together bytes (refuses k) = Unit

below_at : (list : List ℕ) (i : ℕ) → Below 256 list → get_or list i 0 < 256
below_at [] i below_none = omega arith
below_at (v ∷ vs) zero (below_more h b) = h
below_at (v ∷ vs) (suc i) (below_more h b) = below_at vs i b

two_bytes_lem : (list : List ℕ) (i : ℕ) → i + 1 < length list
    → drop i list ≡ get_or list i 0 ∷ (get_or list (i + 1) 0 ∷ drop (i + length_bytes) list)
two_bytes_lem list i h =
    rw (
      add-one,
      add-two,
      drop-cons list i 0 (omega arith),
      drop-cons list (suc i) 0 (omega arith),
    )

-- a note's bytes: its two length bytes and its text, then what follows
note_bytes : (list : List ℕ) (i k : ℕ) → k ≡ length_at list i → Below 256 list
    → i + length_bytes + k ≤ length list
    → drop i list ≡ k / 256 ∷ (k % 256 ∷ (text_at list i k ++ drop (i + length_bytes + k) list))
note_bytes list i k e b here =
    let low = below_at list (i + 1) b in
    let high_byte : k / 256 ≡ get_or list i 0 = omega arith in
    let low_byte : k % 256 ≡ get_or list (i + 1) 0 = omega arith in
    let text = drop (i + length_bytes) list in
    let parts : text_at list i k ++ drop (i + length_bytes + k) list ≡ text =
    rw (← drop-drop k (i + length_bytes) list) (take-append-drop k text) in
    rw (high_byte, low_byte, parts) (two_bytes_lem list i (omega arith))

module _ (list : List ℕ) (b : Below 256 list) where
  front_well : (i : ℕ) (r : Reading) → note_fits (length_at list i) ≡ true
      → i + length_bytes + length_at list i ≤ length list
      → ReadWell notes_bytes (drop (i + length_bytes + length_at list i) list) r
      → ReadWell notes_bytes (drop i list) (in_front (text_at list i (length_at list i)) r)
  unfolding notes_bytes
  front_well i (whole notes) fits here well =
      let e = text_at_length list i (length_at list i) here in
      let fit : note_fits (length (text_at list i (length_at list i))) ≡ true = rw e fits in (
        rw (e, well.0) (sym (note_bytes list i (length_at list i) refl b here)),
        fits_more fit well.1,
      )
  front_well i (refuses k) fits here well = tt

  read_well : (most i : ℕ) → length list ≤ i + most
      → ReadWell notes_bytes (drop i list) (read_from most list i)
  unfolding read_from notes_bytes
  read_well zero i h = (sym (drop_of_length-le list {i = i} (omega arith)), fits_none)
  read_well (suc most) i h =
      let next = i + length_bytes + length_at list i in
      head_elim
      (λ x. ReadWell notes_bytes (drop i list)
      (read_head list i x (λ k. read_from most list (i + length_bytes + k))))
      list i
      (λ past. (sym (drop_of_length-le list {i = i} past), fits_none))
      (λ k. tt)
      (λ fits here. front_well i (read_from most list next) fits here
      (read_well most next (omega arith)))

version_well : (v : ℕ) (bytes : List ℕ) (r : Reading) → v ≡ version → ReadWell notes_bytes bytes r
    → ReadWell list_of (v ∷ bytes) r
version_well v bytes (whole notes) e well =
    (ap₂ (λ (x : ℕ) (xs : List ℕ). x ∷ xs) (sym e) well.0, well.1)
version_well v bytes (refuses k) e well = tt

list_well : (list : List ℕ) → Below 256 list → ReadWell list_of list (read_list list)
unfolding read_list rest_from
list_well [] b = tt
list_well (v ∷ bytes) b =
    let list = v ∷ bytes in
    if_elim (ReadWell list_of list) (ltb longest_list (length list)) tt
    (rw (eqb-suc-zero (length bytes))
    (eqb_elim
    (λ t. ReadWell list_of list
    (if not t then refuses NoList else rest_from list first_note)) v version
    (λ e. version_well v bytes (rest_from list first_note) e
    (read_well list b (length list) first_note (omega arith)))
    (λ other. tt)))

-- an accepted list is its notes put together again, and all of them fit: nothing is lost or doubled
pub read_list_lem : (list : List ℕ) (notes : List (List ℕ)) → Below 256 list
    → read_list list ≡ whole notes → (list_of notes ≡ list) × AllFit notes
read_list_lem list notes b e = subst (ReadWell list_of list) e (list_well list b)

-- From notes to their list and back

rest_back : (notes : List (List ℕ)) (list : List ℕ) (i : ℕ) → AllFit notes
    → drop i list ≡ notes_bytes notes → rest_from list i ≡ whole notes
unfolding notes_bytes
rest_back [] list i fits_none d =
    let past : length list ≤ i = omega (arith, length-drop i list, ap length d) in
    rest_end list i (head_end list i past)
rest_back (note ∷ notes) list i (fits_more fits all) d =
    let k = length note in
    let high : get_or list i 0 ≡ k / 256 =
    rw (← add-zero i) (rw d at (sym (get_or-drop i list 0 0))) in
    let low : get_or list (i + 1) 0 ≡ k % 256 = rw d at (sym (get_or-drop i list 1 0)) in
    let e : length_at list i ≡ k = omega arith in
    let after : drop (i + length_bytes) list ≡ note ++ notes_bytes notes =
    sym (drop-drop length_bytes i list) ∙ ap (drop length_bytes) d in
    let size = length-append note (notes_bytes notes) in
    let here : i + length_bytes + k ≤ length list = omega (arith, length-drop i list, ap length d) in
    let text : text_at list i k ≡ note =
    ap (take k) after ∙ take-append_seam note (notes_bytes notes) in
    let rest : drop (i + length_bytes + k) list ≡ notes_bytes notes =
    sym (drop-drop k (i + length_bytes) list) ∙ ap (drop k) after
    ∙ drop-append_seam note (notes_bytes notes) in
    let stands : head_of list i ≡ Ok (Some k) =
    rw e at (head_note list i (omega arith) (omega arith) (rw e fits) (omega arith)) in
    rest_note list i k stands
    ∙ ap₂ in_front text (rest_back notes list (i + length_bytes + k) all rest)

-- notes that fit, put together in no more bytes than a list has, are read back
pub list_read : (notes : List (List ℕ)) → AllFit notes → length (list_of notes) ≤ longest_list
    → read_list (list_of notes) ≡ whole notes
unfolding read_list
list_read notes all h =
    let list = list_of notes in
    rw (le-ltb longest_list (length list) h, eqb-suc-zero (length (notes_bytes notes)))
    (rest_back notes list first_note all refl)
