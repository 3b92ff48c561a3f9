-- Laws of what stands at a place of a list. Assumes nothing.
use Rattle.std.specs.Prelude.{◌≡◌, true, false, not, Ok, Err, Some, None, List, ℕ, ◌+◌, ◌-◌, ◌≤◌, ◌<◌, ltb, leb, length, drop, if◌then◌else◌}
use Rattle.std.proofs.Common.{ap, arith, length-drop, length-take-le}
use borrow.Author.Tests.{le-leb, lt-leb, le-ltb, lt-ltb}
use Rattle.common.specs.Tools.{lt_or, bool_or, ltb_elim}
use Rattle.common.specs.declared.Refusal.{Refusal}
use Rattle.common.specs.declared.Refusal.TheVariants.{NoteLength, CutList}
use Rattle.line.specs.Line.{note_fits}
use Rattle.head.specs.NoteHead.{length_bytes, length_at, text_at, Head, head_of, text_of, note_at}

-- In the order of the tests

module _ (list : List ℕ) (i : ℕ) where
  pub head_end : length list ≤ i → head_of list i ≡ Ok None
  unfolding head_of
  head_end h = rw (le-leb (length list) i h)

  module _ (inside : i < length list) where
    pub head_cut : length list - i < length_bytes → head_of list i ≡ Err CutList
    unfolding head_of
    head_cut h = rw (lt-leb (length list) i inside, lt-ltb (length list - i) length_bytes h)

    module _ (enough : length_bytes ≤ length list - i) where
      whole_length : (leb (length list) i ≡ false) × (ltb (length list - i) length_bytes ≡ false)
      whole_length = (lt-leb (length list) i inside, le-ltb (length list - i) length_bytes enough)

      pub head_unfit : note_fits (length_at list i) ≡ false → head_of list i ≡ Err NoteLength
      unfolding head_of
      head_unfit unfit = rw (whole_length.0, whole_length.1, unfit)

      module _ (fits : note_fits (length_at list i) ≡ true) where
        pub head_short : length list - i - length_bytes < length_at list i
            → head_of list i ≡ Err CutList
        unfolding head_of
        head_short h =
            let short = lt-ltb (length list - i - length_bytes) (length_at list i) h in
            rw (whole_length.0, whole_length.1, fits, short)

        pub head_note : length_at list i ≤ length list - i - length_bytes
            → head_of list i ≡ Ok (Some (length_at list i))
        unfolding head_of
        head_note h =
            let long = le-ltb (length list - i - length_bytes) (length_at list i) h in
            rw (whole_length.0, whole_length.1, fits, long)

-- by what stands at i: a note that stands there fits, and lies within the list
pub head_elim : (P : Head → Type 0) (list : List ℕ) (i : ℕ)
    → (length list ≤ i → P (Ok None)) → ((k : Refusal) → P (Err k))
    → (note_fits (length_at list i) ≡ true → i + length_bytes + length_at list i ≤ length list
    → P (Ok (Some (length_at list i))))
    → P (head_of list i)
unfolding head_of
head_elim P list i end bad note =
    let n = length list in
    let k = length_at list i in
    lt_or i n
    (λ inside. rw (lt-leb n i inside)
    (ltb_elim (λ b. P (if b then Err CutList
    else (if not (note_fits k) then Err NoteLength
    else (if ltb (n - i - length_bytes) k then Err CutList else Ok (Some k))))) (n - i) length_bytes
    (λ cut. bad CutList)
    (λ enough. bool_or (note_fits k)
    (λ fits. rw fits
    (ltb_elim (λ b. P (if b then Err CutList else Ok (Some k))) (n - i - length_bytes) k
    (λ cut. bad CutList) (λ here. note fits (omega arith))))
    (λ unfit. rw unfit (bad NoteLength)))))
    (λ past. rw (le-leb n i past) (end past))

pub text_at_length : (list : List ℕ) (i k : ℕ) → i + length_bytes + k ≤ length list
    → length (text_at list i k) ≡ k
text_at_length list i k h =
    let rest = drop (i + length_bytes) list in
    length-take-le k rest (omega (arith, length-drop (i + length_bytes) list))

pub note_at_note : (list : List ℕ) (i k : ℕ) → head_of list i ≡ Ok (Some k)
    → note_at list i ≡ text_at list i k
note_at_note list i k e = ap (text_of list i) e
