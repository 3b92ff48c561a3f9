-- Laws of reading a list: the reading from a place on, the scan's answer, and a walk over the
-- notes. Assumes nothing.
use Rattle.std.specs.Prelude.{◌≡◌, refl, not, Result, Ok, Err, Some, None, ℕ, zero, suc, ◌+◌, ◌≤◌, eqb, ltb, length, get_or}
use Rattle.std.proofs.Common.{sym, ap, ◌∙◌, arith, zero-add, add-zero, lt-ltb}
use mathlib.Core.List.{List, [], ◌∷◌, foldl}
use Rattle.common.specs.Tools.{lt_or, if_elim}
use Rattle.common.specs.declared.Refusal.{Refusal}
use Rattle.common.specs.declared.Refusal.TheVariants.{NoList, LongList}
use Rattle.head.specs.NoteHead.{length_bytes, length_at, text_at, head_of}
use Rattle.head.specs.Laws.{head_end, head_elim}
use Rattle.notes.specs.NoteList.{version, first_note, longest_list, Reading, whole, refuses}
use Rattle.notes.specs.NoteList.{in_front, read_head, read_from, rest_from, read_list}
use Rattle.notes.specs.NoteList.{scanned, walk}

-- rest_from

read_more : (most : ℕ) (list : List ℕ) (i : ℕ) → length list ≤ i + most
    → read_from (suc most) list i ≡ read_from most list i
unfolding read_from
read_more zero list i h = rw (head_end list i (omega arith))
read_more (suc most) list i h =
    head_elim
    (λ x. read_head list i x (λ k. read_from (suc most) list (i + length_bytes + k))
    ≡ read_head list i x (λ k. read_from most list (i + length_bytes + k)))
    list i (λ past. refl) (λ k. refl)
    (λ fits here. ap (in_front (text_at list i (length_at list i)))
    (read_more most list (i + length_bytes + length_at list i) (omega arith)))

-- what stands at i decides, whatever the count
pub rest_head : (list : List ℕ) (i : ℕ)
    → rest_from list i ≡ read_head list i (head_of list i) (λ k. rest_from list (i + length_bytes + k))
unfolding rest_from read_from
rest_head list i = sym (read_more (length list) list i (omega arith))

pub rest_end : (list : List ℕ) (i : ℕ) → head_of list i ≡ Ok None → rest_from list i ≡ whole []
rest_end list i e = rw (rest_head list i, e)

pub rest_note : (list : List ℕ) (i k : ℕ) → head_of list i ≡ Ok (Some k)
    → rest_from list i ≡ in_front (text_at list i k) (rest_from list (i + length_bytes + k))
rest_note list i k e = rw (rest_head list i, e)

pub rest_bad : (list : List ℕ) (i : ℕ) (k : Refusal) → head_of list i ≡ Err k
    → rest_from list i ≡ refuses k
rest_bad list i k e = rw (rest_head list i, e)

-- The scan's answer

pub refused_apart : {A : Type 0} (k : Refusal) (n : ℕ) → ◌≡◌ {A = Result ℕ Refusal} (Err k) (Ok n) → A
refused_apart k n e = let z : ◌≡◌ {A = ℕ} 0 1 = cc in absurd (omega arith)

-- what the scan refused is refused
pub scanned_refuses : (list : List ℕ) (k : Refusal) → scanned (read_list list) ≡ Err k
    → read_list list ≡ refuses k
scanned_refuses list k = by-reading (read_list list)
  where
    by-reading : (r : Reading) → scanned r ≡ Err k → r ≡ refuses k
    by-reading (whole notes) e = refused_apart k (length notes) (sym e)
    by-reading (refuses j) e = cc

-- a list of which the scan gave the number of notes is read from its first note on
pub scanned_rest : (list : List ℕ) (n : ℕ) → scanned (read_list list) ≡ Ok n
    → read_list list ≡ rest_from list first_note
unfolding read_list
scanned_rest list n =
    if_elim Here (ltb longest_list (length list)) (not-here LongList)
    (if_elim Here (eqb (length list) 0) (not-here NoList)
    (if_elim Here (not (eqb (get_or list 0 0) version)) (not-here NoList) (λ e. refl)))
  where
    Here : Reading → Type 0
    Here r = scanned r ≡ Ok n → r ≡ rest_from list first_note

    not-here : (k : Refusal) → Here (refuses k)
    not-here k e = refused_apart k n e

pub scanned_size : (list : List ℕ) (n : ℕ) → scanned (read_list list) ≡ Ok n
    → length list ≤ longest_list
unfolding read_list
scanned_size list n e =
    lt_or longest_list (length list)
    (λ long. refused_apart LongList n (rw (lt-ltb longest_list (length list) long) at e))
    (λ short. short)

-- walk

-- A loop that goes from note to note with a state has the invariant that its state, walked over the
-- rest of the list, gives what its first state gave over the whole. It starts by scanned-rest;
-- these are its turn and its ends.

module _ {S A : Type 0} (step : S → List ℕ → S) (finish : S → A) (refused : Refusal → A) where
  walk_front : (s : S) (note : List ℕ) (r : Reading)
      → walk step finish refused s (in_front note r) ≡ walk step finish refused (step s note) r
  walk_front s note (whole notes) = refl
  walk_front s note (refuses k) = refl

  pub walk_end : (s : S) (list : List ℕ) (i : ℕ) → head_of list i ≡ Ok None
      → walk step finish refused s (rest_from list i) ≡ finish s
  walk_end s list i e = rw (rest_end list i e)

  pub walk_note : (s : S) (list : List ℕ) (i k : ℕ) → head_of list i ≡ Ok (Some k)
      → walk step finish refused s (rest_from list i)
      ≡ walk step finish refused (step s (text_at list i k)) (rest_from list (i + length_bytes + k))
  walk_note s list i k e =
      rw (rest_note list i k e)
      (walk_front s (text_at list i k) (rest_from list (i + length_bytes + k)))

  pub walk_bad : (s : S) (list : List ℕ) (i : ℕ) (k : Refusal) → head_of list i ≡ Err k
      → walk step finish refused s (rest_from list i) ≡ refused k
  walk_bad s list i k e = rw (rest_bad list i k e)

-- the scan is the walk that counts
abbrev pub one_more : ℕ → List ℕ → ℕ
one_more n note = n + 1

count_notes : (n : ℕ) (notes : List (List ℕ)) → foldl one_more n notes ≡ n + length notes
count_notes n [] = sym (add-zero n)
count_notes n (note ∷ notes) = count_notes (n + 1) notes ∙ omega arith

pub scanned_walk : (r : Reading) → scanned r ≡ walk one_more Ok Err 0 r
scanned_walk (whole notes) = ap Ok (sym (count_notes 0 notes ∙ zero-add (length notes)))
scanned_walk (refuses k) = refl
