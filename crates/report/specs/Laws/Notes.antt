-- A loop that goes from note to note of a list in which the scan found so many. Assumes nothing.
use Rattle.std.specs.Prelude.{◌≡◌, refl, true, Result, Ok, Some, None, List, ℕ, ◌+◌, ◌-◌, ◌≤◌, ◌<◌, length}
use Rattle.std.proofs.Common.{sym, ap, ◌∙◌, arith}
use Rattle.common.specs.declared.Refusal.{Refusal}
use Rattle.line.specs.Line.{note_fits}
use Rattle.head.specs.NoteHead.{Head, length_bytes, length_at, text_at, head_of, note_at}
use Rattle.notes.specs.NoteList.{Reading, whole, refuses, in_front, read_head, rest_from, scanned}
use Rattle.notes.specs.NoteList.{walk}
use Rattle.notes.specs.Laws.Reading.{rest_head, refused_apart}
use Rattle.head.specs.Laws.{note_at_note}
use Rattle.head.specs.Laws.{head_elim, text_at_length}
use Rattle.notes.specs.Laws.Reading.{walk_end, walk_note}

same_count : {m n : ℕ} → ◌≡◌ {A = Result ℕ Refusal} (Ok m) (Ok n) → m ≡ n
same_count e = cc

-- the reading from place i on, by what stands there
abbrev read_from_head : List ℕ → ℕ → Head → Reading
read_from_head list i h = read_head list i h (λ k. rest_from list (i + length_bytes + k))

-- a note stands at place i, and m behind it
pub record Next (list : List ℕ) (i m : ℕ) : Type 0 where
  pub head : head_of list i ≡ Ok (Some (length (note_at list i)))
  pub fits : note_fits (length (note_at list i)) ≡ true
  pub inside : i + length_bytes + length (note_at list i) ≤ length list
  pub rest : scanned (rest_from list (i + length_bytes + length (note_at list i))) ≡ Ok m

pub next_note_lem : (list : List ℕ) (i n : ℕ) → 0 < n → scanned (rest_from list i) ≡ Ok n
    → Next list i (n - 1)
next_note_lem list i n some e =
    let P : Head → Type 0 =
    λ h. head_of list i ≡ h → scanned (read_from_head list i h) ≡ Ok n → Next list i (n - 1) in
    head_elim P list i
    (λ past h c. absurd (omega (arith, some, same_count c)))
    (λ k h c. refused_apart k n c)
    (λ fits here h c.
    let k = length_at list i in
    let long = ap length (note_at_note list i k h) ∙ text_at_length list i k here in
    let behind = rest_from list (i + length_bytes + k) in
    record {
      head = h ∙ ap (λ (k : ℕ). Ok (Some k)) (sym long);
      fits = ap note_fits long ∙ fits;
      inside = omega (arith, long, here);
      rest = ap (λ (l : ℕ). scanned (rest_from list (i + length_bytes + l))) long
          ∙ one_less (text_at list i k) behind c;
    })
    refl (sym (ap scanned (rest_head list i)) ∙ e)
  where
    one_less : (note : List ℕ) (r : Reading) → scanned (in_front note r) ≡ Ok n
        → scanned r ≡ Ok (n - 1)
    one_less note (whole notes) c =
        let m : length notes ≡ n - 1 = omega (arith, same_count c) in ap Ok m
    one_less note (refuses k) c = refused_apart k n c

no_note : (list : List ℕ) (i : ℕ) → scanned (rest_from list i) ≡ Ok 0 → head_of list i ≡ Ok None
no_note list i e =
    head_elim (λ h. scanned (read_from_head list i h) ≡ Ok 0 → h ≡ Ok None) list i
    (λ past c. refl) (λ k c. refused_apart k 0 c)
    (λ fits here c.
    let k = length_at list i in some (text_at list i k) (rest_from list (i + length_bytes + k)) c)
    (sym (ap scanned (rest_head list i)) ∙ e)
  where
    some : {A : Type 0} (note : List ℕ) (r : Reading) → scanned (in_front note r) ≡ Ok 0 → A
    some note (whole notes) c = absurd (omega (arith, same_count c))
    some note (refuses k) c = refused_apart k 0 c

-- the loop's turn and its end, as a walk
module _ {S A : Type 0} (step : S → List ℕ → S) (finish : S → A) (refused : Refusal → A) where
  pub walk_next : (s : S) (list : List ℕ) (i m : ℕ) → Next list i m
      → let t = note_at list i in
      walk step finish refused s (rest_from list i)
      ≡ walk step finish refused (step s t) (rest_from list (i + length_bytes + length t))
  walk_next s list i m x =
      let k = length (note_at list i) in
      let rest = rest_from list (i + length_bytes + k) in
      walk_note step finish refused s list i k x.head
      ∙ ap (λ (t : List ℕ). walk step finish refused (step s t) rest)
      (sym (note_at_note list i k x.head))

  pub walk_last : (s : S) (list : List ℕ) (i n : ℕ) → n ≤ 0 → scanned (rest_from list i) ≡ Ok n
      → walk step finish refused s (rest_from list i) ≡ finish s
  walk_last s list i n none e =
      let z : n ≡ 0 = omega arith in
      walk_end step finish refused s list i (no_note list i (e ∙ ap Ok z))
