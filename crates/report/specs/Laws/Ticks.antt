-- The ticks of a note and of a list: the zero count gives the one, a walk over the notes the other.
-- Assumes nothing.
use Rattle.std.specs.Prelude.{◌≡◌, refl, true, Ok, Err, ℕ, ◌≤◌, length}
use Rattle.std.proofs.Common.{sym, ap, arith}
use mathlib.Core.List.{List, foldl}
use Rattle.common.specs.Tools.{bool_or}
use Rattle.common.specs.declared.Refusal.{Refusal}
use Rattle.common.specs.declared.Refusal.TheVariants.{NoteLength}
use Rattle.line.specs.Frame.{zeros_of, ticks_of}
use Rattle.line.specs.Line.{note_fits}
use Rattle.zeros.specs.Zeros.{count_of, line_ticks}
use Rattle.line.specs.Laws.Frame.{ticks_are, zeros_few}
use Rattle.line.specs.Laws.Line.{fits_few}
use Rattle.flags.specs.declared.Between.{Between}
use Rattle.flags.specs.Flags.{with_note, in_all}
use Rattle.notes.specs.NoteList.{Reading, whole, refuses, scanned, walk}
use Rattle.report.specs.Report.{reported, pages_of}

-- A note that fits

-- it takes as many ticks as its bits and its zeros, which are few
pub ticks_few : (note : List ℕ) → note_fits (length note) ≡ true → ticks_of note ≤ 19696
ticks_few note e =
    let b = fits_few (length note) e in omega (arith, ticks_are note, zeros_few note, b.1)

pub line_ticks_fits : (note : List ℕ) → note_fits (length note) ≡ true → line_ticks note ≡ ticks_of note
unfolding line_ticks
line_ticks_fits note e = rw e

-- what the zero count says of a note

apart : {A : Type 0} (k : Refusal) (z : ℕ) → Err k ≡ Ok z → A
apart k z e = let n : ◌≡◌ {A = ℕ} 0 1 = cc in absurd (omega arith)

pub counts : (note : List ℕ) (z : ℕ) → count_of note ≡ Ok z
    → (note_fits (length note) ≡ true) × (z ≡ zeros_of note)
unfolding count_of
counts note z e =
    bool_or (note_fits (length note))
    (λ f. let g : Ok (zeros_of note) ≡ Ok z = rw f at e in (f, cc))
    (λ f. let g : Err NoteLength ≡ Ok z = rw f at e in apart NoteLength z g)

pub counts_none : (note : List ℕ) (k : Refusal) → count_of note ≡ Err k
    → line_ticks note ≡ 0
unfolding count_of line_ticks
counts_none note k e =
    bool_or (note_fits (length note))
    (λ f.
    let g : Ok (zeros_of note) ≡ Err k = rw f at e in
    apart k (zeros_of note) (sym g))
    (λ f. rw f)

-- A walk that adds

pub pages_walk : (between : Between) (n : ℕ) (r : Reading) → scanned r ≡ Ok n
    → walk with_note (λ sum. Ok (in_all between sum n)) Err 0 r
    ≡ pages_of (reported between r)
pages_walk between n (whole notes) e =
    let m : n ≡ length notes = cc in
    ap (λ (k : ℕ). Ok (in_all between (foldl with_note 0 notes) k)) m
pages_walk between n (refuses k) e = refl
