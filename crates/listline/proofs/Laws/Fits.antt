-- Every note of a list that is not refused fits. Assumes nothing.
use Rattle.std.specs.Prelude.{◌≡◌, true, not, List, ℕ, zero, suc, ◌+◌, eqb, ltb, length, get_or}
use Rattle.std.proofs.Common.{ap, subst, ◌∙◌}
use Rattle.common.specs.Tools.{if_elim}
use Rattle.line.specs.Line.{note_fits}
use Rattle.head.specs.NoteHead.{length_bytes, length_at, text_at}
use Rattle.head.specs.Laws.{head_elim, text_at_length}
use Rattle.notes.specs.NoteList.{version, first_note, longest_list, AllFit, fits_none, fits_more}
use Rattle.notes.specs.NoteList.{Reading, whole, refuses, in_front, read_head}
use Rattle.notes.specs.NoteList.{read_from, rest_from, read_list}

abbrev Fitting : Reading → Type 0
Fitting (whole notes) = AllFit notes
Fitting (refuses k) = Unit

front_fits : (note : List ℕ) (r : Reading) → note_fits (length note) ≡ true → Fitting r
    → Fitting (in_front note r)
front_fits note (whole notes) f e = fits_more f e
front_fits note (refuses k) f e = tt

from_fits : (most : ℕ) (list : List ℕ) (i : ℕ) → Fitting (read_from most list i)
unfolding read_from
from_fits zero list i = fits_none
from_fits (suc most) list i =
    let k = length_at list i in
    head_elim
    (λ x. Fitting (read_head list i x (λ n. read_from most list (i + length_bytes + n)))) list i
    (λ past. fits_none) (λ n. tt)
    (λ fits here.
    front_fits (text_at list i k) (read_from most list (i + length_bytes + k))
    (ap note_fits (text_at_length list i k here) ∙ fits) (from_fits most list (i + length_bytes + k)))

list_fits : (list : List ℕ) → Fitting (read_list list)
unfolding read_list rest_from
list_fits list =
    if_elim Fitting (ltb longest_list (length list)) tt
    (if_elim Fitting (eqb (length list) 0) tt
    (if_elim Fitting (not (eqb (get_or list 0 0) version)) tt
    (from_fits (length list) list first_note)))

pub read_fits : (list : List ℕ) (notes : List (List ℕ)) → read_list list ≡ whole notes → AllFit notes
read_fits list notes e = subst Fitting e (list_fits list)
