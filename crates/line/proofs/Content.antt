-- The check as a whole: a message and its check leave 1D0F hex, and a note's content is the bytes of
-- the note and of its check. Here, since they rest on laws of specs/. Assumes nothing.
use Rattle.std.specs.Prelude.{◌≡◌, refl, List, ◌++◌, Bool, false, ℕ, ◌<◌, replicate}
use Rattle.std.proofs.Common.{sym, ap, ◌∙◌, arith}
use Rattle.line.specs.Bits.{text_bits}
use Rattle.line.specs.Check.{sdlc, ones, check_step, check_over, check_bits, remainder}
use Rattle.line.specs.Frame.{note_bits, check_of, content_of, check_bytes, with_check}
use Rattle.line.specs.Laws.Bits.{text_bits_join}
use Rattle.line.specs.Laws.Check.{check_join, check_own, check_lt}
use Rattle.line.specs.Laws.Frame.{check_bytes_bits}

-- a message followed by its complemented check leaves 1D0F, from any register
pub check_good : (r : ℕ) (bs : List Bool) → r < 65536
    → check_over sdlc r (bs ++ check_bits (check_over sdlc r bs)) ≡ remainder
check_good r bs h =
    check_join sdlc r bs (check_bits (check_over sdlc r bs))
    ∙ check_own sdlc (check_over sdlc r bs) (check_lt sdlc (omega arith) r bs h)
    ∙ ones_fed
  where
    ones_fed : check_over sdlc ones (replicate 16 false) ≡ remainder
    ones_fed = unfold check_over check_step in refl

-- the content is the bits of the note's bytes and of the check's two
pub content_is : (note : List ℕ) → content_of note ≡ text_bits 8 (with_check note)
content_is note =
    let r = check_of note in
    ap (λ (l : List Bool). note_bits note ++ l) (sym (check_bytes_bits r))
    ∙ sym (text_bits_join 8 note (check_bytes r))

-- a receiver that starts from ones ends with the remainder of a good frame
pub content_good : (note : List ℕ) → check_over sdlc ones (content_of note) ≡ remainder
content_good note = check_good ones (note_bits note) (omega arith)
