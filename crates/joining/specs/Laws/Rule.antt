-- The register over a text, byte after byte. Assumes nothing.
use Rattle.std.specs.Prelude.{◌≡◌, refl, List, [], ◌∷◌, ℕ, suc, ◌+◌, ◌≤◌, ◌<◌, length, drop, get_or, fold}
use Rattle.std.proofs.Common.{◌∙◌, add-one, drop_of_length-le, drop-cons}
use Rattle.line.specs.Bits.{low_bits, text_bits}
use Rattle.line.specs.Check.{check_over}
use Rattle.line.specs.Laws.Check.{check_join}

pub text_over : (p r : ℕ) (text : List ℕ)
    → check_over p r (text_bits 8 text) ≡ fold (λ x v. check_over p x (low_bits 8 v)) r text
unfolding text_bits check_over
text_over p r [] = refl
text_over p r (v ∷ vs) =
    check_join p r (low_bits 8 v) (text_bits 8 vs) ∙ text_over p (check_over p r (low_bits 8 v)) vs

-- the same at a place of the text
pub text_step : (p r : ℕ) (text : List ℕ) (i : ℕ) → i < length text
    → check_over p r (text_bits 8 (drop i text))
    ≡ check_over p (check_over p r (low_bits 8 (get_or text i 0))) (text_bits 8 (drop (i + 1) text))
unfolding text_bits
text_step p r text i h =
    rw (drop-cons text i 0 h, add-one)
    (check_join p r (low_bits 8 (get_or text i 0)) (text_bits 8 (drop (suc i) text)))

pub text_none : (p r : ℕ) (text : List ℕ) (i : ℕ) → length text ≤ i
    → check_over p r (text_bits 8 (drop i text)) ≡ r
unfolding text_bits check_over
text_none p r text i h = rw (drop_of_length-le text h)
