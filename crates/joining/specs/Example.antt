-- Known answers, published for the text 123456789: 906E for the check of SDLC (CRC-16/X-25), 2189
-- and BB3D for the byte-synchronous one over each polynomial (CRC-16/KERMIT, CRC-16/ARC), the first
-- bit sent lowest; from the text whole and joined from 1234 and 56789; and 0000 for no text at all.
-- Computed. Assumes nothing.
use Rattle.std.specs.Prelude.{◌≡◌, refl, true, false, List, [], ◌∷◌, ◌++◌, ℕ, length}
use Rattle.joining.specs.declared.CheckRule.{CheckRule}
use Rattle.line.specs.Bits.{low_bits, text_bits}
use Rattle.line.specs.Check.{check_step, check_over, top_bits}
use Rattle.line.specs.Bits.{from_low}
use Rattle.advance.specs.Advance.{advanced}
use Rattle.joining.specs.Rule.{sdlc_rule, synchronous_rule, check_by}
use Rattle.joining.specs.Join.{joined_by}

abbrev front : List ℕ
front = 49 ∷ 50 ∷ 51 ∷ 52 ∷ []

abbrev back : List ℕ
back = 53 ∷ 54 ∷ 55 ∷ 56 ∷ 57 ∷ []

-- the check whole, and joined
abbrev whole : CheckRule → ℕ
whole rule = from_low (top_bits 16 (check_by rule (front ++ back)))

abbrev together : CheckRule → ℕ
together rule =
    from_low (top_bits 16 (joined_by rule (check_by rule front) (check_by rule back) (length back)))

pub published :
    (whole sdlc_rule ≡ 0x906E)
    × (whole (synchronous_rule false) ≡ 0x2189)
    × (whole (synchronous_rule true) ≡ 0xBB3D)
unfolding check_by check_over check_step text_bits low_bits top_bits from_low
published = (refl, refl, refl)

pub published_joined :
    (together sdlc_rule ≡ 0x906E)
    × (together (synchronous_rule false) ≡ 0x2189)
    × (together (synchronous_rule true) ≡ 0xBB3D)
unfolding check_by joined_by advanced check_over check_step text_bits low_bits top_bits from_low
published_joined = (refl, refl, refl)

pub nothing : from_low (top_bits 16 (check_by sdlc_rule [])) ≡ 0x0000
unfolding check_by check_over check_step text_bits low_bits top_bits from_low
nothing = refl
