-- Laws of the join, from the two laws of 02, P10: `check_join` (a joined text is gone on with from
-- the register behind its first part) and `check_linear` (two registers over one text differ by
-- their difference over zeros). Assumes nothing.
use Rattle.std.specs.Prelude.{◌≡◌, false, List, ◌++◌, ℕ, length, replicate}
use Rattle.std.proofs.Common.{sym, ap, ◌∙◌}
use Rattle.std.specs.Int.Bits.{bit_xor, xor_self, xor_zero_r}
use Rattle.std.proofs.lemmas.Nat.{xor_comm}
use Rattle.line.specs.Bits.{text_bits}
use Rattle.line.specs.Check.{check_over}
use Rattle.line.specs.Laws.Bits.{text_bits_join, text_bits_length}
use Rattle.line.specs.Laws.Xor.{xor_assoc}
use Rattle.line.specs.Laws.Check.{check_join, check_linear}
use Rattle.joining.specs.declared.CheckRule.{CheckRule}
use Rattle.joining.specs.Rule.{check_by}
use Rattle.advance.specs.Advance.{advanced}
use Rattle.joining.specs.Join.{joined_by}

pub xor_twice : (a b : ℕ) → bit_xor (bit_xor a b) b ≡ a
xor_twice a b = xor_assoc a b b ∙ ap (bit_xor a) (xor_self b) ∙ xor_zero_r a

-- a text's register from r is its register from s, and the difference of r and s advanced over as
-- many zero bytes
pub gone_on : (p r s : ℕ) (text : List ℕ)
    → bit_xor (check_over p s (text_bits 8 text)) (advanced p (bit_xor r s) (length text))
    ≡ check_over p r (text_bits 8 text)
unfolding advanced
gone_on p r s text =
    let bits = text_bits 8 text in
    ap (λ (n : ℕ). bit_xor (check_over p s bits) (check_over p (bit_xor r s) (replicate n false)))
    (sym (text_bits_length 8 text))
    ∙ ap (bit_xor (check_over p s bits)) (sym (check_linear p r s bits))
    ∙ xor_comm (check_over p s bits) (bit_xor (check_over p r bits) (check_over p s bits))
    ∙ xor_twice (check_over p r bits) (check_over p s bits)

-- the check of two texts put together
pub checks_join : (rule : CheckRule) (front back : List ℕ)
    → joined_by rule (check_by rule front) (check_by rule back) (length back)
    ≡ check_by rule (front ++ back)
unfolding joined_by check_by
checks_join rule front back =
    let p = rule.polynomial in
    let s = rule.preset in
    let c = rule.complement in
    let r : ℕ = check_over p s (text_bits 8 front) in
    let b : ℕ = check_over p s (text_bits 8 back) in
    ap (λ (x : ℕ). bit_xor (bit_xor b c) (advanced p (bit_xor x s) (length back))) (xor_twice r c)
    ∙ xor_assoc b c (advanced p (bit_xor r s) (length back))
    ∙ ap (bit_xor b) (xor_comm c (advanced p (bit_xor r s) (length back)))
    ∙ sym (xor_assoc b (advanced p (bit_xor r s) (length back)) c)
    ∙ ap (λ (x : ℕ). bit_xor x c)
    (gone_on p r s back
    ∙ sym (check_join p s (text_bits 8 front) (text_bits 8 back))
    ∙ ap (check_over p s) (sym (text_bits_join 8 front back)))
