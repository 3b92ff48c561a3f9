-- One bit turned over, which the check always finds: over any polynomial with a 1. Assumes nothing.
use Rattle.std.specs.Prelude.{◌≡◌, ◌≢◌, Bool, not, List, ◌∷◌, ◌++◌, length, replicate, if◌then◌else◌}
use Rattle.std.proofs.Math.Path.{sym, ap, ap₂}
use Rattle.std.proofs.Common.{◌∙◌}
use Rattle.std.proofs.Math.Bool.{true, false}
use Prim.Native.Nat.{ℕ, zero, suc, ◌*◌, ◌/◌, ◌%◌, ◌≤◌, ◌<◌}
use native.Mathlib.Omega.{arith}
use Rattle.std.specs.Int.Bits.{bit_xor, differ, xor_self, xor_zero_l, xor_zero_r}
use Rattle.common.specs.Tools.{eqb_elim}
use Rattle.line.specs.Check.{differs, check_step, check_over}
use Rattle.line.specs.Laws.Xor.{xor_assoc, xor_low, not_differs}
use Rattle.line.specs.Laws.Check.{check_join, step_xor, check_linear, step_lt}

-- the two registers then differ, and a difference that is not 0 stays so over any bits
module _ (p : ℕ) (small : p < 65536) (one : p % 2 ≡ 1) where
  step_live : (r : ℕ) → 1 ≤ r → r < 65536 → 1 ≤ check_step p r false
  unfolding check_step
  step_live r h l =
      eqb_elim (λ t. 1 ≤ (if differs t false then bit_xor (r % 32768 * 2) p else r % 32768 * 2))
      (r / 32768 % 2) 1
      (λ e.
      let v : ℕ = r % 32768 * 2 in
      let z : v % 2 ≡ 0 = omega arith in
      let o : bit_xor v p % 2 ≡ 1 = xor_low v p ∙ ap₂ differ z one in
      omega arith)
      (λ e. omega arith)

  zeros_live : (r n : ℕ) → 1 ≤ r → r < 65536 → 1 ≤ check_over p r (replicate n false)
  unfolding check_over
  zeros_live r zero h l = h
  zeros_live r (suc n) h l =
      zeros_live (check_step p r false) n (step_live r h l) (step_lt p small r false)

  pub flip_found : (r k : ℕ) (xs ys : List Bool) (b : Bool) → check_over p r (xs ++ (b ∷ ys)) ≡ k
      → check_over p r (xs ++ (not b ∷ ys)) ≢ k
  unfolding check_over
  flip_found r k xs ys b e f =
      let s = check_over p r xs in
      let x = check_step p s b in
      let y = check_step p s (not b) in
      let alone : check_step p 0 true ≡ p = (unfold check_step in xor_zero_l p) in
      let q : y ≡ bit_xor x p =
      ap₂ (λ (u : ℕ) (c : Bool). check_step p u c) (sym (xor_zero_r s)) (not_differs b)
      ∙ step_xor p s 0 b true ∙ ap (bit_xor x) alone in
      let d : bit_xor x y ≡ p =
      ap (bit_xor x) q ∙ sym (xor_assoc x x p)
      ∙ ap (λ (u : ℕ). bit_xor u p) (xor_self x) ∙ xor_zero_l p in
      let z : check_over p p (replicate (length ys) false) ≡ 0 =
      ap (λ (u : ℕ). check_over p u (replicate (length ys) false)) (sym d)
      ∙ sym (check_linear p x y ys)
      ∙ ap₂ bit_xor (sym (check_join p r xs (b ∷ ys)) ∙ e) (sym (check_join p r xs (not b ∷ ys)) ∙ f)
      ∙ xor_self k in
      omega (arith, zeros_live p (length ys) (omega arith) small)
