-- A step of the check register as the code takes it. Assumes nothing.
use Rattle.std.specs.Prelude.{◌≡◌, refl, Bool, true, false, ℕ, zero, suc, ◌*◌, ◌/◌, ◌%◌, ◌<◌, ◌≤◌, eqb}
use Rattle.std.specs.Int.{from_bool}
use Rattle.std.specs.Int.Bits.{bit_xor}
use Rattle.std.proofs.Common.{ap, ◌∙◌, arith}
use Rattle.std.proofs.lemmas.Nat.{xor_shr}
use Rattle.line.specs.Check.{differs, shifted, check_step}

-- where a bit has met x^15, that place says whether they differ
met_top : (r : ℕ) (b : Bool) → bit_xor r (from_bool b * 32768) / 32768 ≡ bit_xor (r / 32768) (from_bool b)
met_top r b = xor_shr r (from_bool b * 32768) 15 ∙ ap (bit_xor (r / 32768)) (omega arith)

unlike : (t : ℕ) (b : Bool) → t < 2 → 1 ≤ bit_xor t (from_bool b) → differs (eqb (t % 2) 1) b ≡ true
unlike zero true lt h = refl
unlike zero false lt h = absurd (omega (arith, h))
unlike (suc zero) true lt h = absurd (omega (arith, h))
unlike (suc zero) false lt h = refl
unlike (suc (suc t)) b lt h = absurd (omega (arith, lt))

alike : (t : ℕ) (b : Bool) → t < 2 → bit_xor t (from_bool b) < 1 → differs (eqb (t % 2) 1) b ≡ false
alike zero true lt h = absurd (omega (arith, h))
alike zero false lt h = refl
alike (suc zero) true lt h = refl
alike (suc zero) false lt h = absurd (omega (arith, h))
alike (suc (suc t)) b lt h = absurd (omega (arith, lt))

module _ (p r : ℕ) (b : Bool) (c : ℕ) (within : r < 65536) (e : c ≡ from_bool b) where
  -- a step that takes the polynomial, and one that does not
  pub step_taken : 32768 ≤ bit_xor r (c * 32768) → bit_xor (shifted r) p ≡ check_step p r b
  unfolding check_step
  step_taken h =
      let place = rw e at h in
      let out : 1 ≤ bit_xor (r / 32768) (from_bool b) = rw (← met_top r b) (omega (arith, place)) in
      rw (unlike (r / 32768) b (omega (arith, within)) out)

  pub step_left : bit_xor r (c * 32768) < 32768 → shifted r ≡ check_step p r b
  unfolding check_step
  step_left h =
      let place = rw e at h in
      let out : bit_xor (r / 32768) (from_bool b) < 1 = rw (← met_top r b) (omega (arith, place)) in
      rw (alike (r / 32768) b (omega (arith, within)) out)
