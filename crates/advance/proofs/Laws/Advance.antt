-- Laws of the advance over zeros: it is a multiplication, so that it goes by halves. In sections: a
-- number and its lowest bit, zeros, a product with 1, the advance, the product's loop.
-- Assumes nothing.
use Rattle.std.specs.Prelude.{◌≡◌, ◌≢◌, Bool, true, false, replicate, eqb, if◌then◌else◌}
use Rattle.std.proofs.Math.Path.{refl, sym, ap, ap₂}
use Rattle.std.proofs.Common.{◌∙◌, mul_assoc, mul_comm, add-mul, mul-add, zero-mul, one-mul, pow_pos}
use mathlib.Core.List.{List, [], ◌∷◌}
use Prim.Native.Nat.{ℕ, zero, suc, ◌+◌, ◌*◌, ◌/◌, ◌%◌, ◌^◌, ◌≤◌, ◌<◌}
use Rattle.std.proofs.Math.Nat.{pow-suc}
use native.Mathlib.Omega.{arith}
use Rattle.std.specs.Int.Bits.{bit_xor, xor_comm, xor_self, xor_shifted}
use Rattle.std.proofs.lemmas.List.{length-replicate, replicate-append-replicate}
use Rattle.std.proofs.Math.Pow.{pow-lt}
use Rattle.common.specs.Tools.{two_cases}
use Rattle.line.specs.Bits.{odd, low_bits}
use Rattle.line.specs.Check.{check_step, check_over}
use Rattle.line.specs.Laws.Xor.{xor_assoc}
use Rattle.line.specs.Laws.Check.{check_join, check_linear, check_lt}
use Rattle.advance.specs.Advance.{byte_bits, advanced, times, product}

-- A number is twice its half and its lowest bit

if_odd : (b q : ℕ) → (if odd b then q else 0) ≡ b % 2 * q
if_odd b q =
    two_cases (λ x. (if eqb x 1 then q else 0) ≡ x * q)
    (sym (zero-mul q)) (sym (one-mul q)) (b % 2) (omega arith)

low_short : (b m : ℕ) → b % 2 * 2 ^ m < 2 ^ suc m
low_short b m =
    two_cases (λ x. x * 2 ^ m < 2 ^ suc m)
    (omega (arith, pow-suc 2 m, pow_pos m)) (omega (arith, pow-suc 2 m, pow_pos m))
    (b % 2) (omega arith)

halves : (b m : ℕ) → b / 2 * 2 ^ suc m + b % 2 * 2 ^ m ≡ b * 2 ^ m
halves b m =
    ap (λ (x : ℕ). b / 2 * x + b % 2 * 2 ^ m) (pow-suc 2 m ∙ mul_comm (2 ^ m) 2)
    ∙ ap (λ (x : ℕ). x + b % 2 * 2 ^ m) (sym (mul_assoc (b / 2) 2 (2 ^ m)))
    ∙ sym (add-mul (b / 2 * 2) (b % 2) (2 ^ m))
    ∙ ap (λ (x : ℕ). x * 2 ^ m) (omega arith)

-- Zeros: they go through exclusive or and through a product

abbrev over : ℕ → ℕ → ℕ → ℕ
over p n r = check_over p r (replicate n false)

module _ (p : ℕ) where
  over_xor : (n a b : ℕ) → over p n (bit_xor a b) ≡ bit_xor (over p n a) (over p n b)
  over_xor n a b =
      sym (rw (length-replicate n false) at (check_linear p a b (replicate n false)))

  over_none : (n : ℕ) → over p n 0 ≡ 0
  over_none n = over_xor n 0 0 ∙ xor_self (over p n 0)

  over_join : (n m r : ℕ) → over p (n + m) r ≡ over p m (over p n r)
  over_join n m r =
      ap (check_over p r) (sym (replicate-append-replicate n m false))
      ∙ check_join p r (replicate n false) (replicate m false)

  over_step : (n r : ℕ) → over p n (check_step p r false) ≡ check_step p (over p n r) false
  unfolding check_over
  over_step zero r = refl
  over_step (suc n) r = over_step n (check_step p r false)

  over_if : (n : ℕ) (b : Bool) (a : ℕ)
      → over p n (if b then a else 0) ≡ (if b then over p n a else 0)
  over_if n true a = refl
  over_if n false a = over_none n

  over_times : (n a : ℕ) (bs : List Bool) → over p n (times p a bs) ≡ times p (over p n a) bs
  unfolding times
  over_times n a [] = over_none n
  over_times n a (b ∷ bs) =
      over_xor n (if b then a else 0) (times p (check_step p a false) bs)
      ∙ ap₂ bit_xor (over_if n b a)
      (over_times n (check_step p a false) bs ∙ ap (λ (x : ℕ). times p x bs) (over_step n a))

  -- One times a register is that register: no power of it reaches the polynomial

  step_power : (m : ℕ) → m < 15 → check_step p (2 ^ m) false ≡ 2 ^ suc m
  unfolding check_step
  step_power m h =
      let l : 2 ^ m < 32768 = pow-lt h in
      let q : 2 ^ m / 32768 % 2 ≡ 0 = omega arith in
      let s : 2 ^ m % 32768 ≡ 2 ^ m = omega arith in
      rw (q, s) (sym (pow-suc 2 m))

  tail_power : (n m c : ℕ) → n + m ≤ 15 → c < 2 ^ n
      → (m < 15 → times p (2 ^ suc m) (low_bits n c) ≡ c * 2 ^ suc m)
      → times p (check_step p (2 ^ m) false) (low_bits n c) ≡ c * 2 ^ suc m
  unfolding times low_bits
  tail_power zero m c h l f = let z : c ≡ 0 = omega arith in rw z (sym (zero-mul (2 ^ suc m)))
  tail_power (suc n) m c h l f =
      ap (λ (x : ℕ). times p x (low_bits (suc n) c)) (step_power m (omega arith)) ∙ f (omega arith)

  times_power : (n m b : ℕ) → n + m ≤ 16 → b < 2 ^ n → times p (2 ^ m) (low_bits n b) ≡ b * 2 ^ m
  unfolding times low_bits
  times_power zero m b h l = let z : b ≡ 0 = omega arith in rw z (sym (zero-mul (2 ^ m)))
  times_power (suc n) m b h l =
      let c : b / 2 < 2 ^ n = omega (arith, pow-suc 2 n) in
      ap (bit_xor (if odd b then 2 ^ m else 0))
      (tail_power n m (b / 2) (omega arith) c (λ k. times_power n (suc m) (b / 2) (omega arith) c))
      ∙ xor_comm (if odd b then 2 ^ m else 0) (b / 2 * 2 ^ suc m)
      ∙ ap (bit_xor (b / 2 * 2 ^ suc m)) (if_odd b (2 ^ m))
      ∙ xor_shifted (b / 2) (suc m) (b % 2 * 2 ^ m) (low_short b m)
      ∙ halves b m

  -- The advance is a product by the advance of one, and over k bytes that is a square

  pub advanced_none : (r : ℕ) → advanced p r 0 ≡ r
  unfolding advanced check_over
  advanced_none r = refl

  pub advanced_product : (r k : ℕ) → r < 65536 → advanced p r k ≡ product p (advanced p 1 k) r
  unfolding advanced
  advanced_product r k h =
      ap (over p (byte_bits * k)) (sym (times_power 16 0 r (omega arith) h ∙ omega arith))
      ∙ over_times (byte_bits * k) 1 (low_bits 16 r)

  advanced_join : (r k m : ℕ) → advanced p r (k + m) ≡ advanced p (advanced p r k) m
  unfolding advanced
  advanced_join r k m =
      ap (λ (n : ℕ). over p n r) (mul-add byte_bits k m) ∙ over_join (byte_bits * k) (byte_bits * m) r

  advanced_byte : (r : ℕ) → check_over p r (low_bits 8 0) ≡ advanced p r 1
  unfolding advanced low_bits
  advanced_byte r = refl

  advanced_lt : p < 65536 → (r k : ℕ) → r < 65536 → advanced p r k < 65536
  unfolding advanced
  advanced_lt hp r k h = check_lt p hp r (replicate (byte_bits * k) false) h

  square : p < 65536 → (h : ℕ) → product p (advanced p 1 h) (advanced p 1 h) ≡ advanced p 1 (h + h)
  square hp h =
      sym (advanced_product (advanced p 1 h) h (advanced_lt hp 1 h (omega arith)))
      ∙ sym (advanced_join 1 h h)

  pub advanced_even : p < 65536 → (r k : ℕ) → r < 65536 → k % 2 ≡ 0
      → product p (product p (advanced p 1 (k / 2)) (advanced p 1 (k / 2))) r ≡ advanced p r k
  advanced_even hp r k hr e =
      let twice : k / 2 + k / 2 ≡ k = omega arith in
      ap (λ (x : ℕ). product p x r) (square hp (k / 2) ∙ ap (advanced p 1) twice)
      ∙ sym (advanced_product r k hr)

  pub advanced_odd : p < 65536 → (r k : ℕ) → r < 65536 → k % 2 ≢ 0
      → product p
      (check_over p (product p (advanced p 1 (k / 2)) (advanced p 1 (k / 2))) (low_bits 8 0)) r
      ≡ advanced p r k
  advanced_odd hp r k hr e =
      let twice : k / 2 + k / 2 + 1 ≡ k = omega arith in
      ap (λ (x : ℕ). product p x r)
      (advanced_byte (product p (advanced p 1 (k / 2)) (advanced p 1 (k / 2)))
      ∙ ap (λ (x : ℕ). advanced p x 1) (square hp (k / 2))
      ∙ sym (advanced_join 1 (k / 2 + k / 2) 1)
      ∙ ap (advanced p 1) twice)
      ∙ sym (advanced_product r k hr)

  -- The product's loop: a place after the other, until none is left

  times_none : (n a : ℕ) → times p a (low_bits n 0) ≡ 0
  unfolding times low_bits
  times_none zero a = refl
  times_none (suc n) a = times_none n (check_step p a false)

  times_short : (n a b : ℕ) → b < 2 ^ n → times p a (low_bits n b) ≡ times p a (low_bits (suc n) b)
  unfolding times low_bits
  times_short zero a b h = let z : b ≡ 0 = omega arith in rw z
  times_short (suc n) a b h =
      ap (bit_xor (if odd b then a else 0))
      (times_short n (check_step p a false) (b / 2) (omega (arith, pow-suc 2 n)))

  pub product_none : (a b : ℕ) → b ≤ 0 → product p a b ≡ 0
  product_none a b h = let z : b ≡ 0 = omega arith in ap (product p a) z ∙ times_none 16 a

  pub product_step : (a b sum : ℕ) → b < 65536
      → bit_xor sum (product p a b)
      ≡ bit_xor (bit_xor sum (if odd b then a else 0)) (product p (check_step p a false) (b / 2))
  unfolding times low_bits
  product_step a b sum h =
      ap (bit_xor sum)
      (ap (bit_xor (if odd b then a else 0))
      (times_short 15 (check_step p a false) (b / 2) (omega arith)))
      ∙ sym (xor_assoc sum (if odd b then a else 0) (product p (check_step p a false) (b / 2)))
