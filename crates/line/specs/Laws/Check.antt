-- Laws of the check register, over any polynomial p and any streams of bits. Assumes nothing.
use Rattle.std.specs.Prelude.{◌≡◌, Bool, true, length, replicate, if◌then◌else◌}
use Rattle.std.proofs.Math.Path.{refl, sym, ap}
use Rattle.std.proofs.Common.{◌∙◌, mod-lt, zero-lt-suc, pow-suc, mul_comm, mul_assoc, add-mul, zero-mul, pow_pos, pow-add, shl_lt}
use Rattle.std.proofs.Math.Bool.{false}
use mathlib.Core.List.{List, [], ◌∷◌, ◌++◌}
use Prim.Native.Nat.{ℕ, zero, suc, ◌+◌, ◌*◌, ◌/◌, ◌%◌, ◌^◌, ◌<◌}
use Rattle.std.proofs.Math.Nat.{mod-one}
use native.Mathlib.Omega.{arith}
use Rattle.std.proofs.Math.Arith.{mod-mul}
use Rattle.std.specs.Int.Bits.{bit_xor, xor_self, xor_zero_l, xor_zero_r}
use Rattle.std.proofs.lemmas.Nat.{xor_comm, xor_lt}
use Rattle.common.specs.Tools.{if_elim}
use Rattle.line.specs.Bits.{one_if, low_bits}
use Rattle.line.specs.Check.{ones, top, shifted, differs, check_step, check_over, top_bits}
use Rattle.line.specs.Check.{complement, check_bits}
use Rattle.line.specs.Laws.Xor.{xor_assoc, xor_left_comm, top_xor, shifted_xor, differs_self}
use Rattle.line.specs.Laws.Xor.{differs_four}

-- the polynomial comes in where exactly one of two streams brings it in
mix_xor : (p : ℕ) (x y : Bool) (s t : ℕ)
    → (if differs x y then bit_xor (bit_xor s t) p else bit_xor s t)
    ≡ bit_xor (if x then bit_xor s p else s) (if y then bit_xor t p else t)
mix_xor p true true s t =
    rw (xor_assoc s p (bit_xor t p), xor_left_comm p t p, xor_self p, xor_zero_r t)
mix_xor p true false s t = xor_assoc s t p ∙ ap (bit_xor s) (xor_comm t p) ∙ sym (xor_assoc s p t)
mix_xor p false true s t = xor_assoc s t p
mix_xor p false false s t = refl

-- sixteen shifts empty a register of sixteen bits: n low bits are left, moved up by m
shifts : ℕ → ℕ → ℕ
shifts zero v = v
shifts (suc n) v = shifts n (shifted v)

left_split : (r n m : ℕ) → n + m ≡ 15
    → r % 2 ^ suc n * 2 ^ m ≡ (r / 2 ^ n % 2) * 32768 + r % 2 ^ n * 2 ^ m
left_split r n m e =
    ap (λ (x : ℕ). r % x * 2 ^ m) (pow-suc 2 n ∙ mul_comm (2 ^ n) 2)
    ∙ ap (λ (x : ℕ). x * 2 ^ m) (mod-mul r {m = 2} {c = 2 ^ n} (zero-lt-suc 1) (pow_pos n))
    ∙ add-mul (r / 2 ^ n % 2 * 2 ^ n) (r % 2 ^ n) (2 ^ m)
    ∙ ap (λ (x : ℕ). x + r % 2 ^ n * 2 ^ m)
    (mul_assoc (r / 2 ^ n % 2) (2 ^ n) (2 ^ m)
    ∙ ap (λ (x : ℕ). (r / 2 ^ n % 2) * x) (sym (pow-add 2 n m) ∙ ap (λ (x : ℕ). 2 ^ x) e))

shifted_left : (r n m : ℕ) → n + m ≡ 15 → shifted (r % 2 ^ suc n * 2 ^ m) ≡ r % 2 ^ n * 2 ^ suc m
shifted_left r n m e =
    let v : ℕ = r % 2 ^ suc n * 2 ^ m in
    let s = left_split r n m e in
    let l : r % 2 ^ n * 2 ^ m < 32768 =
    rw (ap (λ (x : ℕ). 2 ^ x) e) at (shl_lt n m (mod-lt r (pow_pos n))) in
    let low : v % 32768 * 2 ≡ r % 2 ^ n * 2 ^ m * 2 = omega arith in
    low ∙ mul_assoc (r % 2 ^ n) (2 ^ m) 2 ∙ ap (λ (x : ℕ). r % 2 ^ n * x) (sym (pow-suc 2 m))

shifts_left : (r n m : ℕ) → n + m ≡ 16 → shifts n (r % 2 ^ n * 2 ^ m) ≡ 0
unfolding shifts
shifts_left r zero m e = ap (λ (x : ℕ). x * 2 ^ m) (mod-one r) ∙ zero-mul (2 ^ m)
shifts_left r (suc n) m e =
    ap (shifts n) (shifted_left r n m (omega arith)) ∙ shifts_left r n (suc m) (omega arith)

shifts_all : (r : ℕ) → r < 65536 → shifts 16 r ≡ 0
shifts_all r h =
    let w : r ≡ r % 2 ^ 16 * 2 ^ 0 = omega arith in ap (shifts 16) w ∙ shifts_left r 16 0 refl

module _ (p : ℕ) where
  -- the register over joined parts
  pub check_join : (r : ℕ) (xs ys : List Bool)
      → check_over p r (xs ++ ys) ≡ check_over p (check_over p r xs) ys
  unfolding check_over
  check_join r [] ys = refl
  check_join r (x ∷ xs) ys = check_join (check_step p r x) xs ys

  -- two registers and two streams: a step goes through exclusive or
  pub step_xor : (r s : ℕ) (b c : Bool)
      → check_step p (bit_xor r s) (differs b c) ≡ bit_xor (check_step p r b) (check_step p s c)
  unfolding check_step
  step_xor r s b c =
      rw (top_xor r s, shifted_xor r s, differs_four (top r) (top s) b c)
      (mix_xor p (differs (top r) b) (differs (top s) c) (shifted r) (shifted s))

  -- a bit enters at x^15: the step by it is the step by 0 from the register with that place turned
  -- over
  pub step_enters : (r : ℕ) (b : Bool)
      → check_step p (bit_xor r (one_if b * 32768)) false ≡ check_step p r b
  step_enters r b =
      ap (λ (c : Bool). check_step p (bit_xor r (one_if b * 32768)) c) (sym (differs_self b))
      ∙ step_xor r (one_if b * 32768) b b
      ∙ ap (bit_xor (check_step p r b)) (gone b)
      ∙ xor_zero_r (check_step p r b)
    where
      gone : (b : Bool) → check_step p (one_if b * 32768) b ≡ 0
      gone true = unfold check_step in refl
      gone false = unfold check_step in refl

  -- two registers over the same text differ by their difference over zeros
  pub check_linear : (r s : ℕ) (bs : List Bool)
      → bit_xor (check_over p r bs) (check_over p s bs)
      ≡ check_over p (bit_xor r s) (replicate (length bs) false)
  unfolding check_over
  check_linear r s [] = refl
  check_linear r s (b ∷ bs) =
      check_linear (check_step p r b) (check_step p s b) bs
      ∙ ap (λ (x : ℕ). check_over p x (replicate (length bs) false))
      (sym (rw (← differs_self b) (step_xor r s b b)))

  step_top : (v : ℕ) → check_step p v (top v) ≡ shifted v
  unfolding check_step
  step_top v = rw (differs_self (top v))

  -- a register fed the top bits of another ends, but for what is left of that one, as their
  -- difference fed zeros
  check_tops : (n r v : ℕ)
      → bit_xor (check_over p r (top_bits n v)) (shifts n v)
      ≡ check_over p (bit_xor r v) (replicate n false)
  unfolding check_over top_bits shifts
  check_tops zero r v = refl
  check_tops (suc n) r v =
      check_tops n (check_step p r (top v)) (shifted v)
      ∙ ap (λ (x : ℕ). check_over p x (replicate n false))
      (ap (bit_xor (check_step p r (top v))) (sym (step_top v))
      ∙ sym (rw (← differs_self (top v)) (step_xor r v (top v) (top v))))

  -- the register fed its own check, as it is sent, ends as ones fed zeros
  pub check_own : (r : ℕ) → r < 65536
      → check_over p r (check_bits r) ≡ check_over p ones (replicate 16 false)
  unfolding check_bits
  check_own r h =
      let v : ℕ = complement r in
      let gone : shifts 16 v ≡ 0 = shifts_all v (xor_lt 16 r ones h (omega arith)) in
      let d : bit_xor r v ≡ ones =
      sym (xor_assoc r r ones) ∙ ap (λ (x : ℕ). bit_xor x ones) (xor_self r) ∙ xor_zero_l ones in
      sym (xor_zero_r (check_over p r (top_bits 16 v)))
      ∙ ap (bit_xor (check_over p r (top_bits 16 v))) (sym gone)
      ∙ check_tops 16 r v
      ∙ ap (λ (x : ℕ). check_over p x (replicate 16 false)) d

  -- the register stays a number of sixteen bits
  pub step_lt : p < 65536 → (r : ℕ) (b : Bool) → check_step p r b < 65536
  unfolding check_step
  step_lt hp r b =
      let l : shifted r < 65536 = omega arith in
      if_elim (λ (x : ℕ). x < 65536) (differs (top r) b) (xor_lt 16 (shifted r) p l hp) l

  pub check_lt : p < 65536 → (r : ℕ) (bs : List Bool) → r < 65536 → check_over p r bs < 65536
  unfolding check_over
  check_lt hp r [] h = h
  check_lt hp r (b ∷ bs) h = check_lt hp (check_step p r b) bs (step_lt hp r b)

pub check_bits_length : (r : ℕ) → length (check_bits r) ≡ 16
unfolding check_bits top_bits low_bits
check_bits_length r = refl
