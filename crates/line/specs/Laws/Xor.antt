-- Laws of exclusive or, of numbers and of Bools, that the check's laws stand on and the library
-- lacks. Assumes nothing.
use Rattle.std.specs.Prelude.{◌≡◌, refl, Bool, true, false, not, ℕ, ◌*◌, ◌+◌, ◌/◌, ◌%◌, ◌<◌, eqb}
use Rattle.std.proofs.Common.{sym, ap, ap₂, ◌∙◌, mod-lt, add-zero, zero-lt-suc}
use Rattle.std.specs.Bool.{beq}
use Rattle.std.specs.Int.Bits.{bit_xor, differ, xor_step}
use Rattle.std.proofs.lemmas.Nat.{xor_mod, xor_shr, xor_comm, xor_block}
use Rattle.std.proofs.Math.Arith.{bin_ind}
use Rattle.common.specs.Tools.{two_cases, both_of, both_of→, beq→}
use Rattle.line.specs.Bits.{odd}
use Rattle.line.specs.Check.{differs, top, shifted}

low_bit : (n : ℕ) → n % 2 < 2
low_bit n = mod-lt n (zero-lt-suc 1)

differ_assoc : (x y z : ℕ) → x < 2 → y < 2 → z < 2 → differ (differ x y) z ≡ differ x (differ y z)
differ_assoc x y z hx hy hz =
    two_cases (λ x. differ (differ x y) z ≡ differ x (differ y z)) refl
    (two_cases (λ y. differ (differ 1 y) z ≡ differ 1 (differ y z)) refl
    (two_cases (λ z. differ (differ 1 1) z ≡ differ 1 (differ 1 z)) refl refl z hz) y hy) x hx

xor_bits : (x y : ℕ) → x < 2 → y < 2 → bit_xor x y ≡ differ x y
xor_bits x y hx hy =
    two_cases (λ x. bit_xor x y ≡ differ x y) refl
    (two_cases (λ y. bit_xor 1 y ≡ differ 1 y) refl refl y hy) x hx

pub xor_low : (a b : ℕ) → bit_xor a b % 2 ≡ differ (a % 2) (b % 2)
xor_low a b = xor_mod a b 1 ∙ xor_bits (a % 2) (b % 2) (low_bit a) (low_bit b)

pub xor_assoc : (a b c : ℕ) → bit_xor (bit_xor a b) c ≡ bit_xor a (bit_xor b c)
xor_assoc = bin_ind (λ a. (b c : ℕ) → bit_xor (bit_xor a b) c ≡ bit_xor a (bit_xor b c)) (λ b c. refl)
    λ a ih b c.
    xor_step (bit_xor a b) c
    ∙ ap₂ (λ (x y : ℕ). x * 2 + y)
    (rw (xor_shr a b 1, xor_shr b c 1) (ih (b / 2) (c / 2)))
    (rw (xor_low a b, xor_low b c)
    (differ_assoc (a % 2) (b % 2) (c % 2) (low_bit a) (low_bit b) (low_bit c)))
    ∙ sym (xor_step a (bit_xor b c))

pub xor_left_comm : (a b c : ℕ) → bit_xor a (bit_xor b c) ≡ bit_xor b (bit_xor a c)
xor_left_comm a b c =
    sym (xor_assoc a b c) ∙ ap (λ (x : ℕ). bit_xor x c) (xor_comm a b) ∙ xor_assoc b a c

-- the two parts of a register that a step looks at

odd_bits : (x y : ℕ) → x < 2 → y < 2 → eqb (differ x y) 1 ≡ differs (eqb x 1) (eqb y 1)
odd_bits x y hx hy =
    two_cases (λ x. eqb (differ x y) 1 ≡ differs (eqb x 1) (eqb y 1))
    (two_cases (λ y. eqb (differ 0 y) 1 ≡ differs (eqb 0 1) (eqb y 1)) refl refl y hy)
    (two_cases (λ y. eqb (differ 1 y) 1 ≡ differs (eqb 1 1) (eqb y 1)) refl refl y hy) x hx

odd_xor : (a b : ℕ) → odd (bit_xor a b) ≡ differs (odd a) (odd b)
odd_xor a b = rw (xor_low a b) (odd_bits (a % 2) (b % 2) (low_bit a) (low_bit b))

pub top_xor : (a b : ℕ) → top (bit_xor a b) ≡ differs (top a) (top b)
top_xor a b = rw (xor_shr a b 15) (odd_xor (a / 32768) (b / 32768))

double_xor : (a b : ℕ) → bit_xor a b * 2 ≡ bit_xor (a * 2) (b * 2)
double_xor a b = sym (simp add-zero at (xor_block 1 a b 0 0 (zero-lt-suc 1) (zero-lt-suc 1)))

pub shifted_xor : (a b : ℕ) → shifted (bit_xor a b) ≡ bit_xor (shifted a) (shifted b)
shifted_xor a b = rw (xor_mod a b 15) (double_xor (a % 32768) (b % 32768))

-- Bools

pub differs_self : (b : Bool) → differs b b ≡ false
differs_self true = refl
differs_self false = refl

pub not_differs : (b : Bool) → not b ≡ differs b true
not_differs true = refl
not_differs false = refl

-- an equation of four Bools, by its sixteen cases, computed
pub differs_four : (a b c d : Bool)
    → differs (differs a b) (differs c d) ≡ differs (differs a c) (differs b d)
differs_four a b c d =
    beq→ _ _ (both_of→ (λ d. f a b c d)
    (both_of→ (λ c. both_of λ d. f a b c d)
    (both_of→ (λ b. both_of λ c. both_of λ d. f a b c d)
    (both_of→ (λ a. both_of λ b. both_of λ c. both_of λ d. f a b c d) tt a) b) c) d)
  where
    f : Bool → Bool → Bool → Bool → Bool
    f a b c d = beq (differs (differs a b) (differs c d)) (differs (differs a c) (differs b d))
