-- Laws of bits and texts: lengths, joining, and the way back from bits to numbers. Assumes
-- nothing.
use Rattle.std.specs.Prelude.{◌≡◌, refl, Bool, true, false, List, [], ◌∷◌, ◌++◌, ℕ, zero, suc, ◌+◌, ◌-◌, ◌*◌, ◌/◌, ◌%◌, ◌^◌, ◌≤◌, ◌<◌, eqb, length, take, drop}
use Rattle.std.proofs.Common.{sym, ap, ap₂, ◌∙◌, append_assoc, zero-add, zero-lt-suc, mod-eq_of_lt}
use Rattle.std.proofs.Common.{pow-suc, mul-zero, mul-suc, sub-one, arith, length-append, pow_pos}
use Rattle.std.proofs.Common.{shr-shr, take_at, drop_at}
use Rattle.std.proofs.Math.Arith.{mod-mul}
use Rattle.common.specs.Tools.{two_cases}
use Rattle.line.specs.Bits.{odd, low_bits, text_bits, one_if, cells, from_low}
use Rattle.line.specs.Bits.{Below, below_none, below_more}

-- low_bits

pub low_bits_length : (n v : ℕ) → length (low_bits n v) ≡ n
unfolding low_bits
low_bits_length zero v = refl
low_bits_length (suc n) v = ap suc (low_bits_length n (v / 2))

-- as a loop meets them: one bit more, and none left
pub low_step : (n v : ℕ) → 0 < n → low_bits n v ≡ odd v ∷ low_bits (n - 1) (v / 2)
unfolding low_bits
low_step zero v h = absurd (omega arith)
low_step (suc n) v h = rw sub-one

pub low_none : (n v : ℕ) → n ≤ 0 → low_bits n v ≡ []
unfolding low_bits
low_none zero v h = refl
low_none (suc n) v h = absurd (omega arith)

-- what a loop that counts up from 0 has before it: one bit more of n, and none
pub low_more : (n i v : ℕ) → i < n → low_bits (n - i) v ≡ odd v ∷ low_bits (n - (i + 1)) (v / 2)
low_more n i v h =
    let next : n - i - 1 ≡ n - (i + 1) = omega arith in
    rw next at (low_step (n - i) v (omega arith))

pub low_over : (n i v : ℕ) → n ≤ i → low_bits (n - i) v ≡ []
low_over n i v h = low_none (n - i) v (omega arith)

-- the low bits, and then those above them
pub low_bits_split : (n m v : ℕ) → low_bits (n + m) v ≡ low_bits n v ++ low_bits m (v / 2 ^ n)
unfolding low_bits
low_bits_split zero m v = let whole : v / 1 ≡ v = omega arith in rw (zero-add m, whole)
low_bits_split (suc n) m v =
    let up : suc n + m ≡ suc (n + m) = omega arith in
    let down : v / 2 / 2 ^ n ≡ v / 2 ^ suc n =
    shr-shr v 1 n ∙ ap (λ (k : ℕ). v / 2 ^ k) (omega arith) in
    rw up
    (ap (λ (l : List Bool). odd v ∷ l)
    (low_bits_split n m (v / 2) ∙ ap (λ (x : ℕ). low_bits n (v / 2) ++ low_bits m x) down))

-- from_low

pub odd_is : (v : ℕ) → one_if (odd v) ≡ v % 2
odd_is v = two_cases (λ x. one_if (eqb x 1) ≡ x) refl refl (v % 2) (omega arith)

-- the low bits of a number are the number below their power of two
pub from_low_mod : (n v : ℕ) → from_low (low_bits n v) ≡ v % 2 ^ n
unfolding from_low low_bits
from_low_mod zero v = omega arith
from_low_mod (suc n) v =
    let low : v % 2 ^ suc n ≡ v / 2 % 2 ^ n * 2 + v % 2 =
    ap (λ (x : ℕ). v % x) (pow-suc 2 n)
    ∙ mod-mul v {m = 2 ^ n} {c = 2} (pow_pos n) (zero-lt-suc 1) in
    ap₂ (λ (x y : ℕ). x * 2 + y) (from_low_mod n (v / 2)) (odd_is v) ∙ sym low

pub from_low_low_bits : (n v : ℕ) → v < 2 ^ n → from_low (low_bits n v) ≡ v
from_low_low_bits n v h = from_low_mod n v ∙ mod-eq_of_lt h

pub odd_joined : (n : ℕ) (b : Bool) → odd (n * 2 + one_if b) ≡ b
odd_joined n true = let p : (n * 2 + 1) % 2 ≡ 1 = omega arith in rw p
odd_joined n false = let p : (n * 2 + 0) % 2 ≡ 0 = omega arith in rw p

pub half_joined : (n : ℕ) (b : Bool) → (n * 2 + one_if b) / 2 ≡ n
half_joined n true = omega arith
half_joined n false = omega arith

pub low_bits_from_low : (bs : List Bool) → low_bits (length bs) (from_low bs) ≡ bs
unfolding low_bits from_low
low_bits_from_low [] = refl
low_bits_from_low (b ∷ bs) =
    rw (odd_joined (from_low bs) b, half_joined (from_low bs) b)
    (ap (λ (l : List Bool). b ∷ l) (low_bits_from_low bs))

pub bit_few : (b : Bool) → one_if b ≤ 1
bit_few true = omega arith
bit_few false = omega arith

pub from_low_lt : (bs : List Bool) → from_low bs < 2 ^ length bs
unfolding from_low
from_low_lt [] = omega arith
from_low_lt (b ∷ bs) = omega (arith, from_low_lt bs, pow-suc 2 (length bs), bit_few b)

-- text_bits

pub text_bits_join : (n : ℕ) (xs ys : List ℕ)
    → text_bits n (xs ++ ys) ≡ text_bits n xs ++ text_bits n ys
unfolding text_bits
text_bits_join n [] ys = refl
text_bits_join n (x ∷ xs) ys =
    rw (text_bits_join n xs ys, append_assoc (low_bits n x) (text_bits n xs) (text_bits n ys))

pub text_bits_length : (n : ℕ) (vs : List ℕ) → length (text_bits n vs) ≡ n * length vs
unfolding text_bits
text_bits_length n [] = sym (mul-zero n)
text_bits_length n (v ∷ vs) =
    length-append (low_bits n v) (text_bits n vs)
    ∙ ap₂ ◌+◌ (low_bits_length n v) (text_bits_length n vs)
    ∙ omega (arith, mul-suc n (length vs))

-- two texts of characters of n bits with the same bits are the same text
pub text_bits_same : (n : ℕ) {vs ws : List ℕ} → Below (2 ^ n) vs → Below (2 ^ n) ws
    → length vs ≡ length ws → text_bits n vs ≡ text_bits n ws → vs ≡ ws
unfolding text_bits
text_bits_same n below_none below_none e p = refl
text_bits_same n below_none (below_more h k) e p = absurd (omega arith)
text_bits_same n (below_more h k) below_none e p = absurd (omega arith)
text_bits_same n (below_more {v = v} {vs = vs} h k) (below_more {v = w} {vs = ws} i l) e p =
    let first : low_bits n v ≡ low_bits n w =
    sym (take_at (low_bits n v) (text_bits n vs) n (low_bits_length n v)) ∙ ap (take n) p
    ∙ take_at (low_bits n w) (text_bits n ws) n (low_bits_length n w) in
    let rest : text_bits n vs ≡ text_bits n ws =
    sym (drop_at (low_bits n v) (text_bits n vs) n (low_bits_length n v)) ∙ ap (drop n) p
    ∙ drop_at (low_bits n w) (text_bits n ws) n (low_bits_length n w) in
    let q : v ≡ w = sym (from_low_low_bits n v h) ∙ ap from_low first ∙ from_low_low_bits n w i in
    let s : length vs ≡ length ws = omega arith in
    ap₂ (λ (x : ℕ) (xs : List ℕ). x ∷ xs) q (text_bits_same n k l s rest)

-- cells

pub cells_join : (xs ys : List Bool) → cells (xs ++ ys) ≡ cells xs ++ cells ys
unfolding cells
cells_join [] ys = refl
cells_join (x ∷ xs) ys = ap (λ (l : List ℕ). one_if x ∷ l) (cells_join xs ys)

pub cells_length : (bs : List Bool) → length (cells bs) ≡ length bs
unfolding cells
cells_length [] = refl
cells_length (b ∷ bs) = ap suc (cells_length bs)
