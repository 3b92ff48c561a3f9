-- The definitions as the code meets them: a character's bits as one number. Assumes nothing.
use Rattle.std.specs.Prelude.{◌≡◌, Bool, true, false, List, ◌∷◌, ◌++◌, ℕ, zero, suc, ◌+◌, ◌*◌, ◌/◌, ◌%◌, ◌^◌, length}
use Rattle.std.proofs.Common.{sym, ap, ◌∙◌, arith, length-append, mul_assoc, pow-suc}
use Rattle.std.proofs.Math.Arith.{mod-mul}
use Rattle.std.proofs.Math.Nat.{zero-lt-suc}
use Rattle.std.proofs.Math.Path.{ap₂}
use Rattle.std.proofs.lemmas.Nat.{pow_pos}
use Rattle.line.specs.Bits.{one_if, low_bits, from_low}
use Rattle.line.specs.Laws.Bits.{low_bits_length, odd_is}
use Rattle.asynchronous.specs.declared.Typing.{Typing}
use Rattle.shapes.specs.Sent.{length_named, bits_sent, sent_bits, parity_bit}
use Rattle.asynchronous.specs.Sending.{stop_bits, stops_named, character, character_of}

-- what stands above the low n bits of v
pub from_low_above : (n v : ℕ) (xs : List Bool) → from_low (low_bits n v ++ xs) ≡ from_low xs * 2 ^ n + v % 2 ^ n
unfolding from_low low_bits
from_low_above zero v xs = omega arith
from_low_above (suc n) v xs =
    let low : v % 2 ^ suc n ≡ v / 2 % 2 ^ n * 2 + v % 2 =
    ap (λ (x : ℕ). v % x) (pow-suc 2 n) ∙ mod-mul v {m = 2 ^ n} {c = 2} (pow_pos n) (zero-lt-suc 1) in
    let high : from_low xs * 2 ^ suc n ≡ from_low xs * 2 ^ n * 2 =
    ap (λ (x : ℕ). from_low xs * x) (pow-suc 2 n) ∙ sym (mul_assoc (from_low xs) (2 ^ n) 2) in
    ap₂ (λ (x y : ℕ). x * 2 + y) (from_low_above n (v / 2) xs) (odd_is v) ∙ omega (arith, low, high)

-- a character, with and without parity, as the code puts it together
pub with_parity_lem : (g : Typing) (v : ℕ) → g.format.parity ≡ true
    → let n = bits_sent (length_named g.format.length) v in
    let p = parity_bit g.format.even (sent_bits (length_named g.format.length) v) in
    let s = stop_bits (stops_named g.stops) in
    character (n + 1 + length s) ((from_low s * 2 + one_if p) * 2 ^ n + v % 2 ^ n) ≡ character_of g v
with_parity_lem g v e =
    let n = bits_sent (length_named g.format.length) v in
    let p = parity_bit g.format.even (low_bits n v) in
    let s = stop_bits (stops_named g.stops) in
    let count : n + 1 + length s ≡ length (low_bits n v ++ (p ∷ s)) =
    omega (arith, length-append (low_bits n v) (p ∷ s), low_bits_length n v) in
    let number : (from_low s * 2 + one_if p) * 2 ^ n + v % 2 ^ n ≡ from_low (low_bits n v ++ (p ∷ s)) =
    sym (unfold from_low in from_low_above n v (p ∷ s)) in
    rw e (ap₂ character count number)

pub without_parity : (g : Typing) (v : ℕ) → g.format.parity ≡ false
    → let n = bits_sent (length_named g.format.length) v in
    let s = stop_bits (stops_named g.stops) in
    character (n + length s) (from_low s * 2 ^ n + v % 2 ^ n) ≡ character_of g v
without_parity g v e =
    let n = bits_sent (length_named g.format.length) v in
    let s = stop_bits (stops_named g.stops) in
    let count : n + length s ≡ length (low_bits n v ++ s) =
    omega (arith, length-append (low_bits n v) s, low_bits_length n v) in
    rw e (ap₂ character count (sym (from_low_above n v s)))
