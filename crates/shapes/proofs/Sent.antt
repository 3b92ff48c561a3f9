-- Laws of the bits that are sent: how many they are, at which lengths a shape counts, and what
-- parity makes of their ones. Assumes nothing.
use Rattle.std.specs.Prelude.{◌≡◌, refl, Bool, true, false, not, List, [], ◌∷◌, ◌++◌, ℕ, ◌≤◌}
use Rattle.std.proofs.Common.{ap, ◌∙◌, arith}
use Rattle.line.specs.Bits.{low_bits}
use Rattle.line.specs.Check.{differs}
use Rattle.line.specs.Laws.Xor.{differs_self}
use Rattle.shapes.specs.declared.Length.{Length}
use Rattle.shapes.specs.declared.Length.TheVariants.{Five, Six, Seven, Eight}
use Rattle.shapes.specs.Shapes.{shape_bits}
use Rattle.shapes.specs.Sent.{length_named, bits_sent, odd_over, parity_bit, parity_of}
use Rattle.shapes.specs.Laws.Shapes.{shape_least, shape_most}

-- a character sends one to eight bits
pub bits_least : (n : Length) (v : ℕ) → 1 ≤ bits_sent n v
unfolding bits_sent
bits_least Five v = shape_least v
bits_least Six v = omega arith
bits_least Seven v = omega arith
bits_least Eight v = omega arith

pub bits_most : (n : Length) (v : ℕ) → bits_sent n v ≤ 8
unfolding bits_sent
bits_most Five v = omega (arith, shape_most v)
bits_most Six v = omega arith
bits_most Seven v = omega arith
bits_most Eight v = omega arith

-- so by any number
pub bits_least_named : (n v : ℕ) → 1 ≤ bits_sent (length_named n) v
bits_least_named n v = bits_least (length_named n) v

pub bits_most_named : (n v : ℕ) → bits_sent (length_named n) v ≤ 8
bits_most_named n v = bits_most (length_named n) v

-- at the other lengths no shape counts
pub other_lengths : (v : ℕ) → (bits_sent Six v ≡ 6) × (bits_sent Seven v ≡ 7) × (bits_sent Eight v ≡ 8)
unfolding bits_sent
other_lengths v = (refl, refl, refl)

differs_move : (p q b : Bool) → differs (differs p q) b ≡ differs p (differs q b)
differs_move true true true = refl
differs_move true true false = refl
differs_move true false true = refl
differs_move true false false = refl
differs_move false true true = refl
differs_move false true false = refl
differs_move false false true = refl
differs_move false false false = refl

odd_from : (p q : Bool) (bs : List Bool) → odd_over (differs p q) bs ≡ differs p (odd_over q bs)
unfolding odd_over
odd_from p q [] = refl
odd_from p q (b ∷ bs) =
    ap (λ (x : Bool). odd_over x bs) (differs_move p q b) ∙ odd_from p (differs q b) bs

odd_join : (p : Bool) (xs ys : List Bool) → odd_over p (xs ++ ys) ≡ odd_over (odd_over p xs) ys
unfolding odd_over
odd_join p [] ys = refl
odd_join p (x ∷ xs) ys = odd_join (differs p x) xs ys

-- even: the ones are even in number, parity bit included; otherwise odd
pub parity_total : (even : Bool) (bs : List Bool)
    → odd_over false (bs ++ (parity_bit even bs ∷ [])) ≡ not even
unfolding odd_over
parity_total true bs = odd_join false bs (odd_over false bs ∷ []) ∙ differs_self (odd_over false bs)
parity_total false bs =
    odd_join false bs (odd_over true bs ∷ [])
    ∙ ap (differs (odd_over false bs)) (odd_from true false bs)
    ∙ differs-other (odd_over false bs)
  where
    differs-other : (b : Bool) → differs b (differs true b) ≡ true
    differs-other true = refl
    differs-other false = refl

-- F1 sends one 1: with odd parity a 0 behind it, with even a 1; five bits of it would be two ones
pub parity_of_one_bit : (parity_of false Five 0xF1 ≡ false) × (parity_of true Five 0xF1 ≡ true)
unfolding bits_sent shape_bits low_bits odd_over
parity_of_one_bit = (refl, refl)
