-- 01, Sending: "the low bits, parity": what an asynchronous character of a length sends of a byte.
-- Assumes nothing.
use Rattle.std.specs.Prelude.{Bool, not, List, [], ◌∷◌, ℕ, eqb, if◌then◌else◌}
use Rattle.line.specs.Bits.{low_bits}
use Rattle.line.specs.Check.{differs}
use Rattle.shapes.specs.declared.Length.{Length}
use Rattle.shapes.specs.declared.Length.TheVariants.{Five, Six, Seven, Eight}
use Rattle.shapes.specs.Shapes.{shape_bits}

-- 01, Registers: "Lengths: 00 five, 01 seven, 10 six, 11 eight."
abbrev pub size : Length → ℕ
size Five = 5
size Six = 6
size Seven = 7
size Eight = 8

-- the length of so many data bits; a number that is none of five, six and seven counts as eight
unfoldable pub length_named : ℕ → Length
length_named n =
    if eqb n 5 then Five else (if eqb n 6 then Six else (if eqb n 7 then Seven else Eight))

-- 02, P1: with 00 as many as the byte's shape says
unfoldable pub bits_sent : Length → ℕ → ℕ
bits_sent Five v = shape_bits v
bits_sent Six v = 6
bits_sent Seven v = 7
bits_sent Eight v = 8

-- "the low bits"
abbrev pub sent_bits : Length → ℕ → List Bool
sent_bits n v = low_bits (bits_sent n v) v

-- whether the ones are odd in number, counted on from what stood before
unfoldable pub odd_over : Bool → List Bool → Bool
odd_over p [] = p
odd_over p (b ∷ bs) = odd_over (differs p b) bs

-- 01, Registers: "WR4: D0 parity, D1 even". The bit with which the ones are even, or odd, in number
abbrev pub parity_bit : Bool → List Bool → Bool
parity_bit even bs = odd_over (not even) bs

-- parity goes over the bits that are sent
abbrev pub parity_of : Bool → Length → ℕ → Bool
parity_of even n v = parity_bit even (sent_bits n v)
