-- 02, P10: "the advance over k zero bytes", "with no preset and no complement", over any
-- polynomial; and the multiplication by which it goes. Assumes nothing.
use Rattle.std.specs.Prelude.{Bool, false, List, [], ◌∷◌, ℕ, ◌*◌, replicate, if◌then◌else◌}
use Rattle.std.specs.Int.Bits.{bit_xor}
use Rattle.line.specs.Bits.{low_bits}
use Rattle.line.specs.Check.{check_step, check_over}

-- k zero bytes are 8k zero bits
abbrev pub byte_bits : ℕ
byte_bits = 8

unfoldable pub advanced : ℕ → ℕ → ℕ → ℕ
advanced p r k = check_over p r (replicate (byte_bits * k) false)

-- a register is a sum of powers of x, each at its place: a times such a sum, its places told from
-- x^0 on; times x is a step by 0
unfoldable pub times : ℕ → ℕ → List Bool → ℕ
times p a [] = 0
times p a (b ∷ bs) = bit_xor (if b then a else 0) (times p (check_step p a false) bs)

-- a times b modulo the polynomial
abbrev pub product : ℕ → ℕ → ℕ → ℕ
product p a b = times p a (low_bits 16 b)
