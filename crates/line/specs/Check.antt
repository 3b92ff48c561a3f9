-- 01, Sending: "The check: x^16+x^12+x^5+1, preset ones, complemented, x^15 first (ISO/IEC 13239)".
-- The register is a number of sixteen bits, x^15 the highest; a polynomial is the number of its
-- powers below x^16. Assumes nothing.
use Rattle.std.specs.Prelude.{Bool, not, List, [], ◌∷◌, ℕ, zero, suc, ◌*◌, ◌/◌, ◌%◌, if◌then◌else◌}
use Rattle.std.specs.Bool.{beq}
use Rattle.std.specs.Int.Bits.{bit_xor}
use Rattle.line.specs.Bits.{odd}

-- x^16+x^12+x^5+1
abbrev pub sdlc : ℕ
sdlc = 0x1021

-- ones in all sixteen places
abbrev pub ones : ℕ
ones = 0xFFFF

-- the register's bit of x^15, and what is left of it when that has gone out
abbrev pub top : ℕ → Bool
top r = odd (r / 32768)

abbrev pub shifted : ℕ → ℕ
shifted r = r % 32768 * 2

abbrev pub differs : Bool → Bool → Bool
differs a b = not (beq a b)

-- the register after one bit, and after a stream of them, over the polynomial p
unfoldable pub check_step : ℕ → ℕ → Bool → ℕ
check_step p r b = if differs (top r) b then bit_xor (shifted r) p else shifted r

unfoldable pub check_over : ℕ → ℕ → List Bool → ℕ
check_over p r [] = r
check_over p r (b ∷ bs) = check_over p (check_step p r b) bs

-- "x^15 first": the top n bits of a register
unfoldable pub top_bits : ℕ → ℕ → List Bool
top_bits zero r = []
top_bits (suc n) r = top r ∷ top_bits n (shifted r)

-- "complemented, x^15 first": the check as it is sent
abbrev pub complement : ℕ → ℕ
complement r = bit_xor r ones

unfoldable pub check_bits : ℕ → List Bool
check_bits r = top_bits 16 (complement r)

-- 01, Receiving: what a good frame leaves in the register, "the remainder from ones is 1D0F hex"
abbrev pub remainder : ℕ
remainder = 0x1D0F
