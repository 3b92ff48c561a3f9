-- Bits of bytes and of texts. A bit is a Bool, a stream of bits a list of them, the first to be
-- sent at its head. Assumes nothing.
use Rattle.std.specs.Prelude.{Bool, true, false, List, [], ◌∷◌, ◌++◌, map, ℕ, zero, suc, ◌+◌, ◌*◌, ◌/◌, ◌%◌, ◌<◌, eqb}

abbrev pub odd : ℕ → Bool
odd v = eqb (v % 2) 1

-- 01, Sending: "byte (low bit first)": the low n bits of v
unfoldable pub low_bits : ℕ → ℕ → List Bool
low_bits zero v = []
low_bits (suc n) v = odd v ∷ low_bits n (v / 2)

-- a text, in characters of n bits
unfoldable pub text_bits : ℕ → List ℕ → List Bool
text_bits n [] = []
text_bits n (v ∷ vs) = low_bits n v ++ text_bits n vs

-- 01, Note list and line: "one bit per byte"
abbrev pub one_if : Bool → ℕ
one_if true = 1
one_if false = 0

unfoldable pub cells : List Bool → List ℕ
cells bs = map one_if bs

-- the number whose bits these are, the first one lowest
unfoldable pub from_low : List Bool → ℕ
from_low [] = 0
from_low (b ∷ bs) = from_low bs * 2 + one_if b

-- every number of a text is below a bound
pub data Below (m : ℕ) : List ℕ → Type 0 where
  below_none : Below m []
  below_more : {v : ℕ} {vs : List ℕ} → v < m → Below m vs → Below m (v ∷ vs)
