-- 02, P3: a block's check: over either polynomial, "preset to zeros here, not complemented", x^15
-- first. Assumes nothing.
use Rattle.std.specs.Prelude.{List, [], ◌∷◌, ◌++◌, ℕ, take, drop}
use Rattle.line.specs.Bits.{text_bits, from_low}
use Rattle.line.specs.Check.{check_over, top_bits}
use Rattle.shared.specs.Preset.{zeros}

-- a text's check over the polynomial p, from the register c on
abbrev pub check_from : ℕ → ℕ → List ℕ → ℕ
check_from p c vs = check_over p c (text_bits 8 vs)

-- the check as two bytes, the first bit of each lowest, and a text followed by its own
unfoldable pub check_bytes : ℕ → List ℕ
check_bytes c = from_low (take 8 (top_bits 16 c)) ∷ from_low (drop 8 (top_bits 16 c)) ∷ []

abbrev pub with_check : ℕ → List ℕ → List ℕ
with_check p vs = vs ++ check_bytes (check_from p zeros vs)
