-- Bits in the other order. The check register is held so where bytes enter it, x^15 lowest: a byte
-- then meets it as it stands. Assumes nothing.
use Rattle.std.specs.Prelude.{ℕ, zero, suc, ◌+◌, ◌*◌, ◌/◌, ◌%◌, ◌^◌}
use Rattle.line.specs.Bits.{low_bits}
use Rattle.line.specs.Check.{sdlc, check_over}

-- the low n bits of v, the lowest at the highest place
unfoldable pub mirror : ℕ → ℕ → ℕ
mirror zero v = 0
mirror (suc n) v = v % 2 * 2 ^ n + mirror n (v / 2)

-- the mirrored register of the SDLC check after the eight bits of a byte
unfoldable pub mirrored_byte : ℕ → ℕ → ℕ
mirrored_byte m v = mirror 16 (check_over sdlc (mirror 16 m) (low_bits 8 v))
