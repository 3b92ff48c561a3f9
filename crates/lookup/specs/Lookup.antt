-- The mirrored check register by a table that is lent, whatever it holds. Assumes nothing.
use Rattle.std.specs.Prelude.{List, [], ◌∷◌, ◌++◌, ℕ, ◌/◌, ◌%◌, get_or}
use Rattle.std.specs.Int.Bits.{bit_xor}
use Rattle.line.specs.Check.{ones}

-- the register after a byte: it meets the low half, the high half moves down, and the table says
-- what comes back of the low one
unfoldable pub looked_up : List ℕ → ℕ → ℕ → ℕ
looked_up checks m v =
    bit_xor (bit_xor m (v % 256) / 256) (get_or checks (bit_xor m (v % 256) % 256) 0)

-- after a text
unfoldable pub looked_over : List ℕ → ℕ → List ℕ → ℕ
looked_over checks m [] = m
looked_over checks m (v ∷ vs) = looked_over checks (looked_up checks m v) vs

-- "complemented, x^15 first": the check's two bytes, and a note followed by them
abbrev pub sent_check : ℕ → List ℕ
sent_check m = bit_xor m ones % 256 ∷ bit_xor m ones / 256 % 256 ∷ []

unfoldable pub with_lookup : List ℕ → ℕ → List ℕ → List ℕ
with_lookup checks m note = note ++ sent_check (looked_over checks m note)
