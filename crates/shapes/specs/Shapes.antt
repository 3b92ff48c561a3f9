-- 02, P1: short characters. With length 00 an asynchronous byte's shape says how many of its low
-- bits are sent. Assumes nothing.
use Rattle.std.specs.Prelude.{Bool, List, [], ◌∷◌, ℕ, ◌/◌, ◌^◌, eqb, if◌then◌else◌}

-- a shape: how many Ds it has, and what stands above them
pub record Shape : Type 0 where
  pub count : ℕ
  pub above : ℕ

abbrev pub shape : ℕ → ℕ → Shape
shape n v = record { count = n; above = v }

abbrev pub has : Shape → ℕ → Bool
has s v = eqb (v / 2 ^ s.count) s.above

-- "a byte 1111000D sends one bit, 111000DD two, 11000DDD three, 1000DDDD four, 000DDDDD five."
abbrev pub shapes : List Shape
shapes =
    shape 1 0b1111000 ∷ shape 2 0b111000 ∷ shape 3 0b11000 ∷ shape 4 0b1000 ∷ shape 5 0b000 ∷ []

-- "A byte of none of these shapes sends its low five."
abbrev pub low_five : ℕ
low_five = 5

abbrev pub count_by : List Shape → ℕ → ℕ
count_by [] v = low_five
count_by (s ∷ ss) v = if has s v then s.count else count_by ss v

unfoldable pub shape_bits : ℕ → ℕ
shape_bits v = count_by shapes v
