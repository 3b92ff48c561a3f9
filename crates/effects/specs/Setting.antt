-- 01, Events, row 3 of the table of refusals, as 02, P3, leaves it, in the bits of the byte that is
-- written to WR4. The test of the code, `not_built`, is not named here: that it is the same is a
-- law. Assumes nothing.
use Rattle.std.specs.Prelude.{Bool, not, ◌&&◌, ◌||◌, ℕ, ◌/◌, eqb}
use Rattle.line.specs.Bits.{odd}
use Rattle.chip.specs.declared.Chip.{Chip}
use Rattle.promises.specs.Refusals.{Row, pointer_of}

-- D7 to D2 of a byte
abbrev pub d7 : ℕ → Bool
d7 v = odd (v / 128)

abbrev pub d6 : ℕ → Bool
d6 v = odd (v / 64)

abbrev pub d5 : ℕ → Bool
d5 v = odd (v / 32)

abbrev pub d4 : ℕ → Bool
d4 v = odd (v / 16)

abbrev pub d3 : ℕ → Bool
d3 v = odd (v / 8)

abbrev pub d2 : ℕ → Bool
d2 v = odd (v / 4)

-- "D7-6 not 00", "D3-2 = 10", and D3-2 = 00 with D5-4 = 11: "external sync .. keep it"
abbrev pub setting_refused : ℕ → Bool
setting_refused v =
    (d7 v || d6 v)
    || ((d3 v && not (d2 v)) || ((not (d3 v) && not (d2 v)) && (d5 v && d4 v)))

-- 3: "a WR4 write with .."
abbrev pub refused_setting : Chip → ℕ → ℕ → Row
refused_setting c ch v = (3, eqb (pointer_of c ch) 4 && setting_refused v)
