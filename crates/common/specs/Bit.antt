-- A bit of a register that is read, by its weight. Assumes nothing.
use Rattle.std.specs.Prelude.{Bool, true, false, ℕ}

abbrev pub placed : Bool → ℕ → ℕ
placed true w = w
placed false w = 0
