-- Small laws of tests that came out true. Assumes nothing.
use Rattle.std.specs.Prelude.{◌≡◌, refl, Bool, true, false, not, ◌||◌}
use Rattle.std.specs.Bool.{beq}
use Rattle.common.specs.Tools.{void}

-- one of two, and not the first
pub or_right : (a b : Bool) → not a || b ≡ true → a ≡ true → b ≡ true
or_right true b e t = e
or_right false b e t = void t

-- two tests that came out alike
pub same_is : (a b : Bool) → beq a b ≡ true → a ≡ b
same_is true true e = refl
same_is true false e = void e
same_is false true e = void e
same_is false false e = refl

-- a line that counts with auto enables alone: they are off, or it stays as it is
pub still_on : (a d e : Bool) → not a || beq d e ≡ true → not a || d ≡ not a || e
still_on true d e q = same_is d e q
still_on false d e q = refl
