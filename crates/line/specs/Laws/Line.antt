-- What a note that has a line is known to be: not empty, and not too long. Assumes nothing.
use Rattle.std.specs.Prelude.{◌≡◌, refl, ◌≢◌, Bool, true, false, not, ◌&&◌, ℕ, ◌≤◌, eqb, leb}
use Rattle.std.proofs.lemmas.Bool.{false≢true, eqb-false}
use Rattle.std.proofs.Common.{arith, leb-true}
use Rattle.line.specs.Line.{note_fits}

pub fits_few : (n : ℕ) → note_fits n ≡ true → (1 ≤ n) × (n ≤ 2048)
fits_few n e = go (eqb n 0) (leb n 2048) (eqb-false n 0) (leb-true n 2048) e
  where
    go : (a b : Bool) → (a ≡ false → n ≢ 0) → (b ≡ true → n ≤ 2048) → not a && b ≡ true
        → (1 ≤ n) × (n ≤ 2048)
    go true b f g p = absurd (false≢true p)
    go false b f g p = let h = f refl in (omega arith, g p)
