-- What `==` answers of two slices is whether they have the same numbers. Assumes nothing.
use Rattle.std.proofs.Common.{◌≡◌, refl, ap, ◌&&◌, List, [], ◌∷◌, ℕ, eqb}
use lib.Pointwise.{pointwise}
use Rattle.common.specs.Same.{same}

pub same_is : (ms ns : List ℕ) → pointwise eqb ms ns ≡ same ms ns
unfolding same
same_is [] [] = refl
same_is [] (n ∷ ns) = refl
same_is (m ∷ ms) [] = refl
same_is (m ∷ ms) (n ∷ ns) = ap (λ b. eqb m n && b) (same_is ms ns)
