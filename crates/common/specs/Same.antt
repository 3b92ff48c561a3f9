-- Whether two lists have the same numbers, and that it is so of equal lists and of no others.
-- Assumes nothing.
use Rattle.std.specs.Prelude.{◌≡◌, refl, Bool, true, false, ◌&&◌, List, [], ◌∷◌, ℕ, eqb}
use Rattle.std.proofs.Common.{eq-eqb, eqb-true}
use Rattle.common.specs.Tools.{void, bool_or}

unfoldable pub same : List ℕ → List ℕ → Bool
same [] [] = true
same [] (n ∷ ns) = false
same (m ∷ ms) [] = false
same (m ∷ ms) (n ∷ ns) = eqb m n && same ms ns

pub same_self : (ns : List ℕ) → same ns ns ≡ true
unfolding same
same_self [] = refl
same_self (n ∷ ns) = rw (eq-eqb n n refl) (same_self ns)

pub same_equal : (ms ns : List ℕ) → same ms ns ≡ true → ms ≡ ns
unfolding same
same_equal [] [] e = refl
same_equal [] (n ∷ ns) e = void e
same_equal (m ∷ ms) [] e = void e
same_equal (m ∷ ms) (n ∷ ns) e =
    bool_or (eqb m n) (λ f. rw (eqb-true m n f, same_equal ms ns (rw f at e)))
    (λ f. void (rw f at e))
