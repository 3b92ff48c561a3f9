-- 01, How tight the contracts are: "For all inputs, refusals too, a public contract decides result,
-- chip and lent bytes; prove that two results allowed by it are equal". The forms of contract that
-- the product has, and that of each: docs/CONTRACTS.md names what is left open. Assumes nothing.
use Rattle.std.specs.Prelude.{◌≡◌, refl, List, ℕ, Option, Some, None, option_map}
use Rattle.std.specs.Iterator.{YieldsFirstBy}
use Rattle.std.proofs.Common.{sym, ◌∙◌}
use Rattle.promises.specs.Contracts.{Allows, one_result}

-- The result alone is a definition's value at the inputs, the chip and what lent parts held among
-- them

pub one_value : {I R : Type 0} (f : I → R) (i : I) (r s : R) → Allows f i r → Allows f i s → r ≡ s
one_value = one_result

-- What a call leaves: its result and the bytes of the part that it was lent
pub record Left (R : Type 0) : Type 0 where
  pub result : R
  pub lent : List ℕ

-- the result is one definition's value, and the lent bytes afterwards are another's
pub record AllowsLent {I R : Type 0} (f : I → R) (g : I → List ℕ) (i : I)
    (x : Left R) : Type 0 where
  pub result : Allows f i x.result
  pub lent : Allows g i x.lent

pub one_left : {I R : Type 0} (f : I → R) (g : I → List ℕ) (i : I) (x y : Left R)
    → AllowsLent f g i x → AllowsLent f g i y → x ≡ y
one_left f g i x y p q =
    λ j. record {
      result = one_result f i x.result y.result p.result q.result j;
      lent = one_result g i x.lent y.lent p.lent q.lent j;
    }

-- A part of a lent slice is handed back, and its bytes are a definition's value at the inputs

pub one_part : {I : Type 0} (g : I → List ℕ) (i : I) (x y : List ℕ) → Allows g i x → Allows g i y
    → x ≡ y
one_part = one_result

-- A walk's contract tells the items that it has still to give (`Notes`): what two walks with the same
-- items left give is the same, and the same is left behind it

pub one_walk : {S A B : Type 0} (view : A → B) (rest : S → List B) (s t s' t' : S) (r q : Option A)
    → rest s ≡ rest t → YieldsFirstBy view rest s r s' → YieldsFirstBy view rest t q t'
    → (option_map view r ≡ option_map view q) × (rest s' ≡ rest t')
one_walk view rest s t s' t' None None e x y = (refl, x.1 ∙ sym y.1)
one_walk view rest s t s' t' None (Some q) e x y = cc
one_walk view rest s t s' t' (Some r) None e x y = cc
one_walk view rest s t s' t' (Some r) (Some q) e x y = (cc, cc)
