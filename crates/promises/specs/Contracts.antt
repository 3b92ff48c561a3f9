-- 01, How tight the contracts are: "prove that two results allowed by it are equal". Every public
-- contract of the product's chip says that the result is a definition's value at the inputs;
-- docs/CONTRACTS.md has the list. Assumes nothing.
use Rattle.std.specs.Prelude.{◌≡◌}
use Rattle.std.proofs.Common.{sym, ◌∙◌}

-- a contract `r ≡ f inputs` allows this result
abbrev pub Allows : {I R : Type 0} → (I → R) → I → R → Type 0
Allows f i r = r ≡ f i

pub one_result : {I R : Type 0} (f : I → R) (i : I) (r s : R) → Allows f i r → Allows f i s → r ≡ s
one_result f i r s p q = p ∙ sym q
