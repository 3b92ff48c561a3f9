-- How a wrong chip is refused: if it told the tale, a sentence of it would be true, and that one,
-- computed of this chip, has another number or another list. Assumes nothing.
use Rattle.std.specs.Prelude.{◌≡◌, false, List, ℕ, eqb}
use Rattle.std.proofs.Common.{◌∙◌, sym, eq-eqb}
use Rattle.std.proofs.lemmas.Bool.{false≢true}
use Rattle.common.specs.Same.{same, same_self}

pub other_number : {m n : ℕ} → m ≡ n → eqb m n ≡ false → ⊥
other_number {m} {n} e d = false≢true (sym d ∙ eq-eqb m n e)

pub other_list : {ms ns : List ℕ} → ms ≡ ns → same ms ns ≡ false → ⊥
other_list {ms} {ns} e d = false≢true (sym d ∙ rw e (same_self ns))
