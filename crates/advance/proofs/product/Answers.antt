-- `advance::product` meets its contract: the sum and the product of what is left is the whole product. Assumes nothing.
use mathlib.Core.Path.{◌≡◌, sym, ap, ◌∙◌}
use native.Mathlib.Omega.{arith}
use lib.Bits.{bit_xor, xor_zero_r}
use Rattle.std.specs.Prelude.{if◌then◌else◌}
use Rattle.common.specs.Tools.{tests}
use Rattle.line.specs.Bits.{odd}
use Rattle.advance.proofs.Laws.Advance.{product_none, product_step}
use Rattle.advance.proofs.product.Goals as goal
use Rattle.advance.proofs.product.Goals.{then-rest-eq1, else-rest-eq1}

pub loop-rest-preserved : goal.loop-rest-preserved
loop-rest-preserved c =
    let a = c.args in
    let l = c.loop-rest in
    let h = l.invariant.0 in
    let sum : c.if-rest-eq1.sum ≡ bit_xor l.sum (if odd l.rest then l.power else 0) =
    elim c.if-rest-eq1.branch [
      | then-rest-eq1 w ↦ simp w.if-rest-eq1.true w.sum-is
      | else-rest-eq1 w ↦ simp (tests, w.if-rest-eq1.false) (w.sum-is ∙ sym (xor_zero_r l.sum))
    ] in
    (omega arith, simp (sum, c.check_step-power.ensures) (sym (product_step a.p l.power l.rest l.sum h) ∙ l.invariant.1))

pub returns : goal.returns
returns c =
    let a = c.args in
    let l = c.loop-rest in
    sym (xor_zero_r l.sum) ∙ ap (bit_xor l.sum) (sym (product_none a.p l.power l.rest c.loop-rest-test.false)) ∙ l.invariant.1
