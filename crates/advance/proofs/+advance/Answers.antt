-- `advance::advance` meets its contract: half of the bytes twice, and one more if their number is odd. Assumes nothing.
use mathlib.Core.Path.{sym, ap, ◌∙◌}
use native.Mathlib.Omega.{arith}
use Rattle.advance.specs.Advance.{advanced}
use Rattle.advance.proofs.Laws.Advance.{advanced_none, advanced_even, advanced_odd}
use Rattle.advance.proofs.+advance.Goals as goal

pub returns-then-k-eq0 : goal.returns-then-k-eq0
returns-then-k-eq0 t c =
    let a = c.args in
    sym (ap (advanced a.p a.r) c.if-k-eq0.true ∙ advanced_none a.p a.r)

pub returns-then-k-eq0-2 : goal.returns-then-k-eq0-2
returns-then-k-eq0-2 t c =
    let a = c.args in
    let f = c.ranges in
    simp (c.product.ensures, c.product-even.ensures, c.advance-half.ensures)
    (advanced_even a.p f.p.fits a.r a.k f.r.fits (omega (arith, c.if-k-eq0-2.true)))

pub returns : goal.returns
returns t c =
    let a = c.args in
    let f = c.ranges in
    simp (c.product-2.ensures, c.check_byte.ensures, c.product-even.ensures, c.advance-half.ensures)
    (advanced_odd a.p f.p.fits a.r a.k f.r.fits (λ e. omega (arith, c.if-k-eq0-2.false)))
