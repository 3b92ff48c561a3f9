-- `pen::put_bit` meets its contract: a content bit and the zero that it owes. Assumes nothing.
use mathlib.Core.Path.{ap}
use native.Mathlib.Omega.{arith}
use lib.ListN.{length-set}
use Rattle.line.specs.Insertion.{stuff}
use Rattle.pen.specs.Pen.{Sheet}
use Rattle.pen.proofs.Laws.{two_long, two_put, one_put}
use Rattle.pen.proofs.put_bit.Goals as goal

pub bounds-out-at : goal.bounds-out-at
unfolding stuff
bounds-out-at c = omega (arith, c.requires)

pub bounds-out-next : goal.bounds-out-next
bounds-out-next c =
    let a = c.args in
    let n = two_long a.out.now a.p a.v c.counted-k.result c.counted-k.ensures c.if-k.true in
    simp length-set (omega (arith, c.requires))

pub returns-then-k-clause-out_after : goal.returns-then-k-clause-out_after
returns-then-k-clause-out_after c =
    let a = c.args in
    let e = two_put a.out.now a.p a.v c.counted-k.result c.counted-k.ensures c.if-k.true in
    ap (λ (s : Sheet). s.buffer) e

pub returns-then-k-clause-value : goal.returns-then-k-clause-value
returns-then-k-clause-value c =
    let a = c.args in
    let e = two_put a.out.now a.p a.v c.counted-k.result c.counted-k.ensures c.if-k.true in
    ap (λ (s : Sheet). s.pen) e

pub returns-clause-value : goal.returns-clause-value
returns-clause-value c =
    let a = c.args in
    let e = one_put a.out.now a.p a.v c.counted-k.result c.counted-k.ensures c.if-k.false in
    ap (λ (s : Sheet). s.pen) e

pub returns-clause-out_after : goal.returns-clause-out_after
returns-clause-out_after c =
    let a = c.args in
    let e = one_put a.out.now a.p a.v c.counted-k.result c.counted-k.ensures c.if-k.false in
    ap (λ (s : Sheet). s.buffer) e
