-- `feed::to_the_end` meets its contract: what is to come is always the rest of the frame, and leads where
-- the whole leads. Assumes nothing.
use mathlib.Core.Path.{sym, ◌∙◌}
use native.Mathlib.Omega.{arith}
use lib.ListN.{length}
use Rattle.whole.specs.Come.{to_come}
use Rattle.feed.specs.Feeding.{to_the_end}
use Rattle.feed.specs.Laws.Turns.{start, gone, left_over, turns}
use Rattle.feed.proofs.to_the_end.Goals as goal

pub loop-p-init : goal.loop-p-init
loop-p-init c = start c.args.s c.args.rest.now c.requires.stage

pub returns : goal.returns
unfolding to_the_end
returns c =
    let l = c.loop-p in
    let rest = c.args.rest.now in
    gone (length (to_come c.args.s rest)) _ rest l.x l.i l.n l.invariant
    (sym c.frame_ended.ensures ∙ c.loop-p-test.false)

pub overflow_add-n : goal.overflow_add-n
overflow_add-n c =
    let l = c.loop-p in
    let rest = c.args.rest.now in
    let p = c.supply_at-p in
    let t = c.turn-t in
    let f = sym c.frame_ended.ensures
    ∙ c.loop-p-test.true in
    let e = turns (length (to_come c.args.s rest)) _ rest l.x l.i l.n p.result t.result l.invariant f
    p.ensures t.ensures in
    omega (arith, e.1.count, c.requires.rest_len_bound)

pub loop-p-smaller : goal.loop-p-smaller
loop-p-smaller c =
    let l = c.loop-p in
    let rest = c.args.rest.now in
    let p = c.supply_at-p in
    let t = c.turn-t in
    let f = sym c.frame_ended.ensures
    ∙ c.loop-p-test.true in
    let e = turns (length (to_come c.args.s rest)) _ rest l.x l.i l.n p.result t.result l.invariant f
    p.ensures t.ensures in
    omega (arith, e.0, left_over (length (to_come c.args.s rest)) _ rest l.x l.i l.n l.invariant f)

pub loop-p-preserved : goal.loop-p-preserved
loop-p-preserved c =
    let l = c.loop-p in
    let rest = c.args.rest.now in
    let p = c.supply_at-p in
    let t = c.turn-t in
    let f = sym c.frame_ended.ensures
    ∙ c.loop-p-test.true in
    let e = turns (length (to_come c.args.s rest)) _ rest l.x l.i l.n p.result t.result l.invariant f
    p.ensures t.ensures in
    e.1
