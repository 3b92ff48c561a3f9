-- `feed::through` meets its contract: the bits now, gone through, are always those of the beginning
-- gone through. Assumes nothing.
use mathlib.Core.Path.{refl, sym, ap, ◌∙◌}
use Prim.Native.Nat.{◌≤◌, ◌<◌}
use native.Mathlib.Omega.{arith}
use Rattle.feed.specs.Turns.{carried, through}
use Rattle.feed.specs.Laws.Turns.{bits_step, bits_none, bits_few}
use borrow.Author.Rules.{rules}
use Rattle.feed.proofs.through.through.Goals as goal

pub loop-init : goal.loop-init
loop-init c =
    let few : c.byte_left-left.result ≤ 255 = search rules in
    record { counted = omega arith; few = omega arith; same = refl }

pub bits_on-x-requires : goal.bits_on-x-requires
bits_on-x-requires c =
    let l = c.loop in
    let some : 0 < l.x.left = omega (arith, l.invariant.counted, c.loop-test.true) in
    record { left_nonzero = some; ticks_bound = omega (arith, l.invariant.few) }

pub loop-preserved : goal.loop-preserved
loop-preserved c =
    let l = c.loop in
    let some : 0 < l.x.left = omega (arith, l.invariant.counted, c.loop-test.true) in
    rw c.bits_on-x.ensures
    (record {
      counted = omega (arith, l.invariant.counted, some);
      few = omega (arith, l.invariant.few, bits_few l.x some);
      same = sym (bits_step l.x some) ∙ l.invariant.same;
    })

pub returns : goal.returns
unfolding through
returns c =
    let l = c.loop in
    let s = c.args.s in
    let none : l.x.left ≤ 0 = omega (arith, l.invariant.counted, c.loop-test.false) in
    rw (← c.byte_left-left.ensures, ← c.byte_rest.ensures)
    (ap (carried s.shared) (sym (bits_none l.x none) ∙ l.invariant.same))
