-- `line::check_byte` meets its contract: what the bits left make of the present register is what all eight make of the first. Assumes nothing.
use Rattle.line.specs.Check.{check_over}
use Rattle.line.specs.Laws.Bits.{low_more, low_over}
use Rattle.line.proofs.check_byte.Goals as goal

pub loop-preserved : goal.loop-preserved
unfolding check_over
loop-preserved c =
    let l = c.loop in
    simp c.check_step-x.ensures (simp (low_more 8 l.counter l.rest c.loop-test.true) at l.invariant)

pub returns : goal.returns
unfolding check_over
returns c = let l = c.loop in simp (low_over 8 l.counter l.rest c.loop-test.false) at l.invariant
