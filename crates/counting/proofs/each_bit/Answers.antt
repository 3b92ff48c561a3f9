-- `counting::each_bit` meets its contract: the bits left make of the present tally what all eight make of the first. Assumes nothing.
use Rattle.std.proofs.Common.{sym, ◌∙◌, ◌+◌, ◌-◌, ◌/◌, arith}
use Rattle.line.specs.Bits.{odd, low_bits}
use Rattle.line.specs.Laws.Bits.{low_more, low_over}
use Rattle.tally.specs.Laws.{tallied_none, tallied_bit, bit_runs}
use Rattle.counting.proofs.each_bit.Goals as goal

pub loop-preserved : goal.loop-preserved
loop-preserved c =
    let l = c.loop in
    let i = l.invariant in
    let b = odd l.rest in
    let all = rw (low_more 8 l.counter l.rest c.loop-test.true) at i.left in
    let on = tallied_bit l.ones l.closed b (low_bits (8 - (l.counter + 1)) (l.rest / 2)) i.closed i.run in
    let now = bit_runs l.ones l.closed b i.closed i.run in
    rw (c.closed_after-closed.ensures, c.ones_after-ones.ensures) (record {
      left = on ∙ all;
      closed = now.0;
      run = now.1.0;
      few = omega (arith, now.1.1, i.few);
    })

pub returns : goal.returns
returns c =
    let l = c.loop in
    let all = rw (low_over 8 l.counter l.rest c.loop-test.false) at l.invariant.left in
    sym (tallied_none l.ones l.closed l.invariant.closed) ∙ all
