-- `opening::ticked` meets its contract: the ticks that are left, made from the chip so far, lead to the same chip. Assumes nothing.
use Rattle.std.proofs.Common.{◌≡◌, ◌+◌, ◌-◌, ◌<◌, sym, ◌∙◌, arith}
use Rattle.chip.specs.Chip.{transmit_call}
use Rattle.drive.specs.Drive.{tick_a}
use Rattle.drive.proofs.Laws.Frame.{driven_step}
use Rattle.opening.proofs.ticked.Goals as goal

pub loop-preserved : goal.loop-preserved
unfolding tick_a transmit_call
loop-preserved c =
    let l = c.loop in
    let left = c.args.n - l.counter in
    let some : 0 < left = omega (arith, c.loop-test.true) in
    let fewer : c.args.n - (l.counter + 1) ≡ left - 1 = omega arith in
    rw fewer (simp c.transmit_tick.ensures (sym (driven_step left l.c some) ∙ l.invariant))
