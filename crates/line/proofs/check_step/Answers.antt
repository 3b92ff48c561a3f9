-- `line::check_step` meets its contract: the polynomial is taken where what goes out differs from the bit. Assumes nothing.
use Rattle.line.proofs.Laws.{step_taken, step_left}
use Rattle.line.proofs.check_step.Goals as goal

pub returns-then-met-ge32768 : goal.returns-then-met-ge32768
returns-then-met-ge32768 c =
    let a = c.args in step_taken a.p a.r a.b c.from.result c.ranges.r.fits c.from.ensures c.if-met-ge32768.true

pub returns-else-met-ge32768 : goal.returns-else-met-ge32768
returns-else-met-ge32768 c =
    let a = c.args in step_left a.p a.r a.b c.from.result c.ranges.r.fits c.from.ensures c.if-met-ge32768.false
