-- `items::desk::lay_times` meets its contract: the pattern lies there as often as was counted. Assumes nothing.
use Rattle.std.proofs.Common.{refl, sym, ap, ◌∙◌}
use Rattle.items.specs.Desk.{desk, laid, laid_times}
use Rattle.items.proofs.Laws.{times_more}
use Rattle.items.proofs.desk.lay_times.Goals as goal

pub loop-init : goal.loop-init
unfolding laid_times
loop-init c = refl

pub loop-preserved : goal.loop-preserved
loop-preserved c =
    let a = c.args in
    let lay = c.lay-at.ensures in
    rw (lay.value, lay.cells_after)
    (ap (laid a.pattern.now) c.loop.invariant ∙ sym (times_more c.loop.counter a.pattern.now (desk a.cells.now a.end)))
