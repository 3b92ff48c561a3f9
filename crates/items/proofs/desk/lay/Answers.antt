-- `items::desk::lay` meets its contract: the part that the pattern fills is the pattern. Assumes nothing.
use Rattle.std.proofs.Common.{◌≡◌, ◌+◌, length, arith}
use Rattle.items.proofs.Laws.{copied_laid}
use Rattle.items.proofs.desk.lay.Goals as goal

pub returns-clause-cells_after : goal.returns-clause-cells_after
returns-clause-cells_after c =
    let a = c.args in
    let behind : c.saturating_add-behind.result ≡ a.end + length a.pattern.now = omega arith in
    rw c.copy_from_slice.ensures.after
    (copied_laid a.cells.now a.pattern.now a.end c.saturating_add-behind.result behind c.if-cells-behind.false)
