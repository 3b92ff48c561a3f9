-- `items::desk::lay_times` meets its contract: the pattern lies there as often as was counted. Assumes nothing.
use Rattle.std.proofs.Common.{◌≡◌}
use Rattle.items.specs.Desk.{desk, laid_times}
use Rattle.items.proofs.desk.lay_times.Given as goal

abbrev pub invariant-loop : goal.invariant-loop
invariant-loop l = desk l.cells l.at ≡ laid_times l.counter l.pattern (desk l.initial.cells l.end)
