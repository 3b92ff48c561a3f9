-- `opening::ticked` meets its contract: the ticks that are left, made from the chip so far, lead to the same chip. Assumes nothing.
use Rattle.std.specs.Prelude.{◌≡◌, [], ◌-◌}
use Rattle.drive.specs.Drive.{driven}
use Rattle.opening.proofs.ticked.Given as goal

abbrev pub invariant-loop : goal.invariant-loop
invariant-loop l = driven (l.n - l.counter) l.c [] ≡ driven l.n l.initial.c []
