-- `table::checks` meets its contract: the rule, computed at all of the 256 entries. Assumes nothing.
use mathlib.Core.Path.{refl}
use Rattle.line.specs.Check.{check_over, check_step}
use Rattle.mirror.specs.Mirror.{mirror}
use Rattle.table.specs.Entries.{entries}
use Rattle.table.specs.Table.{check_table}
use Rattle.table.proofs.checks.Goals as goal

pub returns : goal.returns
unfolding check_table entries mirror check_over check_step
returns c = refl
