-- `stamp::fours` meets its contract: the rule, computed at all of the 16 entries. Assumes nothing.
use mathlib.Core.Path.{refl}
use Rattle.line.specs.Bits.{low_bits, cells}
use Rattle.table.specs.Entries.{entries}
use Rattle.stamp.specs.Stamp.{in_one, four_table}
use Rattle.stamp.proofs.fours.Goals as goal

pub returns : goal.returns
unfolding four_table entries in_one cells low_bits
returns c = refl
