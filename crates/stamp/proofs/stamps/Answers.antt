-- `stamp::stamps` meets its contract: the rule, computed at all of the 1,280 entries. Assumes nothing.
use mathlib.Core.Path.{refl}
use Rattle.line.specs.Bits.{low_bits, from_low}
use Rattle.line.specs.Insertion.{stuff, zeros, run_over}
use Rattle.table.specs.Entries.{entries}
use Rattle.stamp.specs.Stamp.{stamp_table}
use Rattle.stamp.proofs.stamps.Goals as goal

pub returns : goal.returns
unfolding stamp_table entries stuff zeros run_over low_bits from_low
returns c = refl
