-- `playing::all_rounds` meets its contract: the rounds that are left from here make what all of them made from the first. Assumes
-- nothing.
use mathlib.Core.Path.{◌≡◌}
use lib.ListN.{length}
use Rattle.items.specs.Sheet.{items_left}
use Rattle.playing.specs.Playing.{playing, all_rounds}
use Rattle.playing.proofs.all_rounds.Given as goal

abbrev pub invariant-loop-t : goal.invariant-loop-t
invariant-loop-t l = (length l.desk ≡ length l.initial.desk) × (length l.out ≡ length l.initial.out) × (all_rounds l.input (playing l.s l.t.chip l.desk l.out) ≡ all_rounds l.input (playing l.initial.s l.initial.t.chip l.initial.desk l.initial.out))

abbrev pub decreases-loop-t : goal.decreases-loop-t
decreases-loop-t l = items_left l.input l.s.item
