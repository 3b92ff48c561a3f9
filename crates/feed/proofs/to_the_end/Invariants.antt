-- `feed::to_the_end` meets its contract: what is to come is always the rest of the frame, and leads where
-- the whole leads. Assumes nothing.
use Prim.Native.Nat.{◌-◌}
use lib.ListN.{length}
use Rattle.whole.specs.Come.{to_come}
use Rattle.feed.specs.Feeding.{after_ticks}
use Rattle.feed.specs.Laws.Turns.{Going}
use Rattle.feed.proofs.to_the_end.Given as goal

abbrev pub invariant-loop-p : goal.invariant-loop-p
invariant-loop-p l = let total = length (to_come l.initial.x l.rest) in Going total (after_ticks total l.initial.x l.rest) l.rest l.x l.i l.n

abbrev pub decreases-loop-p : goal.decreases-loop-p
decreases-loop-p l = length (to_come l.initial.x l.rest) - l.n
