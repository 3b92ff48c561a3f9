-- `status::Live::changed` meets its contract: unequal is unequal in one of the five. Assumes nothing.
use Rattle.std.proofs.Common.{◌≡◌, refl, Bool, true, false, not, ◌&&◌, ◌||◌}
use Rattle.std.specs.Bool.{beq}
use Rattle.status.specs.Status.{changed}
use Rattle.status.proofs.Live.changed.Goals as goal

not_both : (a b : Bool) → not (a && b) ≡ not a || not b
not_both true b = refl
not_both false b = refl

rises : (was is : Bool) → not (beq (was && is) is) ≡ not was && is
rises true true = refl
rises true false = refl
rises false true = refl
rises false false = refl

pub returns : goal.returns
unfolding changed
returns c = simp (not_both, rises, c.ne.ensures)
