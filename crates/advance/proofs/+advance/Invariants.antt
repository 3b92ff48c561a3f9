-- The measure of `advance::advance`: the bytes that are left. Assumes nothing.
use Rattle.advance.proofs.+advance.Given as goal

abbrev pub decreases-advance : goal.decreases-advance
decreases-advance l = l.k
