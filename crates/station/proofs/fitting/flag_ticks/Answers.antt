-- `station::fitting::flag_ticks` meets its contract. Assumes nothing.
use Rattle.common.specs.Tools.{tests}
use Rattle.station.specs.Walk.{flag_ticks}
use Rattle.station.proofs.fitting.flag_ticks.Goals as goal

pub returns-then-earlier-eq0 : goal.returns-then-earlier-eq0
unfolding flag_ticks
returns-then-earlier-eq0 c = simp c.if-earlier-eq0.true

pub returns : goal.returns
unfolding flag_ticks
returns c = simp (tests, c.if-earlier-eq0.false) c.own_flag.ensures
