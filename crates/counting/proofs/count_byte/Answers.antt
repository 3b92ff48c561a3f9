-- `counting::count_byte` meets its contract: a byte that closes no five leaves the ones at its top. Assumes nothing.
use borrow.Author.Tests.{ne_eqb}
use Prim.Native.Nat.{◌/◌, ◌%◌}
use Rattle.tally.specs.Laws.{calm_tallied}
use Rattle.counting.proofs.count_byte.Goals as goal

pub returns-then-v-run : goal.returns-then-v-run
returns-then-v-run c =
    let v = c.args.v in
    rw c.top_ones.ensures
    (calm_tallied c.args.t v c.ranges.v.fits (ne_eqb (v / 8 % 4) 3 c.if-v-eq3.false) c.if-v-run.true)
