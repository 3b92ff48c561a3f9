-- `counting::count` meets its contract: the bytes that remain, the check's two among them, make of the present tally what the content
-- makes of none. Assumes nothing.
use mathlib.Core.Path.{◌≡◌}
use Prim.Native.Nat.{◌+◌, ◌≤◌, ◌<◌}
use Rattle.line.specs.Bits.{text_bits}
use Rattle.line.specs.Frame.{content_of}
use Rattle.mirror.specs.Laws.{remaining}
use Rattle.tally.specs.Tally.{tally, tallied}
use Rattle.counting.proofs.count.Given as goal

abbrev pub invariant-loop-v : goal.invariant-loop-v
invariant-loop-v l = record {
  left : tallied l.t (text_bits 8 (remaining l.note l.v-index l.m)) ≡ tallied (tally 0 0) (content_of l.note);
  closed : l.t.closed ≤ l.t.ones;
  run : l.t.ones < l.t.closed + 5;
}
