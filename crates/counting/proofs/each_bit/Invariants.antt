-- `counting::each_bit` meets its contract: the bits left make of the present tally what all eight make of the first. Assumes nothing.
use mathlib.Core.Path.{◌≡◌}
use Prim.Native.Nat.{◌+◌, ◌-◌, ◌≤◌, ◌<◌}
use Rattle.line.specs.Bits.{low_bits}
use Rattle.tally.specs.Tally.{tally, tallied}
use Rattle.counting.proofs.each_bit.Given as goal

abbrev pub invariant-loop : goal.invariant-loop
invariant-loop l = record {
  left : tallied (tally l.ones l.closed) (low_bits (8 - l.counter) l.rest) ≡ tallied (tally l.initial.ones l.initial.closed) (low_bits 8 l.v);
  closed : l.closed ≤ l.ones;
  run : l.ones < l.closed + 5;
  few : l.ones ≤ l.initial.ones + l.counter;
}
