-- `feed::through` meets its contract: the bits now, gone through, are always those of the beginning
-- gone through. Assumes nothing.
use mathlib.Core.Path.{◌≡◌}
use Prim.Native.Nat.{◌+◌, ◌*◌, ◌≤◌}
use Rattle.feed.specs.Turns.{bits_through}
use Rattle.feed.proofs.through.through.Given as goal

abbrev pub invariant-loop : goal.invariant-loop
invariant-loop l = record {
  counted : l.counter + l.x.left ≡ l.left;
  few : l.x.ticks + 2 * l.x.left ≤ 510;
  same : bits_through l.x.left l.x ≡ bits_through l.initial.x.left l.initial.x;
}
