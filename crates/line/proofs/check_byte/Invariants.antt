-- `line::check_byte` meets its contract: what the bits left make of the present register is what all eight make of the first. Assumes nothing.
use Rattle.std.proofs.Common.{◌≡◌, ◌-◌}
use Rattle.line.specs.Bits.{low_bits}
use Rattle.line.specs.Check.{check_over}
use Rattle.line.proofs.check_byte.Given as goal

abbrev pub invariant-loop : goal.invariant-loop
invariant-loop l = check_over l.p l.x (low_bits (8 - l.counter) l.rest) ≡ check_over l.p l.r (low_bits 8 l.v)
