-- `shapes::Length::parity_bit` meets its contract: what the bits left make of the present parity is what all of them make of the first. Assumes nothing.
use Rattle.std.proofs.Common.{◌≡◌, ◌-◌}
use Rattle.line.specs.Bits.{low_bits}
use Rattle.shapes.specs.Sent.{odd_over}
use Rattle.shapes.proofs.Length.parity_bit.Given as goal

abbrev pub invariant-loop : goal.invariant-loop
invariant-loop l =
    odd_over l.odd (low_bits (l.end - l.counter) l.rest)
    ≡ odd_over l.initial.odd (low_bits l.end l.initial.rest)
