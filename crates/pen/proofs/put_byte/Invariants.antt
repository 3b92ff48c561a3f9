-- `pen::put_byte` meets its contract: where there is room, what is left, put down from the pen on, makes what the whole byte made
-- from the first place. Assumes nothing.
use Rattle.std.proofs.Common.{◌≡◌, ◌-◌}
use Rattle.line.specs.Bits.{low_bits}
use Rattle.pen.specs.Pen.{sheet, bits_put}
use Rattle.pen.proofs.put_byte.Given as goal

abbrev pub invariant-loop : goal.invariant-loop
invariant-loop l = bits_put (sheet l.out l.q) (low_bits (8 - l.counter) l.rest) ≡ bits_put (sheet l.initial.out l.initial.q) (low_bits 8 l.initial.rest)
