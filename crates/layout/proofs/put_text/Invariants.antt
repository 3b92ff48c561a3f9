-- `layout::put_text` meets its contract: the bytes that remain, put down from the pen on, make what all of them made from the first
-- place, and so with the register. Assumes nothing.
use Rattle.std.proofs.Common.{◌≡◌, drop}
use Rattle.line.specs.Check.{ones}
use Rattle.pen.specs.Pen.{sheet}
use Rattle.layout.specs.Layout.{bytes_put, mirrored_over}
use Rattle.layout.proofs.put_text.Given as goal

abbrev pub invariant-loop-v : goal.invariant-loop-v
invariant-loop-v l = record {
  laid : bytes_put (sheet l.out l.pen) (drop l.v-index l.text) ≡ bytes_put (sheet l.initial.out l.initial.pen) l.text;
  over : mirrored_over l.m (drop l.v-index l.text) ≡ mirrored_over ones l.text;
}
