-- `writer::lay_line` meets its contract: the zeros are what stands in front of the closing flag beyond the opening one and the
-- content's own bits. Assumes nothing.
use native.Mathlib.Omega.{arith}
use mathlib.Core.Path.{◌∙◌}
use Rattle.layout.specs.Laws.{end_is, frame_fits}
use Rattle.writer.proofs.lay_line.Goals as goal

pub overflow_sub-result : goal.overflow_sub-result
overflow_sub-result c =
    omega (arith, c.lay_frame.ensures.value, end_is c.args.out.now c.args.note.now c.requires)

pub overflow_mul-result : goal.overflow_mul-result
overflow_mul-result c =
    omega (arith, c.lay_frame.ensures.value, end_is c.args.out.now c.args.note.now c.requires)

pub overflow_sub-result-2 : goal.overflow_sub-result-2
overflow_sub-result-2 c =
    omega (arith, c.lay_frame.ensures.value, end_is c.args.out.now c.args.note.now c.requires)

pub returns : goal.returns
returns c =
    let out = c.args.out.now in
    let note = c.args.note.now in
    let e = c.lay_frame.ensures in
    record { value = omega (arith, e.value, end_is out note c.requires); out_after = e.out_after ∙ frame_fits out note c.requires }
