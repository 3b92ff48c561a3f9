-- `engine::write_line` meets its contract: by its own tables the byte engine is the bit engine. Assumes nothing.
use mathlib.Core.Path.{ap, ◌∙◌}
use Rattle.engine.specs.One.{Written, writers_are_one}
use Rattle.engine.proofs.write_line.Goals as goal

pub returns : goal.returns
returns c =
    let a = c.args in
    let e = c.write_line_by.ensures in
    let one = writers_are_one a.note.now a.out.now a.at in
    let by = rw c.make.ensures at e in
    record { value = by.value ∙ ap (λ (w : Written). w.answer) one; out_after = by.out_after ∙ ap (λ (w : Written). w.buffer) one }
