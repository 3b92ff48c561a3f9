-- `report::note_ticks` meets its contract. Assumes nothing.
use mathlib.Core.Path.{sym}
use native.Mathlib.Omega.{arith}
use lib.ListN.{length}
use Rattle.line.specs.Laws.Frame.{ticks_are, zeros_few}
use Rattle.line.specs.Laws.Line.{fits_few}
use Rattle.report.specs.Laws.Ticks.{line_ticks_fits, counts, counts_none}
use Rattle.report.proofs.note.note_ticks.Goals as goal

pub overflow_mul-result : goal.overflow_mul-result
overflow_mul-result c =
    let note = c.args.note.now in
    let z = counts note _ (sym c.in-Ok.ensures) in
    omega (arith, (fits_few (length note) z.0).1)

pub overflow_add-result-in-Ok : goal.overflow_add-result-in-Ok
overflow_add-result-in-Ok c =
    let note = c.args.note.now in
    let z = counts note _ (sym c.in-Ok.ensures) in
    omega (arith, (fits_few (length note) z.0).1)

pub overflow_add-result-in-Ok-2 : goal.overflow_add-result-in-Ok-2
overflow_add-result-in-Ok-2 c =
    let note = c.args.note.now in
    let z = counts note _ (sym c.in-Ok.ensures) in
    omega (arith, (fits_few (length note) z.0).1, z.1, zeros_few note)

pub returns-in-Ok : goal.returns-in-Ok
returns-in-Ok c =
    let note = c.args.note.now in
    let z = counts note _ (sym c.in-Ok.ensures) in
    omega (arith, z.1, ticks_are note, line_ticks_fits note z.0)

pub returns-in-Err : goal.returns-in-Err
returns-in-Err c =
    let note = c.args.note.now in
    sym (counts_none note _ (sym c.in-Err.ensures))
