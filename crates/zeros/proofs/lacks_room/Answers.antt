-- `zeros::lacks_room` meets its contract: with room for the most zeros there is room for those that come. Assumes nothing.
use Rattle.std.proofs.Common.{◌≡◌, true, length, ltb, le-ltb, sym, ap, arith}
use Rattle.line.specs.Frame.{ticks_of}
use Rattle.line.specs.Line.{note_fits}
use Rattle.line.specs.Laws.Frame.{ticks_are, zeros_few}
use Rattle.line.specs.Laws.Line.{fits_few}
use Rattle.counting.specs.Counting.{zeros_in_few}
use Rattle.zeros.specs.Zeros.{line_ticks}
use Rattle.zeros.proofs.lacks_room.Goals as goal

pub returns-then-content-room : goal.returns-then-content-room
unfolding line_ticks
returns-then-content-room c =
    let a = c.args in
    let note = a.note.now in
    let fits : note_fits (length note) ≡ true = sym c.if-not-note_fits.ensures in
    rw fits (sym (le-ltb a.room (ticks_of note) (omega (arith, c.if-content-room.true, ticks_are note, zeros_few note))))

pub overflow_add-result-2 : goal.overflow_add-result-2
overflow_add-result-2 c =
    let note = c.args.note.now in
    let f = fits_few (length note) (sym c.if-not-note_fits.ensures) in
    omega (arith, c.count.ensures, zeros_in_few note f.1, zeros_few note)

pub returns : goal.returns
unfolding line_ticks
returns c =
    let a = c.args in
    let note = a.note.now in
    let fits : note_fits (length note) ≡ true = sym c.if-not-note_fits.ensures in
    rw fits
    (ap (ltb a.room) (omega (arith, c.count.ensures, zeros_in_few note (fits_few (length note) fits).1, ticks_are note)))
