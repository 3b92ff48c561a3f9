-- `zeros::zeros_of` meets its contract. Assumes nothing.
use Rattle.std.proofs.Common.{◌≡◌, true, length, Ok, sym, ap, ◌∙◌}
use Rattle.line.specs.Line.{note_fits}
use Rattle.line.specs.Laws.Line.{fits_few}
use Rattle.counting.specs.Counting.{zeros_in_few}
use Rattle.zeros.specs.Zeros.{count_of}
use Rattle.zeros.proofs.zeros_of.Goals as goal

pub returns-then-note_fits : goal.returns-then-note_fits
unfolding count_of
returns-then-note_fits c =
    let note = c.args.note.now in
    let fits : note_fits (length note) ≡ true = sym c.if-note_fits.ensures in
    rw fits (ap Ok (c.count.ensures ∙ zeros_in_few note (fits_few (length note) fits).1))
