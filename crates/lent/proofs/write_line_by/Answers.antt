-- `lent::write_line_by` meets its contract: a refusal leaves the buffer alone. Assumes nothing.
use Rattle.std.proofs.Common.{◌≡◌, ◌-◌, Ok, false, length, ltb, drop, refl, ap}
use Rattle.std.proofs.lemmas.Result.{err_from_is_err_and}
use Rattle.line.specs.Frame.{ticks_of}
use Rattle.zeros.specs.Laws.{line_there, room_there}
use Rattle.lent.specs.Lent.{write_by}
use Rattle.lent.proofs.Laws.{refused_by_room}
use Rattle.lent.proofs.write_line_by.Goals as goal

pub returns-in_err-line_fits : goal.returns-in_err-line_fits
returns-in_err-line_fits c =
    let a = c.args in
    let t = a.tables.now in
    let room = rw c.saturating_sub.ensures at c.in_err-line_fits.ensures in
    let refused = refused_by_room t.checks t.stamps t.fours a.note.now a.out.now a.at _ room in
    let p = err_from_is_err_and c.from_residual.result c.from_residual.ensures.1 in
    rw (refused, p.1, p.2) (record { value = refl; out_after = refl })

pub lay_at-requires : goal.lay_at-requires
lay_at-requires c =
    let a = c.args in
    let there = line_there a.note.now c.saturating_sub.result c.in_ok-line_fits.field-0 c.in_ok-line_fits.ensures in
    record {
      note_value = there.0;
      at_in_bounds = (room_there a.note.now a.out.now a.at (rw c.saturating_sub.ensures at there.1)).1;
    }

pub returns : goal.returns
unfolding write_by
returns c =
    let a = c.args in
    let there = line_there a.note.now c.saturating_sub.result c.in_ok-line_fits.field-0 c.in_ok-line_fits.ensures in
    let room : ltb (length a.out.now - a.at) (ticks_of a.note.now) ≡ false = rw c.saturating_sub.ensures at there.1 in
    rw (there.0, room) (record { value = ap Ok c.lay_at.ensures.value; out_after = c.lay_at.ensures.out_after })
