-- `writer::write_line` meets its contract: a refusal leaves the buffer alone, and the part that was lent comes back with the frame at
-- its start. Assumes nothing.
use Rattle.std.proofs.Common.{◌≡◌, ◌-◌, Ok, false, length, ltb, refl, ap, length-take, length-drop, arith}
use Rattle.std.proofs.lemmas.Result.{err_from_is_err_and}
use Rattle.line.specs.Bits.{cells}
use Rattle.line.specs.Frame.{frame, zeros_of, ticks_of}
use Rattle.zeros.specs.Laws.{line_there, room_there}
use Rattle.writer.specs.Writer.{write_of}
use Rattle.writer.proofs.Laws.{refused_by_room, part_back}
use Rattle.writer.proofs.write_line.Goals as goal

pub returns-in_err-line_fits : goal.returns-in_err-line_fits
returns-in_err-line_fits c =
    let a = c.args in
    let refused = refused_by_room a.note.now a.out.now a.at _ (rw c.saturating_sub.ensures at c.in_err-line_fits.ensures) in
    let p = err_from_is_err_and c.from_residual.result c.from_residual.ensures.1 in
    rw (refused, p.1, p.2) (record { value = refl; out_after = refl })

pub slice_bounds-lay_line-count : goal.slice_bounds-lay_line-count
slice_bounds-lay_line-count c =
    let a = c.args in
    let there = line_there a.note.now c.saturating_sub.result c.in_ok-line_fits.field-0 c.in_ok-line_fits.ensures in
    (room_there a.note.now a.out.now a.at (rw c.saturating_sub.ensures at there.1)).1

pub slice_bounds-lay_line-start : goal.slice_bounds-lay_line-start
slice_bounds-lay_line-start c =
    let a = c.args in
    let there = line_there a.note.now c.saturating_sub.result c.in_ok-line_fits.field-0 c.in_ok-line_fits.ensures in
    (room_there a.note.now a.out.now a.at (rw c.saturating_sub.ensures at there.1)).1

pub lay_line-requires : goal.lay_line-requires
lay_line-requires c =
    let a = c.args in
    let there = line_there a.note.now c.saturating_sub.result c.in_ok-line_fits.field-0 c.in_ok-line_fits.ensures in
    let room = (room_there a.note.now a.out.now a.at (rw c.saturating_sub.ensures at there.1)).0 in
    simp (length-take, length-drop) (omega arith)

pub returns : goal.returns
unfolding write_of
returns c =
    let a = c.args in
    let note = a.note.now in
    let there = line_there note c.saturating_sub.result c.in_ok-line_fits.field-0 c.in_ok-line_fits.ensures in
    let room : ltb (length a.out.now - a.at) (ticks_of note) ≡ false = rw c.saturating_sub.ensures at there.1 in
    let e = c.lay_line.ensures in
    rw (there.0, room, e.out_after) (record {
      value = ap Ok e.value;
      out_after = part_back a.out.now (cells (frame note)) (ticks_of note) a.at;
    })
