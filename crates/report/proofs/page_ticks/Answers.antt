-- `report::page_ticks` meets its contract: the sum so far and the ticks of the notes that are left are always those of all notes, and there is
-- room for the notes that are left. Assumes nothing.
use Rattle.std.specs.Prelude.{Ok, Err, ℕ, ◌+◌, length}
use Rattle.std.proofs.Common.{sym, ap, ◌∙◌, arith}
use mathlib.Core.List.{foldl}
use Rattle.flags.specs.declared.Between.TheVariants.{SharedFlag}
use Rattle.flags.specs.Flags.{with_note, in_all}
use Rattle.notes.specs.NoteList.{Reading, read_list, walk}
use Rattle.notes.specs.Notes.{notes_left}
use Rattle.notes.specs.Laws.Reading.{scanned_size}
use Rattle.notes.specs.Laws.Notes.{first_fits, notes_few, accepted_notes}
use Rattle.report.specs.Laws.Ticks.{ticks_few, line_ticks_fits, pages_walk}
use Rattle.report.proofs.page_ticks.Goals as goal

pub overflow_add-sum : goal.overflow_add-sum
overflow_add-sum c =
    let left = c.loop-note.note-iterator in
    let note = c.in-Some.note.now in
    let next = c.in-Some.ensures.steps in
    let fits = first_fits left.list.now left.at next in
    let ticks = c.note_ticks-sum.ensures ∙ line_ticks_fits note fits in
    let size = scanned_size c.args.list.now c.in_ok-notes.notes (sym c.in_ok-notes.ensures) in
    omega (arith, ticks, ticks_few note fits, ap length next, notes_few c.args.list.now 1, size)

pub loop-note-preserved : goal.loop-note-preserved
loop-note-preserved c =
    let left = c.loop-note.note-iterator in
    let note = c.in-Some.note.now in
    let next = c.in-Some.ensures.steps in
    let fits = first_fits left.list.now left.at next in
    let ticks = c.note_ticks-sum.ensures ∙ line_ticks_fits note fits in
    record {
      sum = ap (λ (t : ℕ). foldl with_note (c.loop-note.sum + t) (notes_left c.next.new.self)) ticks
          ∙ sym (ap (foldl with_note c.loop-note.sum) next) ∙ c.loop-note.invariant.sum;
      room = omega (arith, ticks, ticks_few note fits, ap length next, c.loop-note.invariant.room);
    }

pub returns : goal.returns
returns c =
    let list = c.args.list.now in
    let n = c.in_ok-notes.notes in
    let accepted = sym c.in_ok-notes.ensures in
    let read = (accepted_notes list n accepted).0 in
    let finish = λ (sum : ℕ). Ok (in_all SharedFlag sum n) in
    let sum = sym (ap (foldl with_note c.loop-note.sum) c.in-None.ensures.steps.0) ∙ c.loop-note.invariant.sum in
    ap Ok (c.in_all.ensures ∙ ap (λ (s : ℕ). in_all SharedFlag s n) sum)
    ∙ sym (ap (λ (r : Reading). walk with_note finish Err 0 r) read) ∙ pages_walk SharedFlag n (read_list list) accepted
