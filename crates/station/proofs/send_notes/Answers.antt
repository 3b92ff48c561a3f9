-- `station::send_notes` meets its contract: what has been sent and told so far, walked over the notes that are left, is always the whole
-- report (specs/Laws/Walk.antt). Assumes nothing.
use Rattle.std.specs.Prelude.{◌≡◌, refl, Ok, ℕ, ◌+◌, ◌≤◌, ◌<◌, length}
use Rattle.std.proofs.Common.{sym, ap, ◌∙◌, arith}
use Rattle.notes.specs.Notes.{notes_of, notes_left}
use Rattle.notes.specs.Laws.Notes.{first_fits}
use Rattle.chip.specs.declared.Chip.{Chip}
use Rattle.told.specs.declared.Gone.{Gone}
use Rattle.station.specs.Station.{total, list_sent}
use Rattle.station.specs.Laws.Walk.{WalkedList, loop_starts, loop_turns, loop_ends, notes_small, sum_small, room}
use Rattle.station.proofs.send_notes.Goals as goal

pub loop-note-init : goal.loop-note-init
loop-note-init c =
    let a = c.args in
    let left : notes_left c.into_iter-note-iterator.result ≡ notes_of a.list.now =
    ap notes_left c.into_iter-note-iterator.ensures.into_iter_gives ∙ c.of-note-items.ensures in
    rw left (loop_starts a.between a.c a.rows.now a.list.now (Ok a.all) (sym c.requires))

pub send_next-requires : goal.send_next-requires
send_next-requires c =
    let left = c.loop-note.note-iterator in
    first_fits left.list.now left.at c.in-Some.ensures.steps

pub put_row-requires : goal.put_row-requires
put_row-requires c =
    let a = c.args in
    let l = c.loop-note.invariant in
    let more : c.loop-note.notes < a.all = omega (arith, (l.some refl).counted, ap length c.in-Some.ensures.steps) in
    record {
      gone_value = ap (λ (x : Gone × Chip). x.0) c.send_next.ensures;
      room = room a.between a.c a.rows.now a.list.now (Ok a.all) (sym c.requires) l more;
      earlier_bound = notes_small a.between a.c a.rows.now a.list.now (Ok a.all) (sym c.requires) l more;
    }

pub overflow_add-notes : goal.overflow_add-notes
overflow_add-notes c =
    let a = c.args in
    let l = c.loop-note.invariant in
    let more : c.loop-note.notes < a.all = omega (arith, (l.some refl).counted, ap length c.in-Some.ensures.steps) in
    omega (arith, notes_small a.between a.c a.rows.now a.list.now (Ok a.all) (sym c.requires) l more)

pub overflow_add-sum : goal.overflow_add-sum
overflow_add-sum c =
    let a = c.args in
    let l = c.loop-note.invariant in
    let next = c.in-Some.ensures.steps in
    let more : c.loop-note.notes < a.all = omega (arith, (l.some refl).counted, ap length next) in
    let ticks = ap (λ (x : Gone × Chip). x.0.ticks) c.send_next.ensures in
    omega (arith, ticks, sum_small a.between a.c a.rows.now a.list.now (Ok a.all) (sym c.requires) l more next)

pub loop-note-preserved : goal.loop-note-preserved
loop-note-preserved c =
    let a = c.args in
    let l = c.loop-note.invariant in
    let next = c.in-Some.ensures.steps in
    let more : c.loop-note.notes < a.all = omega (arith, (l.some refl).counted, ap length next) in
    loop_turns a.between a.c a.rows.now a.list.now (Ok a.all) (sym c.requires) l more next
    (ap (λ (x : Gone × Chip). x.1) c.send_next.ensures) c.put_row.ensures
    (ap (λ (x : Gone × Chip). c.loop-note.sum + x.0.ticks) c.send_next.ensures)

pub returns : goal.returns
returns c =
    let a = c.args in
    let l = c.loop-note in
    let all : a.all ≤ l.notes = omega (arith, (l.invariant.some refl).counted, ap length c.in-None.ensures.steps.0) in
    let e = loop_ends a.between a.c a.rows.now a.list.now (Ok a.all) (sym c.requires) l.invariant all in
    let ticks = ap (λ (t : ℕ). list_sent (Ok (total l.notes t)) l.c) c.in_all-ticks.ensures in
    record {
      value = c.list_sent.ensures ∙ ticks ∙ ap (λ (y : WalkedList). list_sent y.answer y.chip) e;
      rows_after = ap (λ (y : WalkedList). y.rows) e;
    }
