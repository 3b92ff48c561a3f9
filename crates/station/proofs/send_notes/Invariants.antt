-- `station::send_notes` meets its contract: what has been sent and told so far, walked over the notes that are left, is always the whole
-- report (specs/Laws/Walk.antt). Assumes nothing.
use Rattle.std.specs.Prelude.{Ok}
use Rattle.notes.specs.Notes.{notes_left}
use Rattle.station.specs.Laws.Walk.{Loop}
use Rattle.station.proofs.send_notes.Given as goal

abbrev pub invariant-loop-note : goal.invariant-loop-note
invariant-loop-note l = Loop l.between l.initial.c l.initial.rows l.list (Ok l.all) l.c l.rows l.notes l.sum (notes_left l.note-iterator)
