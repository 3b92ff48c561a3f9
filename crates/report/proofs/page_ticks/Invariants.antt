-- `report::page_ticks` meets its contract: the sum so far and the ticks of the notes that are left are always those of all notes, and there is
-- room for the notes that are left. Assumes nothing.
use Rattle.std.specs.Prelude.{◌≡◌, ◌+◌, ◌*◌, ◌≤◌, length}
use mathlib.Core.List.{foldl}
use Rattle.flags.specs.Flags.{with_note}
use Rattle.notes.specs.Notes.{notes_of, notes_left}
use Rattle.report.proofs.page_ticks.Given as goal

abbrev pub invariant-loop-note : goal.invariant-loop-note
invariant-loop-note l = record {
  sum : foldl with_note l.sum (notes_left l.note-iterator) ≡ foldl with_note 0 (notes_of l.list);
  room : l.sum + 19696 * length (notes_left l.note-iterator) ≤ 19696 * length (notes_of l.list);
}
