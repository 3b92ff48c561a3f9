-- `notes::scan` meets its contract: the count so far, carried over what is left of the list, is always the whole list's answer. Assumes nothing.
use mathlib.Core.Path.{◌≡◌}
use Prim.Native.Nat.{◌-◌, ◌≤◌, ◌<◌}
use lib.ListN.{length}
use Rattle.std.specs.Prelude.{Ok, Err}
use Rattle.notes.specs.NoteList.{rest_from, read_list, scanned, walk}
use Rattle.notes.specs.Laws.Reading.{one_more}
use Rattle.notes.proofs.scan.Given as goal

abbrev pub invariant-notes : goal.invariant-notes
invariant-notes l = (walk one_more Ok Err l.n (rest_from l.list l.i) ≡ scanned (read_list l.list)) × (l.n < l.i) × (l.i ≤ length l.list)

abbrev pub decreases-notes : goal.decreases-notes
decreases-notes l = length l.list - l.i
