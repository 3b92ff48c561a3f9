-- The marked examples of 01 hold, all of them in one theorem, by computing what the definitions
-- give. Assumes nothing.
use Rattle.std.specs.Prelude.{◌≡◌, refl, map}
use Rattle.line.specs.Bits.{cells}
use Rattle.line.specs.Insertion.{zeros}
use Rattle.notes.specs.NoteList.{read_from, rest_from, read_list}
use Rattle.head.specs.NoteHead.{head_of}
use Rattle.chip.specs.Computing.{computing}
use Rattle.report.specs.Report.{rows_from}
use Rattle.tales.specs.Tale.{chip_behind, given, times, digits}
use Rattle.examples.specs.Run.{wired}
use Rattle.examples.specs.Examples.{Example, examples}

pub marked_examples : map (λ (e : Example). e.gives) examples
    ≡ map (λ (e : Example). e.says) examples
unfolding
    computing cells zeros read_list rest_from read_from head_of rows_from chip_behind given times
    wired digits
marked_examples = refl
