-- How the lists of these tales are read, and how zeros are counted in their notes. An edit of
-- must-fail puts a wrong reading here, in one line; the names that wrong ones are made of are
-- brought for it, by pub use, which rt tidy leaves. Assumes nothing.
use Rattle.std.specs.Prelude.{List, ℕ, Result}
pub use Rattle.std.specs.Prelude.{Ok, ◌&&◌, [], ◌∷◌, ◌++◌, ◌+◌, eqb, ltb, length, get_or, take, drop, if◌then◌else◌}
use Rattle.common.specs.declared.Refusal.{Refusal}
pub use Rattle.common.specs.declared.Refusal.TheVariants.{NoteLength, CutList}
pub use Rattle.line.specs.Bits.{low_bits, text_bits}
pub use Rattle.line.specs.Insertion.{zeros}
pub use Rattle.line.specs.Frame.{content_of}
pub use Rattle.head.specs.NoteHead.{length_at}
use Rattle.notes.specs.NoteList.{Reading, read_list}
pub use Rattle.notes.specs.NoteList.{whole, refuses, reading_number, version}
use Rattle.zeros.specs.Zeros.{count_of}

abbrev pub reads : List ℕ → Reading
reads list = read_list list

abbrev pub counts : List ℕ → Result ℕ Refusal
counts note = count_of note
