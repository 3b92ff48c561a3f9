-- What an event does to the chip of these tales. An edit of must-fail puts a wrong chip here, in
-- the one line, and names are brought for it, by pub use, which rt tidy leaves; other wrong chips
-- stand in Wrong. Assumes nothing.
pub use Rattle.std.specs.Prelude.{true, false, not, ◌&&◌, eqb, if◌then◌else◌}
pub use Rattle.entry.specs.Entry.{plain_entry}
pub use Rattle.sdlc.specs.Sending.{insertion, checking, no_bit_left}
use Rattle.chip.specs.Event.{step}
use Rattle.tales.specs.Tale.{Happens}
pub use Rattle.tales.specs.Kind.{is_tick, is_bit}
pub use Rattle.tales.specs.Parts.{with_insertion, with_entries}
pub use Rattle.tales.specs.Wrong.{but_a}

abbrev pub happens : Happens
happens c e = step c e
