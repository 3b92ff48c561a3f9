-- What an event does to the chip of these tales. An edit of must-fail puts a wrong chip here, in
-- the one line, and names are brought for it, by pub use, which rt tidy leaves; other wrong chips
-- stand in Wrong. Assumes nothing.
pub use Rattle.std.specs.Prelude.{false, ◌&&◌, ◌+◌, ◌*◌, ◌/◌, ◌%◌, eqb, ltb, leb, if◌then◌else◌}
pub use Rattle.sdlc.specs.Hearing.{chars}
pub use Rattle.settings.specs.Settings.{store3}
use Rattle.chip.specs.Event.{step}
use Rattle.tales.specs.Tale.{Happens}
pub use Rattle.tales.specs.Kind.{value_of, is_bit}
pub use Rattle.tales.specs.Parts.{with_skip, with_delay, with_chars, with_entries}
pub use Rattle.tales.specs.Wrong.{but_a, first_a, taking_a}

abbrev pub happens : Happens
happens c e = step c e
