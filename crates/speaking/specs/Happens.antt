-- What an event does to the chip of these tales. An edit of must-fail puts a wrong chip here, in
-- the one line, and names are brought for it, by pub use, which rt tidy leaves; other wrong chips
-- stand in Wrong. Assumes nothing.
pub use Rattle.std.specs.Prelude.{◌+◌, ◌-◌, ◌*◌, ◌/◌, ◌%◌, eqb, if◌then◌else◌}
pub use Rattle.line.specs.Bits.{odd}
pub use Rattle.settings.specs.Settings.{store3, store4, store5, stop_field}
use Rattle.chip.specs.Event.{step}
use Rattle.tales.specs.Tale.{Happens}
pub use Rattle.tales.specs.Wrong.{taking_a}

abbrev pub happens : Happens
happens c e = step c e
