-- What an event does to the chip of these tales. An edit of must-fail puts a wrong chip here, in
-- the one line, and names are brought for it, by pub use, which rt tidy leaves; other wrong chips
-- stand in Wrong. Assumes nothing.
pub use Rattle.std.specs.Prelude.{not, ◌&&◌, ◌-◌, ◌/◌, eqb, if◌then◌else◌}
pub use Rattle.line.specs.Bits.{odd}
pub use Rattle.line.specs.Check.{complement}
pub use Rattle.shared.specs.Shared.{full}
pub use Rattle.settings.specs.Settings.{store6, store7}
use Rattle.chip.specs.Event.{step}
use Rattle.tales.specs.Tale.{Happens}
pub use Rattle.tales.specs.Kind.{is_tick, is_bit}
pub use Rattle.tales.specs.Parts.{with_wr3, with_sent_check}
pub use Rattle.tales.specs.Wrong.{first_a, taking_a}
pub use Rattle.laundry.specs.Unit.{byte_ended}

abbrev pub happens : Happens
happens c e = step c e
