-- What an event does to the chip of these tales. An edit of must-fail puts a wrong chip here, in
-- the one line, and names are brought for it, by pub use, which rt tidy leaves; other wrong chips
-- stand in Wrong. Assumes nothing.
pub use Rattle.std.specs.Prelude.{false, if◌then◌else◌}
pub use Rattle.channel.specs.Channel.{with_queue}
pub use Rattle.chip.specs.Interrupts.{in_service}
use Rattle.chip.specs.Event.{step}
use Rattle.tales.specs.Tale.{Happens}
pub use Rattle.tales.specs.Kind.{is_command, is_change}
pub use Rattle.tales.specs.Parts.{with_insertion, with_hunt}
pub use Rattle.tales.specs.Wrong.{but_a, but}

abbrev pub happens : Happens
happens c e = step c e
