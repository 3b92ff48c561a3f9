-- What an event does to the chip of these tales. An edit of must-fail puts a wrong chip here, in
-- the one line, and names are brought for it, by pub use, which rt tidy leaves; other wrong chips
-- stand in Wrong. Assumes nothing.
pub use Rattle.std.specs.Prelude.{◌&&◌, ◌%◌, if◌then◌else◌}
pub use Rattle.std.specs.Option.{option_map}
pub use Rattle.interrupts.specs.Interrupts.{no_six}
pub use Rattle.status.specs.Status.{status}
pub use Rattle.settings.specs.Settings.{store2}
pub use Rattle.channel.specs.Channel.{with_registers, with_status}
pub use Rattle.chip.specs.Interrupts.{with_b, in_service}
use Rattle.chip.specs.Event.{step}
pub use Rattle.chip.specs.Event.{Reti}
use Rattle.tales.specs.Tale.{Happens}
pub use Rattle.tales.specs.Kind.{value_of, is_acknowledge, is_reti, is_command, is_write}
pub use Rattle.tales.specs.Parts.{with_wr1}
pub use Rattle.tales.specs.Wrong.{but_a, but, first_a}

abbrev pub happens : Happens
happens c e = step c e
