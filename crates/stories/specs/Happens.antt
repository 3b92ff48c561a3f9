-- What an event does to a chip. Stories, and with them the theorems of the demands, speak of the
-- chip by this name alone, so that a wrong chip can be put in its place: an edit of must-fail does
-- that in the one line, and the names that wrong chips are made of are brought here for it, by pub
-- use, which rt tidy leaves. Assumes nothing.
pub use Rattle.std.specs.Prelude.{true, false, not, ◌&&◌, ◌/◌, eqb, if◌then◌else◌, None}
pub use Rattle.line.specs.Bits.{odd}
pub use Rattle.line.specs.Check.{ones}
pub use Rattle.shared.specs.Shared.{latched, cleared, check_set}
pub use Rattle.sdlc.specs.declared.LineUnit.TheVariants.{Byte, Abort}
pub use Rattle.sdlc.specs.Sending.{not_counted, paid, framer, aborting, checking}
pub use Rattle.sdlc.specs.Within.{byte_left, byte_rest}
pub use Rattle.whole.specs.Start.{ended_by}
pub use Rattle.sender.specs.Sender.{sender, with_shared, framer_in}
pub use Rattle.channel.specs.declared.Answer.TheVariants.{Gave}
pub use Rattle.channel.specs.declared.Channel.{Channel}
pub use Rattle.status.specs.Status.{status}
pub use Rattle.channel.specs.Channel.{with_sender, with_status, settled}
pub use Rattle.channel.specs.Answer.{answer_number}
use Rattle.chip.specs.declared.Chip.{Chip}
use Rattle.chip.specs.declared.Outcome.{Outcome}
pub use Rattle.chip.specs.Interrupts.{with_a}
pub use Rattle.chip.specs.Chip.{outcome}
use Rattle.chip.specs.Event.{Event, step}
pub use Rattle.chip.specs.Event.{Transmit}

abbrev pub happens : Chip → Event → Outcome
happens c e = step c e
