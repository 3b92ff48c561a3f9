-- The receiving side of a channel: SDLC's part of its receiver, the queue, and what registers and
-- lines say to the receiver; what they say to Monosync and Bisync alone is left out. Assumes
-- nothing.
use Rattle.std.specs.Prelude.{Bool}
use Rattle.common.specs.declared.Mode.{Mode}
use Rattle.queue.specs.declared.Queue.{Queue}
use Rattle.asynchronous.specs.declared.Format.{Format}
use Rattle.sdlc.specs.declared.Addressing.{Addressing}
use Rattle.sdlc.specs.declared.Listener.{Listener}
use Rattle.receiver.specs.declared.Receiver.{Receiver}
use Rattle.receiver.specs.declared.Receiving.{Receiving}
use Rattle.receiver.specs.Receiver.{listener_of}
use Rattle.settings.specs.Settings.{receiving_of}
use Rattle.channel.specs.declared.Channel.{Channel}
use Rattle.chip.specs.declared.Chip.{Chip}
use Rattle.stories.specs.Story.{Which, chan}

pub record Heeded : Type 0 where
  pub mode : Mode
  pub on : Bool
  pub addressing : Addressing
  pub format : Format

abbrev pub heeded : Receiving → Heeded
heeded g = record { mode = g.mode; on = g.on; addressing = g.addressing; format = g.format }

pub record Side : Type 0 where
  pub listener : Listener
  pub queue : Queue
  pub settings : Heeded

abbrev pub side : Listener → Queue → Heeded → Side
side s q g = record { listener = s; queue = q; settings = g }

abbrev pub receiving_in : Channel → Receiving
receiving_in c = receiving_of c.registers c.lines

abbrev pub part : Receiving → Receiver → Queue → Side
part g v q = side (listener_of v) q (heeded g)

abbrev pub side_in : Channel → Side
side_in c = part (receiving_in c) c.receiver c.queue

abbrev pub side_of : Which → Chip → Side
side_of w c = side_in (chan w c)
