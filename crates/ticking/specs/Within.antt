-- Most ticks, in a form of their own and no part of 01: in SDLC, and in Monosync and Bisync, inside a
-- byte that is sent with no break nothing but the sender changes, and inside a character that is
-- heard nothing but the receiver. That they are the ticks is said in Laws/Within. Assumes nothing.
use Rattle.std.specs.Prelude.{Bool, not, ◌&&◌}
use Rattle.common.specs.Mode.{in_sdlc, in_blocks}
use Rattle.line.specs.Bits.{one_if}
use Rattle.bytesync.specs.declared.Synced.{Synced}
use Rattle.bytesync.specs.Within as blocks
use Rattle.sdlc.specs.declared.Framed.{Framed}
use Rattle.sdlc.specs.Within.{within, tick_within, hears_on, moved_on}
use Rattle.sender.specs.declared.Sender.{Sender}
use Rattle.sender.specs.declared.Sending.{Sending}
use Rattle.sender.specs.Sender.{framer_of, framer_in, block_in}
use Rattle.receiver.specs.declared.Receiver.{Receiver}
use Rattle.receiver.specs.declared.Receiving.{Receiving}
use Rattle.receiver.specs.Receiver.{listener_of, listener_in, reception_in}
use Rattle.settings.specs.Settings.{receiving_of, sending_of}
use Rattle.channel.specs.declared.Answer.TheVariants.{Gave}
use Rattle.channel.specs.declared.Answered.{Answered}
use Rattle.channel.specs.declared.Channel.{Channel}
use Rattle.channel.specs.Channel.{answered, with_sender, with_receiver}

abbrev pub sends_within : Sending → Sender → Bool
sends_within g s = within (framer_of s) && (not g.broken && in_sdlc g.mode)

unfoldable pub within_byte : Channel → Bool
within_byte c = sends_within (sending_of c.registers c.lines) c.sender

abbrev pub sent_on : Channel → Framed → Answered
sent_on c t = answered (Gave (one_if t.bit)) (with_sender c (framer_in c.sender t.framer))

unfoldable pub ticked_within : Channel → Answered
ticked_within c = sent_on c (tick_within (framer_of c.sender))

abbrev pub sends_block : Sending → Sender → Bool
sends_block g s = blocks.within s.block && (not g.broken && in_blocks g.mode)

unfoldable pub within_block : Channel → Bool
within_block c = sends_block (sending_of c.registers c.lines) c.sender

abbrev pub sent_block : Channel → Synced → Answered
sent_block c t =
    answered (Gave (one_if t.bit))
    (with_sender c (block_in c.sender t.unit t.shared))

unfoldable pub ticked_block : Channel → Answered
ticked_block c = sent_block c (blocks.tick_within c.sender.block c.sender.shared)

abbrev pub hears_inside : Receiving → Receiver → Bool → Bool
hears_inside g v b = in_sdlc g.mode && (g.on && hears_on (listener_of v) b)

unfoldable pub hears_within : Channel → Bool → Bool
hears_within c b = hears_inside (receiving_of c.registers c.lines) c.receiver b

abbrev pub heard_within : Channel → Bool → Channel
heard_within c b =
    with_receiver c (listener_in c.receiver (moved_on (listener_of c.receiver) b))

abbrev pub hears_in_block : Receiving → Receiver → Bool
hears_in_block g v = in_blocks g.mode && (g.on && blocks.hears_on v.reception)

unfoldable pub hears_block : Channel → Bool
hears_block c = hears_in_block (receiving_of c.registers c.lines) c.receiver

abbrev pub heard_block : Channel → Bool → Channel
heard_block c b =
    with_receiver c (reception_in c.receiver (blocks.moved_on c.receiver.reception b))
