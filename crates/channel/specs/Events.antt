-- 01, Events: data, ticks and lines of one channel, and which of its sources are pending. Assumes
-- nothing.
use Rattle.std.specs.Prelude.{Option, Some, None, Bool, true, false, ◌&&◌, ◌||◌, ℕ, eqb, leb, if◌then◌else◌, is_some}
use Rattle.common.specs.declared.Refusal.TheVariants as refusal
use Rattle.line.specs.Bits.{one_if}
use Rattle.entry.specs.declared.Entry.{Entry}
use Rattle.queue.specs.declared.Queue.{Queue}
use Rattle.queue.specs.Queue.{pushed, taken, oldest, waits, special}
use Rattle.sender.specs.declared.Ticked.{Ticked}
use Rattle.sender.specs.Sender.{tick, written}
use Rattle.receiver.specs.declared.Heard.{Heard}
use Rattle.receiver.specs.Receiver.{hear}
use Rattle.interrupts.specs.declared.Sources.{Sources}
use Rattle.settings.specs.declared.ReceiveMode.{ReceiveMode}
use Rattle.settings.specs.declared.ReceiveMode.TheVariants.{Off, First, AllParitySpecial, All}
use Rattle.channel.specs.declared.Channel.{Channel}
use Rattle.channel.specs.declared.Answer.TheVariants.{Done, Gave, Refused}
use Rattle.channel.specs.declared.Answered.{Answered}
use Rattle.settings.specs.Settings.{external_on, transmit_on, receive_mode, sending_of, receiving_of}
use Rattle.channel.specs.Channel.{with_sender, with_receiver, with_queue, with_lines, with_armed}
use Rattle.channel.specs.Channel.{with_transmit, answered, settled}

-- 01, Sending: "A data write fills the buffer, replacing what is there." It ends a pending transmit
abbrev pub data_written : Channel → ℕ → Channel
data_written c v = with_transmit (with_sender c (written c.sender v)) false

-- 01, Receiving: "A data read takes the oldest and disarms the first-character interrupt". 02, P5:
-- "10, data read with nothing waiting"
unfoldable pub data_read : Channel → Answered
data_read c =
    if waits c.queue
    then answered (Gave (oldest c.queue).byte)
    (with_armed (with_queue c (taken c.queue)) false)
    else answered (Refused refusal.NoCharacter) c

-- a transmit tick "gives one line bit". 01, Interrupts: "Transmit: set by a load while WR1 D1 is
-- set"
abbrev pub after_tick : Channel → Ticked → Channel
after_tick c t =
    with_transmit (with_sender c t.sender)
    (c.transmit || (t.loaded && transmit_on c.registers.wr1))

abbrev pub transmitted : Channel → Ticked → Answered
transmitted c t = answered (Gave (one_if t.bit)) (settled c (after_tick c t))

unfoldable pub transmit_tick : Channel → Answered
transmit_tick c = transmitted c (tick (sending_of c.registers c.lines) c.sender)

-- a receive tick "takes one"; what the receiver hands over is queued
abbrev pub queued : Queue → Option Entry → Queue
queued q None = q
queued q (Some e) = pushed q e

abbrev pub heard_by : Channel → Heard → Channel
heard_by c h = with_queue (with_receiver c h.receiver) (queued c.queue h.entry)

unfoldable pub receive_tick : Channel → Bool → Channel
receive_tick c b =
    settled c (heard_by c (hear (receiving_of c.registers c.lines) c.receiver b))

-- "set DCD and CTS": both at once
unfoldable pub lines_set : Channel → Bool → Bool → Channel
lines_set c dcd cts = settled c (with_lines c (record { dcd = dcd; cts = cts }))

-- 2: "a line bit, DCD or CTS above 1"
abbrev pub on_level : ℕ → Bool
on_level v = eqb v 1

abbrev pub receive_in : Channel → ℕ → Answered
receive_in c bit =
    if leb 2 bit then answered (Refused refusal.Level) c
    else answered Done (receive_tick c (on_level bit))

abbrev pub lines_in : Channel → ℕ → ℕ → Answered
lines_in c dcd cts =
    if leb 2 dcd || leb 2 cts then answered (Refused refusal.Level) c
    else answered Done (lines_set c (on_level dcd) (on_level cts))

-- 01, Interrupts: the oldest entry is "special: overrun, framing, frame end, parity in mode 2"
abbrev pub parity_special : ReceiveMode → Bool
parity_special Off = false
parity_special First = false
parity_special AllParitySpecial = true
parity_special All = false

unfoldable pub special_waits : Channel → Bool
special_waits c = special c.queue (parity_special (receive_mode c.registers.wr1))

-- "Receive is pending by mode if a character waits (mode 1: and armed), or, modes 1 to 3, if the
-- oldest entry is special"
abbrev pub asks : ReceiveMode → Bool → Bool → Bool → Bool
asks Off waits armed special = false
asks First waits armed special = (waits && armed) || special
asks AllParitySpecial waits armed special = waits || special
asks All waits armed special = waits || special

unfoldable pub receive_pending : Channel → Bool
receive_pending c =
    asks (receive_mode c.registers.wr1) (waits c.queue) c.armed (special_waits c)

-- "External: latched and WR1 D0."
unfoldable pub pending_in : Channel → Sources
pending_in c =
    record {
      receive = receive_pending c;
      transmit = c.transmit;
      external = is_some c.status.latched && external_on c.registers.wr1;
    }
