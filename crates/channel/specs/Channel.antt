-- A channel of the chip: its parts, what changes one of them, the status rule that every step runs,
-- and its reset. Assumes nothing.
use Rattle.std.specs.Prelude.{Bool, true, false, ℕ}
use Rattle.common.specs.declared.Mode.TheVariants.{NoMode}
use Rattle.queue.specs.declared.Queue.{Queue}
use Rattle.queue.specs.Queue.{empty}
use Rattle.sender.specs.declared.Sender.{Sender}
use Rattle.sender.specs.Sender as sending
use Rattle.receiver.specs.declared.Receiver.{Receiver}
use Rattle.receiver.specs.Receiver as receiving
use Rattle.settings.specs.declared.Registers.{Registers}
use Rattle.settings.specs.declared.Lines.{Lines}
use Rattle.status.specs.declared.Live.{Live}
use Rattle.status.specs.declared.Status.{Status}
use Rattle.status.specs.Status.{unlatched, noticed}
use Rattle.channel.specs.declared.Channel.{Channel}
use Rattle.channel.specs.declared.Answer.{Answer}
use Rattle.channel.specs.declared.Answered.{Answered}
use Rattle.settings.specs.Settings.{registers, receiving_of}

-- The parts of a channel, and what changes one of them

abbrev pub channel : Registers → Sender → Receiver → Queue → Status → Lines → ℕ → Bool → Bool
    → Channel
channel r s v q t l p a m = record {
  registers = r;
  sender = s;
  receiver = v;
  queue = q;
  status = t;
  lines = l;
  pointer = p;
  armed = a;
  transmit = m;
}

abbrev pub with_registers : Channel → Registers → Channel
with_registers c r =
    channel r c.sender c.receiver c.queue c.status c.lines c.pointer c.armed
    c.transmit

abbrev pub with_sender : Channel → Sender → Channel
with_sender c s =
    channel c.registers s c.receiver c.queue c.status c.lines c.pointer c.armed
    c.transmit

abbrev pub with_receiver : Channel → Receiver → Channel
with_receiver c v =
    channel c.registers c.sender v c.queue c.status c.lines c.pointer c.armed
    c.transmit

abbrev pub with_queue : Channel → Queue → Channel
with_queue c q =
    channel c.registers c.sender c.receiver q c.status c.lines c.pointer
    c.armed c.transmit

abbrev pub with_status : Channel → Status → Channel
with_status c t =
    channel c.registers c.sender c.receiver c.queue t c.lines c.pointer c.armed
    c.transmit

abbrev pub with_lines : Channel → Lines → Channel
with_lines c l =
    channel c.registers c.sender c.receiver c.queue c.status l c.pointer
    c.armed c.transmit

abbrev pub with_pointer : Channel → ℕ → Channel
with_pointer c p =
    channel c.registers c.sender c.receiver c.queue c.status c.lines p c.armed
    c.transmit

abbrev pub with_armed : Channel → Bool → Channel
with_armed c a =
    channel c.registers c.sender c.receiver c.queue c.status c.lines
    c.pointer a c.transmit

abbrev pub with_transmit : Channel → Bool → Channel
with_transmit c m =
    channel c.registers c.sender c.receiver c.queue c.status c.lines c.pointer
    c.armed m

abbrev pub answered : Answer → Channel → Answered
answered w c = record { answer = w; channel = c }

-- The status rule, after each step of an event

-- "RR0 D7 to D3": break/abort, underrun, CTS, hunt and DCD as they now are
unfoldable pub live_of : Channel → Live
live_of c = record {
  abort = c.receiver.broken;
  underrun = c.sender.shared.latch;
  cts = c.lines.cts;
  hunt = receiving.hunting (receiving_of c.registers c.lines) c.receiver;
  dcd = c.lines.dcd;
}

unfoldable pub settled : Channel → Channel → Channel
settled was is = with_status is (noticed is.status (live_of was) (live_of is))

-- Resets

abbrev pub no_registers : Registers
no_registers = registers 0 0 0 0 0 0 0 NoMode

-- "A channel reset zeroes the WRs, empties buffer and queue, leaves no mode, sets D6, clears D7 and
-- RR1 D4 and D5, arms the first-character interrupt, presets both checks to ones, ends that
-- channel's pending and in-service sources and unlatches external status." Which sources are in
-- service the chip keeps, and ends
abbrev pub reset_with : Lines → Channel
reset_with l =
    channel no_registers sending.at_reset receiving.reset empty
    unlatched l 0 true false
