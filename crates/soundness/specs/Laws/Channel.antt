-- A channel reset gives what a history gives, and every event of a channel keeps it. Assumes
-- nothing.
use Rattle.std.specs.Prelude.{Option, Some, None, Bool, ◌&&◌, ℕ, ◌≤◌, eqb}
use Rattle.std.proofs.Common.{arith}
use Rattle.common.specs.Mode.{synchronous, same_mode}
use Rattle.common.specs.Tools.{if_elim}
use Rattle.entry.specs.declared.Entry.{Entry}
use Rattle.queue.specs.declared.Queue.{Queue}
use Rattle.queue.specs.Queue.{taken, waits, error_reset}
use Rattle.queue.specs.Holding.{SoundQueue}
use Rattle.queue.specs.Laws as queues
use Rattle.sender.specs.declared.Sender.{Sender}
use Rattle.sender.specs.Sender.{tick, written, aborted, check_preset, latch_cleared}
use Rattle.sender.specs.Sound.{SoundSender}
use Rattle.sender.specs.Laws.Sound as senders
use Rattle.receiver.specs.declared.Receiver.{Receiver}
use Rattle.receiver.specs.Receiver.{enter_hunt, preset_check, hear}
use Rattle.receiver.specs.Sound.{SoundReceiver}
use Rattle.receiver.specs.Laws.Sound as receivers
use Rattle.settings.specs.declared.Lines.{Lines}
use Rattle.settings.specs.Settings.{store5, store6, store7, command_in, preset_in}
use Rattle.settings.specs.Settings.{pointer_in, enters_hunt, mode_of, mode_in, not_built, sending_of}
use Rattle.settings.specs.Settings.{receiving_of}
use Rattle.channel.specs.declared.Side.{Side}
use Rattle.channel.specs.declared.Side.TheVariants.{A, B}
use Rattle.channel.specs.declared.Channel.{Channel}
use Rattle.channel.specs.declared.Answered.{Answered}
use Rattle.channel.specs.Channel.{with_registers, with_sender, with_receiver, with_queue}
use Rattle.channel.specs.Channel.{with_lines}
use Rattle.channel.specs.Channel.{with_pointer, settled, reset_with}
use Rattle.channel.specs.Control.{commanded, preset, command_step, preset_step, write_wr0}
use Rattle.channel.specs.Control.{set_wr1}
use Rattle.channel.specs.Control.{set_wr2, set_wr3, set_wr4, set_register, control_written}
use Rattle.channel.specs.Control.{control_read}
use Rattle.channel.specs.Events.{data_written, data_read, after_tick, transmit_tick, queued}
use Rattle.channel.specs.Events.{heard_by}
use Rattle.channel.specs.Events.{receive_tick, lines_set}
use Rattle.soundness.specs.Channel.{SoundChannel}

-- The steps of a channel

pub reset_sound : (l : Lines) → SoundChannel (reset_with l)
reset_sound l = record {
  sender = senders.reset_sound;
  receiver = receivers.reset_sound;
  queue = queues.empty_sound;
  pointer = omega arith;
}

settled_sound : (was is : Channel) → SoundChannel is → SoundChannel (settled was is)
unfolding settled
settled_sound was is h = h

sender_sound : (c : Channel) (s : Sender) → SoundChannel c → SoundSender s
    → SoundChannel (with_sender c s)
sender_sound c s h k =
    record { sender = k; receiver = h.receiver; queue = h.queue; pointer = h.pointer }

receiver_sound : (c : Channel) (r : Receiver) → SoundChannel c → SoundReceiver r
    → SoundChannel (with_receiver c r)
receiver_sound c r h k =
    record { sender = h.sender; receiver = k; queue = h.queue; pointer = h.pointer }

queue_sound : (c : Channel) (q : Queue) → SoundChannel c → SoundQueue q
    → SoundChannel (with_queue c q)
queue_sound c q h k =
    record { sender = h.sender; receiver = h.receiver; queue = k; pointer = h.pointer }

pointer_sound : (c : Channel) (p : ℕ) → SoundChannel c → p ≤ 7 → SoundChannel (with_pointer c p)
pointer_sound c p h k =
    record { sender = h.sender; receiver = h.receiver; queue = h.queue; pointer = k }

abort_sound : (c : Channel) → SoundChannel c
    → SoundChannel (with_sender c (aborted (sending_of c.registers c.lines) c.sender))
abort_sound c h =
    let g = sending_of c.registers c.lines in
    sender_sound c (aborted g c.sender) h (senders.abort_sound g c.sender h.sender)

commanded_sound : (c : Channel) (k : ℕ) → SoundChannel c → SoundChannel (commanded c k)
unfolding commanded
commanded_sound c k h =
    if_elim SoundChannel (eqb k 1) (abort_sound c h)
    (if_elim SoundChannel (eqb k 2) h
    (if_elim SoundChannel (eqb k 4) h
    (if_elim SoundChannel (eqb k 5) h
    (if_elim SoundChannel (eqb k 6)
    (queue_sound c (error_reset c.queue) h (queues.error_reset_sound c.queue h.queue)) h))))

preset_sound : (c : Channel) (k : ℕ) → SoundChannel c → SoundChannel (preset c k)
unfolding preset
preset_sound c k h =
    let m = mode_in c.registers in
    if_elim SoundChannel (eqb k 1)
    (receiver_sound c (preset_check m c.receiver) h
    (receivers.preset_check_sound m c.receiver h.receiver))
    (if_elim SoundChannel (eqb k 2)
    (sender_sound c (check_preset m c.sender) h (senders.preset_sound m c.sender h.sender))
    (if_elim SoundChannel (eqb k 3)
    (sender_sound c (latch_cleared c.sender) h (senders.clear_sound c.sender h.sender)) h))

wr0_sound : (c : Channel) (v : ℕ) → SoundChannel c → SoundChannel (write_wr0 c v)
unfolding write_wr0 command_step preset_step
wr0_sound c v h =
    let d = command_step c v in
    let k = settled_sound c (commanded c (command_in v)) (commanded_sound c (command_in v) h) in
    if_elim SoundChannel (eqb (command_in v) 3) (reset_sound c.lines)
    (pointer_sound (preset_step d v) (pointer_in v)
    (settled_sound d (preset d (preset_in v)) (preset_sound d (preset_in v) k)) (omega arith))

wr3_sound : (c : Channel) (v : ℕ) → SoundChannel c → SoundChannel (set_wr3 c v)
wr3_sound c v h =
    if_elim SoundChannel (enters_hunt v && synchronous (mode_in c.registers))
    (receiver_sound c (enter_hunt c.receiver) h (receivers.enter_hunt_sound c.receiver)) h

wr4_sound : (c : Channel) (v : ℕ) → SoundChannel c → SoundChannel (set_wr4 c v)
unfolding set_wr4
wr4_sound c v h =
    if_elim SoundChannel (same_mode (mode_in c.registers) (mode_of v)) h
    (record {
      sender = senders.idle_sound c.sender;
      receiver = receivers.mode_changed_sound c.receiver (synchronous (mode_of v));
      queue = h.queue;
      pointer = h.pointer;
    })

wr2_sound : (c : Channel) (w : Side) (v : ℕ) → SoundChannel c → SoundChannel (set_wr2 c w v)
wr2_sound c A v h = h
wr2_sound c B v h = h

register_sound : (c : Channel) (w : Side) (p v : ℕ) → SoundChannel c
    → SoundChannel (set_register c w p v)
unfolding set_register
register_sound c w p v h =
    let r = c.registers in
    if_elim SoundChannel (eqb p 1) {x = set_wr1 c v} h
    (if_elim SoundChannel (eqb p 2) {x = set_wr2 c w v} (wr2_sound c w v h)
    (if_elim SoundChannel (eqb p 3) {x = set_wr3 c v} (wr3_sound c v h)
    (if_elim SoundChannel (eqb p 4) {x = set_wr4 c v} (wr4_sound c v h)
    (if_elim SoundChannel (eqb p 5) {x = with_registers c (store5 r v)} h
    (if_elim SoundChannel (eqb p 6)
    {x = with_registers c (store6 r v)} {y = with_registers c (store7 r v)} h h)))))

-- The events of a channel

abbrev pub SoundAnswered : Answered → Type 0
SoundAnswered r = SoundChannel r.channel

pub control_write_sound : (c : Channel) (w : Side) (v : ℕ) → SoundChannel c
    → SoundChannel (control_written c w v).channel
unfolding control_written
control_write_sound c w v h =
    let d = set_register c w c.pointer v in
    if_elim SoundAnswered (eqb c.pointer 0) (wr0_sound c v h)
    (if_elim SoundAnswered (eqb c.pointer 4 && not_built v) h
    (pointer_sound (settled c d) 0 (settled_sound c d (register_sound c w c.pointer v h))
    (omega arith)))

pub control_read_sound : (c : Channel) (pending : Bool) (vector : ℕ) → SoundChannel c
    → SoundChannel (control_read c pending vector).channel
control_read_sound c pending vector h = pointer_sound c 0 h (omega arith)

pub data_write_sound : (c : Channel) (v : ℕ) → SoundChannel c → SoundChannel (data_written c v)
data_write_sound c v h =
    sender_sound c (written c.sender v) h (senders.write_sound c.sender v h.sender)

pub data_read_sound : (c : Channel) → SoundChannel c → SoundChannel (data_read c).channel
unfolding data_read
data_read_sound c h =
    if_elim (λ (r : Answered). SoundChannel r.channel) (waits c.queue)
    (queue_sound c (taken c.queue) h (queues.take_sound c.queue h.queue)) h

pub transmit_sound : (c : Channel) → SoundChannel c → SoundChannel (transmit_tick c).channel
unfolding transmit_tick
transmit_sound c h =
    let g = sending_of c.registers c.lines in
    let s = (tick g c.sender).sender in
    settled_sound c (after_tick c (tick g c.sender))
    (sender_sound c s h (senders.tick_sound g c.sender h.sender))

queued_sound : (q : Queue) (e : Option Entry) → SoundQueue q → SoundQueue (queued q e)
queued_sound q None h = h
queued_sound q (Some e) h = queues.push_sound q e h

pub receive_sound : (c : Channel) (b : Bool) → SoundChannel c → SoundChannel (receive_tick c b)
unfolding receive_tick
receive_sound c b h =
    let g = receiving_of c.registers c.lines in
    let t = hear g c.receiver b in
    settled_sound c (heard_by c t) record {
      sender = h.sender;
      receiver = receivers.hear_sound g c.receiver h.receiver b;
      queue = queued_sound c.queue t.entry h.queue;
      pointer = h.pointer;
    }

pub lines_sound : (c : Channel) (dcd cts : Bool) → SoundChannel c
    → SoundChannel (lines_set c dcd cts)
unfolding lines_set
lines_sound c dcd cts h = settled_sound c (with_lines c (record { dcd = dcd; cts = cts })) h
