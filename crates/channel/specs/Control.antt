-- 01, Registers: control writes and reads of one channel. Assumes nothing.
use Rattle.std.specs.Prelude.{Bool, true, false, ◌&&◌, ℕ, ◌+◌, eqb, if◌then◌else◌}
use Rattle.common.specs.Bit.{placed}
use Rattle.common.specs.Mode.{in_blocks, synchronous, same_mode}
use Rattle.common.specs.declared.Mode.{Mode}
use Rattle.common.specs.declared.Refusal.TheVariants.{Setting}
use Rattle.queue.specs.Queue.{waits, error_reset, rr1, rr1_told}
use Rattle.bytesync.specs.Hearing.{wrong}
use Rattle.sender.specs.Sender.{aborted, check_preset, latch_cleared, idled, all_sent, buffer_ready}
use Rattle.receiver.specs.Receiver.{enter_hunt, mode_changed, preset_check}
use Rattle.channel.specs.declared.Side.{Side}
use Rattle.channel.specs.declared.Side.TheVariants.{A, B}
use Rattle.status.specs.declared.Live.{Live}
use Rattle.channel.specs.declared.Channel.{Channel}
use Rattle.channel.specs.declared.Answer.TheVariants.{Done, Gave, Refused}
use Rattle.channel.specs.declared.Answered.{Answered}
use Rattle.settings.specs.Settings.{store1, store2, store3, store4, store5, store6, store7}
use Rattle.settings.specs.Settings.{command_in, preset_in, pointer_in, transmit_on, enters_hunt, mode_of}
use Rattle.settings.specs.Settings.{mode_in, not_built, sending_of}
use Rattle.status.specs.Status.{shown_bits, afresh}
use Rattle.channel.specs.Channel.{with_registers, with_sender, with_receiver, with_queue}
use Rattle.channel.specs.Channel.{with_status, with_pointer, with_armed, with_transmit, answered}
use Rattle.channel.specs.Channel.{live_of, settled, reset_with}

-- WR0

-- "D5-3 command: 0 none, 1 Send Abort, 2 Reset External/Status, .. 4 arm first-character interrupt,
-- 5 reset Tx interrupt, 6 Error Reset, 7 as RETI (A only, none in B)". 3, Channel Reset, is none of
-- these steps; what 7 does is the chip's to do
unfoldable pub commanded : Channel → ℕ → Channel
commanded c k =
    if eqb k 1 then with_sender c (aborted (sending_of c.registers c.lines) c.sender)
    else (if eqb k 2 then with_status c (afresh c.status (live_of c))
    else (if eqb k 4 then with_armed c true
    else (if eqb k 5 then with_transmit c false
    else (if eqb k 6 then with_queue c (error_reset c.queue)
    else c))))

-- "D7-6: 1 preset Rx check, 2 preset Tx check, 3 clear Underrun latch"
unfoldable pub preset : Channel → ℕ → Channel
preset c k =
    let m = mode_in c.registers in
    if eqb k 1 then with_receiver c (preset_check m c.receiver)
    else (if eqb k 2 then with_sender c (check_preset m c.sender)
    else (if eqb k 3 then with_sender c (latch_cleared c.sender)
    else c))

-- "Order: command, D7-6, pointer. Channel Reset ignores the other fields." Each step runs the
-- status rule
unfoldable pub command_step : Channel → ℕ → Channel
command_step c v = settled c (commanded c (command_in v))

unfoldable pub preset_step : Channel → ℕ → Channel
preset_step c v = settled c (preset c (preset_in v))

unfoldable pub write_wr0 : Channel → ℕ → Channel
write_wr0 c v =
    if eqb (command_in v) 3 then reset_with c.lines
    else with_pointer (preset_step (command_step c v) v) (pointer_in v)

-- WR1 to WR7

-- 01, Interrupts: "Transmit: .. ended by data write, command 5 or D1 off"
abbrev pub set_wr1 : Channel → ℕ → Channel
set_wr1 c v = with_transmit (with_registers c (store1 c.registers v)) (c.transmit && transmit_on v)

-- "WR2: vector, B only; in A the write is accepted and stores nothing."
abbrev pub set_wr2 : Channel → Side → ℕ → Channel
set_wr2 c A v = c
set_wr2 c B v = with_registers c (store2 c.registers v)

-- 01, Receiving: "in SDLC a WR3 write with D4 set, drops the unfinished part, .. and, in SDLC,
-- starts hunt"; 02, P3: "Enter Hunt starts the search again"
abbrev pub set_wr3 : Channel → ℕ → Channel
set_wr3 c v =
    let d = with_registers c (store3 c.registers v) in
    if enters_hunt v
    && synchronous (mode_in c.registers) then with_receiver d (enter_hunt c.receiver) else d

-- "An accepted WR4 that changes the mode idles the sender as after a mark, keeps buffer and queue,
-- clears D7, drops the half-received character and frame, and starts hunt in SDLC."; Monosync and
-- Bisync hunt as well, and to go from one to the other is a change
abbrev pub in_mode : Channel → Mode → Channel
in_mode c m =
    with_receiver (with_sender c (idled c.sender)) (mode_changed c.receiver (synchronous m))

unfoldable pub set_wr4 : Channel → ℕ → Channel
set_wr4 c v =
    let d = with_registers c (store4 c.registers v) in
    if same_mode (mode_in c.registers) (mode_of v) then d else in_mode d (mode_of v)

-- the register that the pointer names; a pointer above 7, which no history makes, names WR7
unfoldable pub set_register : Channel → Side → ℕ → ℕ → Channel
set_register c w p v =
    if eqb p 1 then set_wr1 c v
    else (if eqb p 2 then set_wr2 c w v
    else (if eqb p 3 then set_wr3 c v
    else (if eqb p 4 then set_wr4 c v
    else (if eqb p 5 then with_registers c (store5 c.registers v)
    else (if eqb p 6 then with_registers c (store6 c.registers v)
    else with_registers c (store7 c.registers v))))))

-- "Any control read, or write to WR1 to WR7, uses the pointer and sets it to 0." A refused WR4
-- changes nothing, the pointer included
unfoldable pub control_written : Channel → Side → ℕ → Answered
control_written c w v =
    if eqb c.pointer 0 then answered Done (write_wr0 c v)
    else (if eqb c.pointer 4 && not_built v then answered (Refused Setting) c
    else answered Done (with_pointer (settled c (set_register c w c.pointer v)) 0))

-- Reads

-- "RR0: D0 character waits, D1 any source pending (A; 0 in B), D2 transmit buffer empty and no
-- check being sent, D3 DCD, D4 hunt (SDLC; else 0), D5 CTS, D6, D7." Whether a source is pending is
-- the chip's to say
abbrev pub rr0_of : Channel → Bool → Live → ℕ
rr0_of c pending s =
    placed (waits c.queue) 0b1 + placed pending 0b10 + placed
    (buffer_ready (sending_of c.registers c.lines) c.sender) 0b100 + placed s.dcd 0b1000
    + placed s.hunt 0b10000 + placed s.cts 0b100000 + placed s.underrun 0b1000000 + placed
    s.abort 0b10000000

unfoldable pub rr0 : Channel → Bool → ℕ
rr0 c pending = rr0_of c pending (shown_bits c.status (live_of c))

-- 02, P3: "RR1 D6 is then 1 exactly while that check is not zero", in Monosync and Bisync
unfoldable pub rr1_now : Channel → ℕ
rr1_now c =
    let sent = all_sent (sending_of c.registers c.lines) c.sender in
    if in_blocks (mode_in c.registers) then rr1_told c.queue sent (wrong c.receiver.check)
    else rr1 c.queue sent

-- "RR2: vector, B. Other reads give 0." The chip gives the vector, 0 for A
unfoldable pub read_register : Channel → Bool → ℕ → ℕ
read_register c pending vector =
    if eqb c.pointer 0 then rr0 c pending
    else (if eqb c.pointer 1 then rr1_now c
    else (if eqb c.pointer 2 then vector
    else 0))

abbrev pub control_read : Channel → Bool → ℕ → Answered
control_read c pending vector = answered (Gave (read_register c pending vector)) (with_pointer c 0)
