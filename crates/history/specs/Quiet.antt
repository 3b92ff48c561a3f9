-- Which events leave a part of a channel as it was, whatever that part is: a test that a reader can
-- run on an event, and the law that it is enough if it is for each of a channel's own calls. A part
-- is what registers, lines, sender, receiver and queue say; pointer, status, what is armed, pending
-- or in service are in none. Assumes nothing.
use Rattle.std.specs.Prelude.{◌≡◌, refl, Bool, true, false, not, ◌&&◌, ◌||◌, ℕ, eqb, leb, if◌then◌else◌}
use Rattle.common.specs.Tools.{by_test, if_elim, void}
use Rattle.common.specs.declared.Refusal.TheVariants as refusal
use Rattle.queue.specs.declared.Queue.{Queue}
use Rattle.interrupts.specs.declared.Six.{Six}
use Rattle.interrupts.specs.Interrupts.{acknowledged, ended}
use Rattle.sender.specs.declared.Sender.{Sender}
use Rattle.receiver.specs.declared.Receiver.{Receiver}
use Rattle.settings.specs.declared.Registers.{Registers}
use Rattle.settings.specs.declared.Lines.{Lines}
use Rattle.settings.specs.Settings.{store5, store6, store7, not_built}
use Rattle.channel.specs.declared.Side.{Side}
use Rattle.channel.specs.declared.Side.TheVariants as channels
use Rattle.channel.specs.declared.Channel.{Channel}
use Rattle.channel.specs.declared.Answered.{Answered}
use Rattle.channel.specs.Channel.{with_registers, settled}
use Rattle.channel.specs.Control.{write_wr0, set_wr1, set_wr2, set_wr3, set_wr4, set_register}
use Rattle.channel.specs.Control.{control_written}
use Rattle.channel.specs.Events.{data_written, data_read, transmit_tick, receive_tick, lines_set}
use Rattle.chip.specs.declared.Chip.{Chip}
use Rattle.chip.specs.declared.Outcome.{Outcome}
use Rattle.chip.specs.Interrupts.{pending_of, in_service, acknowledge, reti}
use Rattle.chip.specs.Chip.{refused, by_channel, in_channel, control_write_a, control_write_b}
use Rattle.chip.specs.Chip.{control_write}
use Rattle.chip.specs.Chip.{control_read_call, data_write_in, data_write_call, data_read_call, transmit_call}
use Rattle.chip.specs.Chip.{on_level, receive_in, receive_call, lines_in, lines_call}
use Rattle.chip.specs.Event.{Event, HardReset, ControlWrite, ControlRead, DataWrite, DataRead}
use Rattle.chip.specs.Event.{Transmit, Receive, SetLines, Acknowledge, Reti}
use Rattle.stories.specs.Story.{Which, A, B, chan, happens}
use Rattle.stories.specs.Received.{here}
use Rattle.history.specs.Tools.{or_right}

-- The test

-- what is asked of a channel's own calls: of a write to WR0 its value, to WR3 to WR7 the registers
-- and the value, to WR1 and WR2 nothing; whether data and ticks are quiet; of DCD and CTS their new
-- levels
pub record Test : Type 0 where
  pub wr0 : ℕ → Bool
  pub wr3 : Registers → ℕ → Bool
  pub wr4 : Registers → ℕ → Bool
  pub wr5 : Registers → ℕ → Bool
  pub wr6 : Registers → ℕ → Bool
  pub wr7 : Registers → ℕ → Bool
  pub data_writes : Bool
  pub data_reads : Bool
  pub transmits : Bool
  pub receives : Bool
  pub lines : Channel → Bool → Bool → Bool

abbrev pub register_by : Test → Registers → ℕ → ℕ → Bool
register_by t r p v =
    if eqb p 1 then true
    else (if eqb p 2 then true
    else (if eqb p 3 then t.wr3 r v
    else (if eqb p 4 then t.wr4 r v
    else (if eqb p 5 then t.wr5 r v
    else (if eqb p 6 then t.wr6 r v
    else t.wr7 r v)))))

-- the pointer decides what a control write is
abbrev pub write_by : Test → Channel → ℕ → Bool
write_by t c v =
    if eqb c.pointer 0 then t.wr0 v else register_by t c.registers c.pointer v

-- events of the other channel are quiet, and calls that are refused for a bit above 1
abbrev pub quiet_by : Test → Which → Chip → Event → Bool
quiet_by t w c HardReset = false
quiet_by t w c (ControlWrite ch v) = not (here w ch) || write_by t (chan w c) v
quiet_by t w c (ControlRead ch) = true
quiet_by t w c (DataWrite ch v) = not (here w ch) || t.data_writes
quiet_by t w c (DataRead ch) = not (here w ch) || t.data_reads
quiet_by t w c (Transmit ch) = not (here w ch) || t.transmits
quiet_by t w c (Receive ch bit) = not (here w ch) || (leb 2 bit || t.receives)
quiet_by t w c (SetLines ch dcd cts) =
    not (here w ch) || t.lines (chan w c) (on_level dcd) (on_level cts)
quiet_by t w c Acknowledge = true
quiet_by t w c Reti = true

-- A part of a channel, and what a channel's own calls have to leave of it

abbrev pub Part : Type 0 → Type 0
Part X = Registers → Lines → Sender → Receiver → Queue → X

abbrev pub part_in : {X : Type 0} → Part X → Channel → X
part_in f c = f c.registers c.lines c.sender c.receiver c.queue

abbrev pub KeptIn : {X : Type 0} → Part X → Channel → Channel → Type 0
KeptIn f c x = part_in f x ≡ part_in f c

pub record Keeps {X : Type 0} (f : Part X) (t : Test) : Type 0 where
  pub wr0 : (c : Channel) (v : ℕ) → t.wr0 v ≡ true → KeptIn f c (write_wr0 c v)
  pub wr1 : (c : Channel) (v : ℕ) → KeptIn f c (set_wr1 c v)
  pub wr2 : (c : Channel) (s : Side) (v : ℕ) → KeptIn f c (set_wr2 c s v)
  pub wr3 : (c : Channel) (v : ℕ) → t.wr3 c.registers v ≡ true → KeptIn f c (set_wr3 c v)
  pub wr4 : (c : Channel) (v : ℕ) → not_built v ≡ false → t.wr4 c.registers v ≡ true
      → KeptIn f c (set_wr4 c v)
  pub wr5 : (c : Channel) (v : ℕ) → t.wr5 c.registers v ≡ true
      → KeptIn f c (with_registers c (store5 c.registers v))
  pub wr6 : (c : Channel) (v : ℕ) → t.wr6 c.registers v ≡ true
      → KeptIn f c (with_registers c (store6 c.registers v))
  pub wr7 : (c : Channel) (v : ℕ) → t.wr7 c.registers v ≡ true
      → KeptIn f c (with_registers c (store7 c.registers v))
  pub data_writes : (c : Channel) (v : ℕ) → t.data_writes ≡ true → KeptIn f c (data_written c v)
  pub data_reads : (c : Channel) → t.data_reads ≡ true → KeptIn f c (data_read c).channel
  pub transmits : (c : Channel) → t.transmits ≡ true → KeptIn f c (transmit_tick c).channel
  pub receives : (c : Channel) (b : Bool) → t.receives ≡ true → KeptIn f c (receive_tick c b)
  pub lines : (c : Channel) (d e : Bool) → t.lines c d e ≡ true → KeptIn f c (lines_set c d e)

-- That the test is enough

-- a call by its channel
pub by_channel_lem : (P : Outcome → Type 0) (c : Chip) (ch : ℕ) {a b : Outcome}
    → P (refused c refusal.Channel) → (eqb ch 0 ≡ true → P a) → (eqb ch 1 ≡ true → P b)
    → P (by_channel c ch a b)
by_channel_lem P c ch r f g = by_test P (eqb ch 0) f (λ z. by_test P (eqb ch 1) g (λ o. r))

abbrev pub Kept : {X : Type 0} → Part X → Which → Chip → Chip → Type 0
Kept f w c d = part_in f (chan w d) ≡ part_in f (chan w c)

abbrev KeptBy : {X : Type 0} → Part X → Which → Chip → Outcome → Type 0
KeptBy f w c o = Kept f w c o.chip

register_kept : {X : Type 0} (f : Part X) (t : Test) → Keeps f t → (c : Channel) (s : Side)
    (p v : ℕ) → eqb p 4 && not_built v ≡ false → register_by t c.registers p v ≡ true
    → KeptIn f c (set_register c s p v)
unfolding set_register
register_kept f t k c s p v n q =
    by_test (KeptIn f c) (eqb p 1) (λ e. k.wr1 c v)
    (λ a. by_test (KeptIn f c) (eqb p 2) (λ e. k.wr2 c s v)
    (λ b. by_test (KeptIn f c) (eqb p 3) (λ e. k.wr3 c v (rw (a, b, e) at q))
    (λ d. by_test (KeptIn f c) (eqb p 4) (λ e. k.wr4 c v (rw e at n) (rw (a, b, d, e) at q))
    (λ g. by_test (KeptIn f c) (eqb p 5) (λ e. k.wr5 c v (rw (a, b, d, g, e) at q))
    (λ h. by_test (KeptIn f c) (eqb p 6) (λ e. k.wr6 c v (rw (a, b, d, g, h, e) at q))
    (λ i. k.wr7 c v (rw (a, b, d, g, h, i) at q)))))))

written_kept : {X : Type 0} (f : Part X) (t : Test) → Keeps f t → (c : Channel) (s : Side) (v : ℕ)
    → write_by t c v ≡ true → KeptIn f c (control_written c s v).channel
unfolding control_written settled
written_kept f t k c s v q =
    by_test (λ (x : Answered). KeptIn f c x.channel) (eqb c.pointer 0)
    (λ e. k.wr0 c v (rw e at q))
    (λ e. by_test (λ (x : Answered). KeptIn f c x.channel) (eqb c.pointer 4 && not_built v)
    (λ n. refl) (λ n. register_kept f t k c s c.pointer v n (rw e at q)))

write_kept : {X : Type 0} (f : Part X) (t : Test) → Keeps f t → (w : Which) (c : Chip) (ch v : ℕ)
    → quiet_by t w c (ControlWrite ch v) ≡ true → KeptBy f w c (control_write c ch v)
unfolding control_write control_write_a control_write_b
write_kept f t k A c ch v q =
    by_channel_lem (KeptBy f A c) c ch refl
    (λ e. written_kept f t k c.a channels.A v (or_right (here A ch) (write_by t c.a v) q e))
    (λ e. refl)
write_kept f t k B c ch v q =
    by_channel_lem (KeptBy f B c) c ch refl (λ e. refl)
    (λ e. written_kept f t k c.b channels.B v (or_right (here B ch) (write_by t c.b v) q e))

read_kept : {X : Type 0} (f : Part X) (w : Which) (c : Chip) (ch : ℕ)
    → KeptBy f w c (control_read_call c ch)
unfolding control_read_call
read_kept f A c ch = by_channel_lem (KeptBy f A c) c ch refl (λ e. refl) (λ e. refl)
read_kept f B c ch = by_channel_lem (KeptBy f B c) c ch refl (λ e. refl) (λ e. refl)

-- a call that both channels know alike
call_kept : {X : Type 0} (f : Part X) (w : Which) (c : Chip) (ch : ℕ) (call : Channel → Answered)
    → (here w ch ≡ true → KeptIn f (chan w c) (call (chan w c)).channel)
    → KeptBy f w c (in_channel c ch call)
call_kept f A c ch call k = by_channel_lem (KeptBy f A c) c ch refl k (λ e. refl)
call_kept f B c ch call k = by_channel_lem (KeptBy f B c) c ch refl (λ e. refl) k

service_kept : {X : Type 0} (f : Part X) (w : Which) (c : Chip) (s : Six)
    → Kept f w c (in_service c s)
service_kept f A c s = refl
service_kept f B c s = refl

heard_kept : {X : Type 0} (f : Part X) (t : Test) → Keeps f t → (c : Channel) (bit : ℕ)
    → leb 2 bit || t.receives ≡ true → KeptIn f c (receive_in c bit).channel
heard_kept f t k c bit q =
    by_test (λ (x : Answered). KeptIn f c x.channel) (leb 2 bit) (λ e. refl)
    (λ e. k.receives c (on_level bit) (rw e at q))

lines_kept : {X : Type 0} (f : Part X) (t : Test) → Keeps f t → (c : Channel) (dcd cts : ℕ)
    → t.lines c (on_level dcd) (on_level cts) ≡ true → KeptIn f c (lines_in c dcd cts).channel
lines_kept f t k c dcd cts q =
    if_elim (λ (x : Answered). KeptIn f c x.channel) (leb 2 dcd || leb 2 cts) refl
    (k.lines c (on_level dcd) (on_level cts) q)

pub quiet_kept : {X : Type 0} (f : Part X) (t : Test) → Keeps f t → (w : Which) (c : Chip)
    (e : Event) → quiet_by t w c e ≡ true → Kept f w c (happens c e).chip
unfolding data_write_call data_read_call transmit_call receive_call lines_call acknowledge reti
quiet_kept f t k w c HardReset q = void q
quiet_kept f t k w c (ControlWrite ch v) q = write_kept f t k w c ch v q
quiet_kept f t k w c (ControlRead ch) q = read_kept f w c ch
quiet_kept f t k w c (DataWrite ch v) q =
    call_kept f w c ch (λ x. data_write_in x v)
    (λ e. k.data_writes (chan w c) v (or_right (here w ch) t.data_writes q e))
quiet_kept f t k w c (DataRead ch) q =
    call_kept f w c ch data_read
    (λ e. k.data_reads (chan w c) (or_right (here w ch) t.data_reads q e))
quiet_kept f t k w c (Transmit ch) q =
    call_kept f w c ch transmit_tick
    (λ e. k.transmits (chan w c) (or_right (here w ch) t.transmits q e))
quiet_kept f t k w c (Receive ch bit) q =
    call_kept f w c ch (λ x. receive_in x bit)
    (λ e. heard_kept f t k (chan w c) bit (or_right (here w ch) (leb 2 bit || t.receives) q e))
quiet_kept f t k w c (SetLines ch dcd cts) q =
    call_kept f w c ch (λ x. lines_in x dcd cts)
    (λ e. lines_kept f t k (chan w c) dcd cts
    (or_right (here w ch) (t.lines (chan w c) (on_level dcd) (on_level cts)) q e))
quiet_kept f t k w c Acknowledge q = service_kept f w c (acknowledged (pending_of c) c.service)
quiet_kept f t k w c Reti q = service_kept f w c (ended c.service)
