-- What RR0 shows of the underrun latch: D6 as a control read gives it, and that it is shown from
-- the moment it is set until it is cleared. Assumes nothing.
use Rattle.std.specs.Prelude.{◌≡◌, refl, Bool, true, false, not, ◌&&◌, ◌||◌, ℕ, ◌+◌, ◌/◌, eqb, leb, Option, Some, None, is_some, IfSome}
use Rattle.std.specs.Option.{unwrap_or}
use Rattle.std.proofs.Common.{sym, ap, ◌∙◌, arith}
use Rattle.common.specs.Bit.{placed}
use Rattle.common.specs.Mode.{in_sdlc, synchronous, same_mode}
use Rattle.common.specs.Tools.{if_elim, void}
use Rattle.line.specs.Bits.{odd}
use Rattle.queue.specs.Queue.{waits}
use Rattle.sdlc.specs.declared.Framer.{Framer}
use Rattle.sdlc.specs.Sending.{aborting}
use Rattle.sender.specs.declared.Sender.{Sender}
use Rattle.sender.specs.Sender.{aborted, buffer_ready}
use Rattle.interrupts.specs.declared.Six.{Six}
use Rattle.interrupts.specs.Interrupts.{acknowledged, ended}
use Rattle.settings.specs.Settings.{command_in, preset_in, enters_hunt, mode_of, mode_in, not_built}
use Rattle.settings.specs.Settings.{sending_of}
use Rattle.channel.specs.declared.Side.{Side}
use Rattle.status.specs.declared.Live.{Live}
use Rattle.status.specs.declared.Status.{Status}
use Rattle.channel.specs.declared.Channel.{Channel}
use Rattle.channel.specs.declared.Answered.{Answered}
use Rattle.status.specs.Status.{status, changed, noticed, shown_bits, latched_again, afresh}
use Rattle.channel.specs.Channel.{with_status, live_of, settled}
use Rattle.channel.specs.Control.{commanded, preset, command_step, preset_step, write_wr0, set_wr2}
use Rattle.channel.specs.Control.{set_wr4, set_register, control_written, rr0}
use Rattle.channel.specs.Events.{data_read, transmit_tick, receive_tick, lines_set}
use Rattle.chip.specs.declared.Chip.{Chip}
use Rattle.chip.specs.declared.Outcome.{Outcome}
use Rattle.chip.specs.Interrupts.{pending_of, in_service, acknowledge, reti}
use Rattle.chip.specs.Chip.{control_write_a, control_write_b, control_write}
use Rattle.chip.specs.Chip.{control_read_call, data_write_call}
use Rattle.chip.specs.Chip.{data_read_call, transmit_call, receive_call, lines_call}
use Rattle.chip.specs.Event.{Event, HardReset, ControlWrite, ControlRead, DataWrite, DataRead}
use Rattle.chip.specs.Event.{Transmit, Receive, SetLines, Acknowledge, Reti}
use Rattle.stories.specs.Story.{Which, A, B, number, chan, happens}
use Rattle.settings.specs.Bytes.{reset_status}
use Rattle.stories.specs.Sent.{d6}
use Rattle.history.specs.Sending.Side.{sending_in, latch_of}
use Rattle.history.specs.Quiet.{by_channel_lem}
use Rattle.history.specs.Read.{pending_seen, reads_rr0, placed_le, d6_of}
use Rattle.channel.specs.declared.Side.TheVariants as channels

-- D6 as it is read

rr0_d6 : (c : Channel) (pending : Bool)
    → odd (rr0 c pending / 64) ≡ (shown_bits c.status (live_of c)).underrun
unfolding rr0
rr0_d6 c pending =
    let s = shown_bits c.status (live_of c) in
    d6_of (placed (waits c.queue) 0b1 + placed pending 0b10 + placed
    (buffer_ready (sending_of c.registers c.lines) c.sender) 0b100 + placed
    s.dcd 0b1000 + placed s.hunt 0b10000 + placed s.cts 0b100000)
    s.underrun s.abort
    (omega (
      arith,
      placed_le (waits c.queue) 0b1,
      placed_le pending 0b10,
      placed_le (buffer_ready (sending_of c.registers c.lines) c.sender) 0b100,
      placed_le s.dcd 0b1000,
      placed_le s.hunt 0b10000,
      placed_le s.cts 0b100000,
    ))

pub d6_read : (w : Which) (c : Chip) → (chan w c).pointer ≡ 0
    → d6 w c ≡ (shown_bits (chan w c).status (live_of (chan w c))).underrun
d6_read w c p =
    ap (λ (v : ℕ). odd (v / 64)) (reads_rr0 w c p) ∙ rr0_d6 (chan w c) (pending_seen w c)

-- Shown once set

-- status that is latched shows D6 as 1; status that is not shows the latch itself
abbrev pub Shows : Status → Type 0
Shows s = IfSome s.latched (λ shown. shown.underrun ≡ true)

pub shows_read : (w : Which) (c : Chip) → (chan w c).pointer ≡ 0 → latch_of w c ≡ true
    → Shows (chan w c).status → d6 w c ≡ true
unfolding live_of
shows_read w c p l h = d6_read w c p ∙ go (chan w c).status.latched h
  where
    go : (o : Option Live) → Shows (status o)
        → (unwrap_or o (live_of (chan w c))).underrun ≡ true
    go None h = l
    go (Some shown) h = h

pub unlatched_shows : (s : Status) → is_some s.latched ≡ false → Shows s
unlatched_shows s = go s.latched
  where
    go : (o : Option Live) → is_some o ≡ false → Shows (status o)
    go None n = tt
    go (Some shown) n = void (sym n)

-- a channel, with what a final latch that is set says of it
abbrev StatusShows : Channel → Type 0
StatusShows c = Shows c.status

abbrev LatchSet : Channel → Type 0
LatchSet c = c.sender.shared.latch ≡ true

abbrev Shown : Channel → Type 0
Shown c = c.sender.shared.latch ≡ true → Shows c.status

settled_shown : (was is : Channel) → Shows is.status → Shown (settled was is)
unfolding settled noticed live_of
settled_shown was is h l =
    if_elim Shows (is_some is.status.latched) h
    (if_elim Shows (changed (live_of was) (live_of is)) l h)

-- Reset External/Status shows a latch that is set, whatever was shown before
afresh_shows : (c : Channel) → LatchSet c → Shows (afresh c.status (live_of c))
unfolding afresh live_of
afresh_shows c l = go c.status.latched
  where
    go : (o : Option Live) → Shows (status (latched_again o (live_of c)))
    go None = tt
    go (Some shown) =
        if_elim (λ (o : Option Live). Shows (status o)) (changed shown (live_of c)) l tt

module _ (c : Channel) (l : c.sender.shared.latch ≡ true) (h : Shows c.status) where
  aborted_latch : (aborted (sending_in c) c.sender).shared.latch ≡ true
  aborted_latch =
      let g = sending_in c in
      if_elim (λ (s : Sender). s.shared.latch ≡ true) (in_sdlc g.mode)
      (if_elim (λ (s : Framer). s.shared.latch ≡ true)
      (g.framing.on && not (aborting c.sender.unit)) refl l) l

  commanded_shows : (k : ℕ) → Shows (commanded c k).status
  unfolding commanded
  commanded_shows k =
      if_elim StatusShows (eqb k 1) h
      (if_elim StatusShows (eqb k 2) (afresh_shows c l)
      (if_elim StatusShows (eqb k 4) h
      (if_elim StatusShows (eqb k 5) h (if_elim StatusShows (eqb k 6) h h))))

  commanded_latch : (k : ℕ) → (commanded c k).sender.shared.latch ≡ true
  unfolding commanded
  commanded_latch k =
      if_elim LatchSet (eqb k 1) aborted_latch
      (if_elim LatchSet (eqb k 2) l
      (if_elim LatchSet (eqb k 4) l
      (if_elim LatchSet (eqb k 5) l (if_elim LatchSet (eqb k 6) l l))))

preset_shows : (c : Channel) (k : ℕ) → Shows c.status → Shows (preset c k).status
unfolding preset
preset_shows c k h =
    if_elim StatusShows (eqb k 1) h
    (if_elim StatusShows (eqb k 2) h (if_elim StatusShows (eqb k 3) h h))

wr0_shown : (c : Channel) (v : ℕ) → c.sender.shared.latch ≡ true → Shows c.status
    → Shown (write_wr0 c v)
unfolding write_wr0 command_step preset_step
wr0_shown c v l h =
    let k = command_in v in
    let j = preset_in v in
    let d = settled c (commanded c k) in
    let t : d.sender.shared.latch ≡ true = unfold settled in (commanded_latch c l h k) in
    let g : Shows d.status = settled_shown c (commanded c k) (commanded_shows c l h k) t in
    if_elim Shown (eqb k 3) (λ z. tt) (settled_shown d (preset d j) (preset_shows d j g))

register_shows : (c : Channel) (s : Side) (p v : ℕ) → Shows c.status
    → Shows (set_register c s p v).status
unfolding set_register set_wr4
register_shows c s p v h =
    if_elim StatusShows (eqb p 1) h
    (if_elim StatusShows (eqb p 2) (two s)
    (if_elim StatusShows (eqb p 3)
    (if_elim StatusShows (enters_hunt v && synchronous (mode_in c.registers)) h h)
    (if_elim StatusShows (eqb p 4)
    (if_elim StatusShows (same_mode (mode_in c.registers) (mode_of v)) h h)
    (if_elim StatusShows (eqb p 5) h (if_elim StatusShows (eqb p 6) h h)))))
  where
    two : (s : Side) → Shows (set_wr2 c s v).status
    two channels.A = h
    two channels.B = h

abbrev AnsweredShown : Answered → Type 0
AnsweredShown x = Shown x.channel

control_shown : (c : Channel) (s : Side) (v : ℕ) → c.sender.shared.latch ≡ true
    → Shows c.status → Shown (control_written c s v).channel
unfolding control_written
control_shown c s v l h =
    if_elim AnsweredShown (eqb c.pointer 0) (wr0_shown c v l h)
    (if_elim AnsweredShown (eqb c.pointer 4 && not_built v) (λ e. h)
    (settled_shown c (set_register c s c.pointer v) (register_shows c s c.pointer v h)))

-- interrupts leave status
service_shows : (w : Which) (c : Chip) (s : Six) → Shows (chan w c).status
    → Shows (chan w (in_service c s)).status
service_shows A c s h = h
service_shows B c s h = h

-- the tick that sets the latch shows it, and every later event does until the latch is cleared
abbrev ShownIn : Which → Outcome → Type 0
ShownIn w x = Shown (chan w x.chip)

pub tick_shown : (w : Which) (c : Chip) → Shows (chan w c).status
    → latch_of w (happens c (Transmit (number w))).chip ≡ true
    → Shows (chan w (happens c (Transmit (number w))).chip).status
unfolding transmit_call transmit_tick
tick_shown A c h = settled_shown c.a _ h
tick_shown B c h = settled_shown c.b _ h

pub event_shown : (w : Which) (c : Chip) (e : Event) → latch_of w c ≡ true → Shows (chan w c).status
    → latch_of w (happens c e).chip ≡ true
    → Shows (chan w (happens c e).chip).status
unfolding
    control_write control_write_a control_write_b control_read_call data_write_call data_read_call data_read
    transmit_call transmit_tick receive_call receive_tick lines_call lines_set acknowledge reti
event_shown A c HardReset l h = λ z. tt
event_shown B c HardReset l h = λ z. tt
event_shown A c (ControlWrite ch v) l h =
    by_channel_lem (ShownIn A) c ch (λ z. h)
    (λ e. control_shown c.a channels.A v l h)
    (λ e z. h)
event_shown B c (ControlWrite ch v) l h =
    by_channel_lem (ShownIn B) c ch (λ z. h)
    (λ e z. h)
    (λ e. control_shown c.b channels.B v l h)
event_shown A c (ControlRead ch) l h = by_channel_lem (ShownIn A) c ch (λ z. h) (λ e z. h) (λ e z. h)
event_shown B c (ControlRead ch) l h = by_channel_lem (ShownIn B) c ch (λ z. h) (λ e z. h) (λ e z. h)
event_shown A c (DataWrite ch v) l h = by_channel_lem (ShownIn A) c ch (λ z. h) (λ e z. h) (λ e z. h)
event_shown B c (DataWrite ch v) l h = by_channel_lem (ShownIn B) c ch (λ z. h) (λ e z. h) (λ e z. h)
event_shown A c (DataRead ch) l h =
    by_channel_lem (ShownIn A) c ch (λ z. h)
    (λ e z. if_elim (λ (x : Answered). Shows x.channel.status) (waits c.a.queue) h h)
    (λ e z. h)
event_shown B c (DataRead ch) l h =
    by_channel_lem (ShownIn B) c ch (λ z. h) (λ e z. h)
    (λ e z. if_elim (λ (x : Answered). Shows x.channel.status) (waits c.b.queue) h h)
event_shown A c (Transmit ch) l h =
    by_channel_lem (ShownIn A) c ch (λ z. h) (λ e. settled_shown c.a _ h) (λ e z. h)
event_shown B c (Transmit ch) l h =
    by_channel_lem (ShownIn B) c ch (λ z. h) (λ e z. h) (λ e. settled_shown c.b _ h)
event_shown A c (Receive ch bit) l h =
    by_channel_lem (ShownIn A) c ch (λ z. h)
    (λ e. if_elim AnsweredShown (leb 2 bit) (λ z. h) (settled_shown c.a _ h)) (λ e z. h)
event_shown B c (Receive ch bit) l h =
    by_channel_lem (ShownIn B) c ch (λ z. h) (λ e z. h)
    (λ e. if_elim AnsweredShown (leb 2 bit) (λ z. h) (settled_shown c.b _ h))
event_shown A c (SetLines ch dcd cts) l h =
    by_channel_lem (ShownIn A) c ch (λ z. h)
    (λ e. if_elim AnsweredShown (leb 2 dcd || leb 2 cts) (λ z. h) (settled_shown c.a _ h))
    (λ e z. h)
event_shown B c (SetLines ch dcd cts) l h =
    by_channel_lem (ShownIn B) c ch (λ z. h) (λ e z. h)
    (λ e. if_elim AnsweredShown (leb 2 dcd || leb 2 cts) (λ z. h) (settled_shown c.b _ h))
event_shown w c Acknowledge l h =
    λ z. service_shows w c (acknowledged (pending_of c) c.service) h
event_shown w c Reti l h = λ z. service_shows w c (ended c.service) h

reset_channel : (c : Channel) (s : Side) → c.pointer ≡ 0 → LatchSet c
    → let d =
    (control_written c s reset_status).channel in (d.pointer ≡ 0) × LatchSet d × StatusShows d
unfolding control_written write_wr0 command_step preset_step commanded preset settled
reset_channel c s p l =
    let x : eqb c.pointer 0 ≡ true = ap (λ (n : ℕ). eqb n 0) p in
    let d = settled c (with_status c (afresh c.status (live_of c))) in
    let h : StatusShows d =
    settled_shown c (with_status c (afresh c.status (live_of c))) (afresh_shows c l) l in
    rw x (refl, l, settled_shown d d h l)

pub reset_seen : (w : Which) (c : Chip) → (chan w c).pointer ≡ 0 → latch_of w c ≡ true
    → let d =
    chan w (happens c (ControlWrite (number w) reset_status)).chip in (d.pointer ≡ 0)
    × LatchSet d × StatusShows d
unfolding control_write control_write_a control_write_b
reset_seen A c p l = reset_channel c.a channels.A p l
reset_seen B c p l = reset_channel c.b channels.B p l
