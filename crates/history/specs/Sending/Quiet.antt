-- Which events leave a channel's sender alone: a test that a reader can run on an event, and that
-- it is enough, for every part that the sender and what it is told say. Assumes nothing.
use Rattle.std.specs.Prelude.{◌≡◌, refl, Bool, true, false, not, ◌&&◌, ◌||◌, ℕ, eqb, length}
use Rattle.std.proofs.Common.{sym, ap, ◌∙◌}
use Rattle.std.specs.Bool.{beq}
use Rattle.common.specs.Tools.{if_elim, by_test, void, both_left, both_right}
use Rattle.common.specs.Mode.{synchronous, same_mode, mode_same}
use Rattle.common.specs.declared.Mode.{Mode}
use Rattle.sdlc.specs.Sending.{framing}
use Rattle.queue.specs.Queue.{waits}
use Rattle.asynchronous.specs.Sending.{stop_bits}
use Rattle.bytesync.specs.Sending.{syncing}
use Rattle.sender.specs.declared.Sender.{Sender}
use Rattle.sender.specs.declared.Sending.{Sending}
use Rattle.sender.specs.Sender.{framer_of}
use Rattle.settings.specs.declared.Registers.{Registers}
use Rattle.settings.specs.declared.Lines.{Lines}
use Rattle.settings.specs.Settings.{store3, store4, store5, store6, store7, command_in, preset_in}
use Rattle.settings.specs.Settings.{enters_hunt, auto_enables, check_included, sender_on, breaks}
use Rattle.settings.specs.Settings.{sent_field, mode_of, mode_in, not_built, sends, format_of, stops_of}
use Rattle.settings.specs.Settings.{polynomial_in, syncs_in, sending_of}
use Rattle.channel.specs.declared.Side.{Side}
use Rattle.channel.specs.declared.Side.TheVariants as channels
use Rattle.channel.specs.declared.Channel.{Channel}
use Rattle.channel.specs.declared.Answered.{Answered}
use Rattle.channel.specs.Channel.{with_registers, settled}
use Rattle.channel.specs.Control.{commanded, preset, command_step, preset_step, write_wr0, set_wr1}
use Rattle.channel.specs.Control.{set_wr2, set_wr3, set_wr4}
use Rattle.channel.specs.Events.{data_read, receive_tick, lines_set}
use Rattle.chip.specs.declared.Chip.{Chip}
use Rattle.chip.specs.Event.{Event}
use Rattle.stories.specs.Story.{Which, happens}
use Rattle.common.specs.Tools.{refused_test}
use Rattle.history.specs.Tools.{same_is, still_on}
use Rattle.history.specs.Quiet.{Test, quiet_by, Part, KeptIn, Keeps, quiet_kept}
use Rattle.history.specs.Sending.Side.{Heeded, heeded, SenderSide, side, part, side_of}

-- The test

-- WR0: neither Send Abort nor Channel Reset, nor the sender's check preset or its latch cleared
abbrev pub quiet_wr0 : ℕ → Bool
quiet_wr0 v =
    (not (eqb (command_in v) 1) && not (eqb (command_in v) 3))
    && (not (eqb (preset_in v) 2) && not (eqb (preset_in v) 3))

-- auto enables stay
abbrev pub quiet_auto : Registers → ℕ → Bool
quiet_auto r v = beq (auto_enables v) (auto_enables r.wr3)

-- check included, on and break stay
abbrev pub quiet_wr5 : Registers → ℕ → Bool
quiet_wr5 r v =
    beq (check_included v) (check_included r.wr5)
    && (beq (sender_on v) (sender_on r.wr5) && beq (breaks v) (breaks r.wr5))

-- CTS counts with auto enables alone
abbrev pub quiet_cts : Channel → Bool → Bool
quiet_cts c cts = not (auto_enables c.registers.wr3) || beq cts c.lines.cts

-- all but transmit ticks and data writes, and what writes its sender or sets it anew; of WR4 to WR7
-- each mode says what leaves its side alone
abbrev pub sent_test : (wr4 wr5 wr6 wr7 : Registers → ℕ → Bool) → Test
sent_test wr4 wr5 wr6 wr7 = record {
  wr0 = quiet_wr0;
  wr3 = quiet_auto;
  wr4 = wr4;
  wr5 = wr5;
  wr6 = wr6;
  wr7 = wr7;
  data_writes = false;
  data_reads = true;
  transmits = false;
  receives = true;
  lines = λ c dcd cts. quiet_cts c cts;
}

-- WR4: it is refused, or the mode stays
abbrev pub quiet_wr4 : Registers → ℕ → Bool
quiet_wr4 r v = not_built v || same_mode (mode_in r) (mode_of v)

-- SDLC sends by neither WR6 nor WR7
abbrev pub test : Test
test = sent_test quiet_wr4 quiet_wr5 (λ r v. true) (λ r v. true)

abbrev pub quiet : Which → Chip → Event → Bool
quiet w c e = quiet_by test w c e

-- It is enough, for every part that the sender and what it is told say

abbrev pub sent_part : {X : Type 0} → (Sending → Sender → X) → Part X
sent_part g r l s v q = g (sending_of r l) s

commanded_kept : {X : Type 0} (g : Sending → Sender → X) (c : Channel) (k : ℕ)
    → not (eqb k 1) ≡ true → KeptIn (sent_part g) c (commanded c k)
unfolding commanded
commanded_kept g c k n =
    let P = KeptIn (sent_part g) c in
    by_test P (eqb k 1) (λ t. refused_test n t)
    (λ t. if_elim P (eqb k 2) refl (if_elim P (eqb k 4) refl
    (if_elim P (eqb k 5) refl (if_elim P (eqb k 6) refl refl))))

preset_kept : {X : Type 0} (g : Sending → Sender → X) (c : Channel) (k : ℕ)
    → not (eqb k 2) ≡ true → not (eqb k 3) ≡ true → KeptIn (sent_part g) c (preset c k)
unfolding preset
preset_kept g c k n m =
    let P = KeptIn (sent_part g) c in
    if_elim P (eqb k 1) refl (by_test P (eqb k 2) (λ t. refused_test n t)
    (λ t. by_test P (eqb k 3) (λ u. refused_test m u) (λ u. refl)))

wr0_kept : {X : Type 0} (g : Sending → Sender → X) (c : Channel) (v : ℕ)
    → quiet_wr0 v ≡ true → KeptIn (sent_part g) c (write_wr0 c v)
unfolding write_wr0 command_step preset_step settled
wr0_kept g c v q =
    let a = not (eqb (command_in v) 1) in
    let b = not (eqb (command_in v) 3) in
    let d = not (eqb (preset_in v) 2) in
    let e = not (eqb (preset_in v) 3) in
    let l = both_left (a && b) (d && e) q in
    let r = both_right (a && b) (d && e) q in
    by_test (KeptIn (sent_part g) c) (eqb (command_in v) 3) (λ t. refused_test (both_right a b l) t)
    (λ t. preset_kept g (command_step c v) (preset_in v) (both_left d e r) (both_right d e r)
    ∙ commanded_kept g c (command_in v) (both_left a b l))

read_kept : {X : Type 0} (g : Sending → Sender → X) (c : Channel)
    → KeptIn (sent_part g) c (data_read c).channel
unfolding data_read
read_kept g c =
    if_elim (λ (x : Answered). KeptIn (sent_part g) c x.channel) (waits c.queue) refl refl

receive_kept : {X : Type 0} (g : Sending → Sender → X) (c : Channel) (b : Bool)
    → KeptIn (sent_part g) c (receive_tick c b)
unfolding receive_tick settled
receive_kept g c b = refl

wr1_kept : {X : Type 0} (g : Sending → Sender → X) (c : Channel) (v : ℕ)
    → KeptIn (sent_part g) c (set_wr1 c v)
unfolding sending_of
wr1_kept g c v = refl

wr2_kept : {X : Type 0} (g : Sending → Sender → X) (c : Channel) (s : Side) (v : ℕ)
    → KeptIn (sent_part g) c (set_wr2 c s v)
unfolding sending_of
wr2_kept g c channels.A v = refl
wr2_kept g c channels.B v = refl

-- what the sender is told; `enabled` is what auto enables leave of CTS
abbrev tells : Registers → Bool → Sending
tells r enabled =
    let on = sender_on r.wr5 && enabled in
    record {
      mode = mode_in r;
      broken = breaks r.wr5;
      framing = framing on (check_included r.wr5);
      typing = record {
        on = on;
        format = format_of r (sent_field r.wr5);
        stops = length (stop_bits (stops_of r.wr4));
      };
      syncing = syncing on (check_included r.wr5) (polynomial_in r) (syncs_in r);
    }

auto_kept : (r : Registers) (l : Lines) (v : ℕ) → quiet_auto r v ≡ true
    → sending_of (store3 r v) l ≡ sending_of r l
unfolding sending_of
auto_kept r l v q =
    ap (λ (t : Bool). tells r (not t || l.cts))
    (same_is (auto_enables v) (auto_enables r.wr3) q)

wr3_kept : {X : Type 0} (g : Sending → Sender → X) (c : Channel) (v : ℕ)
    → quiet_auto c.registers v ≡ true → KeptIn (sent_part g) c (set_wr3 c v)
wr3_kept g c v q =
    let k = ap (λ (x : Sending). g x c.sender) (auto_kept c.registers c.lines v q) in
    if_elim (KeptIn (sent_part g) c) (enters_hunt v && synchronous (mode_in c.registers)) k k

cts_kept : (r : Registers) (l m : Lines)
    → not (auto_enables r.wr3) || beq m.cts l.cts ≡ true
    → sending_of r m ≡ sending_of r l
unfolding sending_of
cts_kept r l m q = ap (tells r) (still_on (auto_enables r.wr3) m.cts l.cts q)

lines_kept : {X : Type 0} (g : Sending → Sender → X) (c : Channel) (dcd cts : Bool)
    → quiet_cts c cts ≡ true → KeptIn (sent_part g) c (lines_set c dcd cts)
unfolding lines_set settled
lines_kept g c dcd cts q =
    ap (λ (x : Sending). g x c.sender)
    (cts_kept c.registers c.lines (lines_set c dcd cts).lines q)

-- what a mode shows of its own: its four registers
pub sent_keeps : {X : Type 0} (g : Sending → Sender → X) (wr4 wr5 wr6 wr7 : Registers → ℕ → Bool)
    → ((c : Channel) (v : ℕ) → not_built v ≡ false → wr4 c.registers v ≡ true
    → KeptIn (sent_part g) c (set_wr4 c v))
    → ((c : Channel) (v : ℕ) → wr5 c.registers v ≡ true
    → KeptIn (sent_part g) c (with_registers c (store5 c.registers v)))
    → ((c : Channel) (v : ℕ) → wr6 c.registers v ≡ true
    → KeptIn (sent_part g) c (with_registers c (store6 c.registers v)))
    → ((c : Channel) (v : ℕ) → wr7 c.registers v ≡ true
    → KeptIn (sent_part g) c (with_registers c (store7 c.registers v)))
    → Keeps (sent_part g) (sent_test wr4 wr5 wr6 wr7)
sent_keeps g wr4 wr5 wr6 wr7 four five six seven = record {
  wr0 = wr0_kept g;
  wr1 = wr1_kept g;
  wr2 = wr2_kept g;
  wr3 = wr3_kept g;
  wr4 = four;
  wr5 = five;
  wr6 = six;
  wr7 = seven;
  data_writes = λ c v q. void q;
  data_reads = λ c q. read_kept g c;
  transmits = λ c q. void q;
  receives = λ c b q. receive_kept g c b;
  lines = lines_kept g;
}

-- and for SDLC's side

abbrev KeptSide : Channel → Channel → Type 0
KeptSide c x = KeptIn (sent_part part) c x

abbrev same_sender : Channel → Heeded → SenderSide
same_sender c h = side (framer_of c.sender) h

-- registers that say the same of sending
abbrev heeds : Mode → Bool → Bool → Bool → Heeded
heeds m broken on included = record { mode = m; broken = broken; framing = framing on included }

wr4_keeps : (r : Registers) (l : Lines) (v : ℕ) → mode_of v ≡ mode_in r
    → heeded (sending_of (store4 r v) l) ≡ heeded (sending_of r l)
unfolding sending_of
wr4_keeps r l v e =
    ap (λ (m : Mode). heeds m (breaks r.wr5) (sends r l) (check_included r.wr5)) e

wr4_kept : (c : Channel) (v : ℕ) → not_built v ≡ false
    → quiet_wr4 c.registers v ≡ true → KeptSide c (set_wr4 c v)
unfolding set_wr4
wr4_kept c v n q =
    let r = c.registers in
    let s : same_mode (mode_in r) (mode_of v) ≡ true = rw n at q in
    rw s (ap (same_sender c)
    (wr4_keeps r c.lines v (sym (mode_same (mode_in r) (mode_of v) s))))

wr5_kept : (c : Channel) (v : ℕ) → quiet_wr5 c.registers v ≡ true
    → KeptSide c (with_registers c (store5 c.registers v))
unfolding sending_of
wr5_kept c v q =
    let r = c.registers in
    let a = beq (check_included v) (check_included r.wr5) in
    let b = beq (sender_on v) (sender_on r.wr5) in
    let d = beq (breaks v) (breaks r.wr5) in
    let rest = both_right a (b && d) q in
    let included = same_is (check_included v) (check_included r.wr5) (both_left a (b && d) q) in
    let on = same_is (sender_on v) (sender_on r.wr5) (both_left b d rest) in
    let broken = same_is (breaks v) (breaks r.wr5) (both_right b d rest) in
    λ j. same_sender c (heeds (mode_in r) (broken j)
    (on j && (not (auto_enables r.wr3) || c.lines.cts)) (included j))

wr6_kept : (c : Channel) (v : ℕ) → KeptSide c (with_registers c (store6 c.registers v))
unfolding sending_of
wr6_kept c v = refl

wr7_kept : (c : Channel) (v : ℕ) → KeptSide c (with_registers c (store7 c.registers v))
unfolding sending_of
wr7_kept c v = refl

keeps : Keeps (sent_part part) test
keeps =
    sent_keeps part quiet_wr4 quiet_wr5 (λ r v. true) (λ r v. true) wr4_kept wr5_kept
    (λ c v q. wr6_kept c v) (λ c v q. wr7_kept c v)

-- a quiet event leaves the sender's side as it was
pub quiet_keeps : (w : Which) (c : Chip) (e : Event) → quiet w c e ≡ true
    → side_of w (happens c e).chip ≡ side_of w c
quiet_keeps w c e q = quiet_kept (sent_part part) test keeps w c e q
