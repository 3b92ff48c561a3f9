-- Which events leave the receiving side of a channel as it was: a test that a reader can run, and
-- the proof that it is enough, for every part that receiver, queue and what the receiver is told
-- say. Assumes nothing.
use Rattle.std.specs.Prelude.{◌≡◌, refl, Bool, true, false, not, ◌&&◌, ◌||◌, ℕ, eqb}
use Rattle.std.proofs.Common.{ap, ◌∙◌}
use Rattle.std.specs.Bool.{beq}
use Rattle.common.specs.Tools.{by_test, if_elim, void, both_left, both_right}
use Rattle.queue.specs.declared.Queue.{Queue}
use Rattle.bytesync.specs.Hearing.{matching}
use Rattle.receiver.specs.declared.Receiver.{Receiver}
use Rattle.receiver.specs.declared.Receiving.{Receiving}
use Rattle.settings.specs.declared.Registers.{Registers}
use Rattle.settings.specs.declared.Lines.{Lines}
use Rattle.settings.specs.Settings.{store5, store7, command_in, preset_in, receiver_on, strips_syncs}
use Rattle.settings.specs.Settings.{searches, lets_in, auto_enables, heard_field, mode_in, syncs_in}
use Rattle.settings.specs.Settings.{polynomial_in, format_of, receiving_of}
use Rattle.channel.specs.declared.Side as channel
use Rattle.channel.specs.declared.Side.TheVariants as channels
use Rattle.channel.specs.declared.Channel.{Channel}
use Rattle.channel.specs.Channel.{with_registers, settled}
use Rattle.channel.specs.Control.{commanded, preset, command_step, preset_step, write_wr0, set_wr1}
use Rattle.channel.specs.Control.{set_wr2, set_wr3}
use Rattle.channel.specs.Events.{data_written, transmit_tick, lines_set}
use Rattle.chip.specs.declared.Chip.{Chip}
use Rattle.chip.specs.Event.{Event}
use Rattle.stories.specs.Story.{Which, happens}
use Rattle.common.specs.Tools.{refused_test}
use Rattle.history.specs.Tools.{still_on}
use Rattle.history.specs.Quiet.{Test, quiet_by, Part, KeptIn, Keeps, quiet_kept}
use Rattle.history.specs.Receiving.Side.{part, side_of}

-- The test

-- WR0: neither Channel Reset nor Error Reset, and no preset of the receive check
abbrev pub quiet_wr0 : ℕ → Bool
quiet_wr0 v = not (eqb (command_in v) 3) && (not (eqb (command_in v) 6) && not (eqb (preset_in v) 1))

-- with auto enables DCD has to stay as it is
abbrev pub quiet_dcd : Channel → Bool → Bool
quiet_dcd c dcd = not (auto_enables c.registers.wr3) || beq dcd c.lines.dcd

-- all but receive ticks and data reads, and what writes its receiver or queue or sets it anew: WR4
-- and WR6 do; of WR3, WR5 and WR7 each mode says what leaves its side alone
abbrev pub heard_test : (wr3 wr5 wr7 : Registers → ℕ → Bool) → Test
heard_test wr3 wr5 wr7 = record {
  wr0 = quiet_wr0;
  wr3 = wr3;
  wr4 = λ r v. false;
  wr5 = wr5;
  wr6 = λ r v. false;
  wr7 = wr7;
  data_writes = true;
  data_reads = false;
  transmits = true;
  receives = false;
  lines = λ c dcd cts. quiet_dcd c dcd;
}

-- SDLC reads WR3, and neither WR5 nor WR7
abbrev pub test : Test
test = heard_test (λ r v. false) (λ r v. true) (λ r v. true)

abbrev pub quiet : Which → Chip → Event → Bool
quiet w c e = quiet_by test w c e

-- It is enough, for every part that receiver, queue and what the receiver is told say

abbrev pub heard_part : {X : Type 0} → (Receiving → Receiver → Queue → X) → Part X
heard_part g r l s v q = g (receiving_of r l) v q

commanded_kept : {X : Type 0} (g : Receiving → Receiver → Queue → X) (c : Channel) (k : ℕ)
    → not (eqb k 6) ≡ true → KeptIn (heard_part g) c (commanded c k)
unfolding commanded
commanded_kept g c k n =
    let P = KeptIn (heard_part g) c in
    if_elim P (eqb k 1) refl (if_elim P (eqb k 2) refl (if_elim P (eqb k 4) refl
    (if_elim P (eqb k 5) refl (by_test P (eqb k 6) (λ t. refused_test n t) (λ t. refl)))))

preset_kept : {X : Type 0} (g : Receiving → Receiver → Queue → X) (c : Channel) (k : ℕ)
    → not (eqb k 1) ≡ true → KeptIn (heard_part g) c (preset c k)
unfolding preset
preset_kept g c k n =
    let P = KeptIn (heard_part g) c in
    by_test P (eqb k 1) (λ t. refused_test n t)
    (λ t. if_elim P (eqb k 2) refl (if_elim P (eqb k 3) refl refl))

wr0_kept : {X : Type 0} (g : Receiving → Receiver → Queue → X) (c : Channel) (v : ℕ)
    → quiet_wr0 v ≡ true → KeptIn (heard_part g) c (write_wr0 c v)
unfolding write_wr0 preset_step command_step settled
wr0_kept g c v q =
    let a = not (eqb (command_in v) 3) in
    let b = not (eqb (command_in v) 6) in
    let d = not (eqb (preset_in v) 1) in
    let r = both_right a (b && d) q in
    by_test (KeptIn (heard_part g) c) (eqb (command_in v) 3)
    (λ t. refused_test (both_left a (b && d) q) t)
    (λ t. preset_kept g (command_step c v) (preset_in v) (both_right b d r)
    ∙ commanded_kept g c (command_in v) (both_left b d r))

wr1_kept : {X : Type 0} (g : Receiving → Receiver → Queue → X) (c : Channel) (v : ℕ)
    → KeptIn (heard_part g) c (set_wr1 c v)
unfolding receiving_of
wr1_kept g c v = refl

wr2_kept : {X : Type 0} (g : Receiving → Receiver → Queue → X) (c : Channel) (w : channel.Side)
    (v : ℕ) → KeptIn (heard_part g) c (set_wr2 c w v)
unfolding receiving_of
wr2_kept g c channels.A v = refl
wr2_kept g c channels.B v = refl

write_kept : {X : Type 0} (g : Receiving → Receiver → Queue → X) (c : Channel) (v : ℕ)
    → KeptIn (heard_part g) c (data_written c v)
write_kept g c v = refl

transmit_kept : {X : Type 0} (g : Receiving → Receiver → Queue → X) (c : Channel)
    → KeptIn (heard_part g) c (transmit_tick c).channel
unfolding transmit_tick settled
transmit_kept g c = refl

-- the receiver is told the same
dcd_kept : (r : Registers) (l m : Lines)
    → not (auto_enables r.wr3) || beq m.dcd l.dcd ≡ true
    → receiving_of r m ≡ receiving_of r l
unfolding receiving_of
dcd_kept r l m q =
    ap (λ (b : Bool). record {
      mode = mode_in r;
      on = receiver_on r.wr3 && b;
      addressing = record { search = searches r.wr3; address = r.wr6 };
      format = format_of r (heard_field r.wr3);
      matching = matching (syncs_in r) (strips_syncs r.wr3) (lets_in r.wr3) (polynomial_in r);
    }) (still_on (auto_enables r.wr3) m.dcd l.dcd q)

lines_kept : {X : Type 0} (g : Receiving → Receiver → Queue → X) (c : Channel) (d t : Bool)
    → quiet_dcd c d ≡ true → KeptIn (heard_part g) c (lines_set c d t)
unfolding lines_set settled
lines_kept g c d t q =
    ap (λ (x : Receiving). g x c.receiver c.queue)
    (dcd_kept c.registers c.lines (lines_set c d t).lines q)

-- what a mode shows of its own: its three registers
pub heard_keeps : {X : Type 0} (g : Receiving → Receiver → Queue → X)
    (wr3 wr5 wr7 : Registers → ℕ → Bool)
    → ((c : Channel) (v : ℕ) → wr3 c.registers v ≡ true → KeptIn (heard_part g) c (set_wr3 c v))
    → ((c : Channel) (v : ℕ) → wr5 c.registers v ≡ true
    → KeptIn (heard_part g) c (with_registers c (store5 c.registers v)))
    → ((c : Channel) (v : ℕ) → wr7 c.registers v ≡ true
    → KeptIn (heard_part g) c (with_registers c (store7 c.registers v)))
    → Keeps (heard_part g) (heard_test wr3 wr5 wr7)
heard_keeps g wr3 wr5 wr7 three five seven = record {
  wr0 = wr0_kept g;
  wr1 = wr1_kept g;
  wr2 = wr2_kept g;
  wr3 = three;
  wr4 = λ c v n q. void q;
  wr5 = five;
  wr6 = λ c v q. void q;
  wr7 = seven;
  data_writes = λ c v q. write_kept g c v;
  data_reads = λ c q. void q;
  transmits = λ c q. transmit_kept g c;
  receives = λ c b q. void q;
  lines = lines_kept g;
}

-- and for SDLC's side

wr5_kept : (c : Channel) (v : ℕ)
    → KeptIn (heard_part part) c (with_registers c (store5 c.registers v))
unfolding receiving_of
wr5_kept c v = refl

wr7_kept : (c : Channel) (v : ℕ)
    → KeptIn (heard_part part) c (with_registers c (store7 c.registers v))
unfolding receiving_of
wr7_kept c v = refl

keeps : Keeps (heard_part part) test
keeps =
    heard_keeps part (λ r v. false) (λ r v. true) (λ r v. true) (λ c v q. void q)
    (λ c v q. wr5_kept c v) (λ c v q. wr7_kept c v)

pub quiet_keeps : (w : Which) (c : Chip) (e : Event) → quiet w c e ≡ true
    → side_of w (happens c e).chip ≡ side_of w c
quiet_keeps w c e q = quiet_kept (heard_part part) test keeps w c e q
