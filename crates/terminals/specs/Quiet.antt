-- Which events leave the receiving side of a channel as it was: a test that a reader can run, and
-- the proof that it is enough. Of its own a mode here says WR3, WR5 and WR7; WR3 D3 may be written
-- as the host likes. Assumes nothing.
use Rattle.std.specs.Prelude.{◌≡◌, Bool, true, false, not, ◌&&◌, ◌||◌, ℕ, if◌then◌else◌}
use Rattle.std.proofs.Common.{ap, ◌∙◌}
use Rattle.std.specs.Bool.{beq}
use Rattle.common.specs.Mode.{synchronous}
use Rattle.common.specs.Tools.{void, both_left, both_right, not_true}
use Rattle.bytesync.specs.Syncs.{polynomial_of}
use Rattle.receiver.specs.Receiver.{enter_hunt}
use Rattle.settings.specs.declared.Registers.{Registers}
use Rattle.settings.specs.Settings.{store3, store5, receiver_on, strips_syncs, enters_hunt}
use Rattle.settings.specs.Settings.{auto_enables, crc16_chosen, mode_in, syncs_in, receiving_of}
use Rattle.channel.specs.declared.Channel.{Channel}
use Rattle.channel.specs.Channel.{with_registers, with_receiver}
use Rattle.channel.specs.Control.{set_wr3}
use Rattle.chip.specs.declared.Chip.{Chip}
use Rattle.chip.specs.Event.{Event}
use Rattle.stories.specs.Story.{Which, happens}
use Rattle.history.specs.Tools.{same_is}
use Rattle.history.specs.Quiet.{Test, quiet_by, KeptIn, Keeps, quiet_kept}
use Rattle.history.specs.Receiving.Quiet.{heard_test, heard_part, heard_keeps}
use Rattle.terminals.specs.Side.{Side, side, part, side_in, side_of}

-- The test

-- on, WR3 D1 and auto enables stay, and hunt is not entered
abbrev pub quiet_wr3 : Registers → ℕ → Bool
quiet_wr3 r v =
    not (enters_hunt v)
    && (beq (receiver_on v) (receiver_on r.wr3)
    && (beq (strips_syncs v) (strips_syncs r.wr3)
    && beq (auto_enables v) (auto_enables r.wr3)))

-- the polynomial stays
abbrev pub quiet_wr5 : Registers → ℕ → Bool
quiet_wr5 r v = beq (crc16_chosen v) (crc16_chosen r.wr5)

abbrev pub test : Test
test = heard_test quiet_wr3 quiet_wr5 (λ r v. false)

abbrev pub quiet : Which → Chip → Event → Bool
quiet w c e = quiet_by test w c e

-- It is enough

abbrev KeptSide : Channel → Channel → Type 0
KeptSide c x = KeptIn (heard_part part) c x

-- the side, by what WR3 and WR5 say; `enabled` is what auto enables leave
abbrev told : Channel → Bool → Bool → Bool → Bool → Side
told c on strip enabled d2 =
    let r = c.registers in
    side c.receiver.reception c.receiver.check c.queue (record {
      mode = mode_in r;
      on = on && enabled;
      matching = record {
        syncs = syncs_in r;
        strip = strip;
        checking = false;
        polynomial = polynomial_of d2;
      };
    })

-- Enter Hunt clear: the register alone is written
wr3_written : (c : Channel) (v : ℕ) → enters_hunt v ≡ false
    → set_wr3 c v ≡ with_registers c (store3 c.registers v)
wr3_written c v h =
    let d = with_registers c (store3 c.registers v) in
    let s = synchronous (mode_in c.registers) in
    ap (λ (b : Bool). if b && s then with_receiver d (enter_hunt c.receiver) else d) h

wr3_kept : (c : Channel) (v : ℕ) → quiet_wr3 c.registers v ≡ true → KeptSide c (set_wr3 c v)
unfolding receiving_of
wr3_kept c v q =
    let r = c.registers in
    let a = not (enters_hunt v) in
    let b = beq (receiver_on v) (receiver_on r.wr3) in
    let d = beq (strips_syncs v) (strips_syncs r.wr3) in
    let e = beq (auto_enables v) (auto_enables r.wr3) in
    let rest = both_right a (b && (d && e)) q in
    let last = both_right b (d && e) rest in
    let on = same_is (receiver_on v) (receiver_on r.wr3) (both_left b (d && e) rest) in
    let strip = same_is (strips_syncs v) (strips_syncs r.wr3) (both_left d e last) in
    let auto = same_is (auto_enables v) (auto_enables r.wr3) (both_right d e last) in
    ap side_in (wr3_written c v (not_true (enters_hunt v) (both_left a (b && (d && e)) q)))
    ∙ (λ i. told c (on i) (strip i) (not (auto i) || c.lines.dcd) (crc16_chosen r.wr5))

wr5_kept : (c : Channel) (v : ℕ) → quiet_wr5 c.registers v ≡ true
    → KeptSide c (with_registers c (store5 c.registers v))
unfolding receiving_of
wr5_kept c v q =
    let r = c.registers in
    ap (told c (receiver_on r.wr3) (strips_syncs r.wr3)
    (not (auto_enables r.wr3) || c.lines.dcd))
    (same_is (crc16_chosen v) (crc16_chosen r.wr5) q)

keeps : Keeps (heard_part part) test
keeps = heard_keeps part quiet_wr3 quiet_wr5 (λ r v. false) wr3_kept wr5_kept (λ c v q. void q)

pub quiet_keeps : (w : Which) (c : Chip) (e : Event) → quiet w c e ≡ true
    → side_of w (happens c e).chip ≡ side_of w c
quiet_keeps w c e q = quiet_kept (heard_part part) test keeps w c e q
