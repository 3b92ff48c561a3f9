-- Which events leave the sender's side of a channel as it was: a test that a reader can run, and
-- the proof that it is enough. Assumes nothing.
use Rattle.std.specs.Prelude.{◌≡◌, Bool, true, false, not, ◌&&◌, ◌||◌, ℕ}
use Rattle.std.specs.Bool.{beq}
use Rattle.common.specs.Tools.{void, both_left, both_right}
use Rattle.bytesync.specs.Syncs.{polynomial_of}
use Rattle.bytesync.specs.Sending.{syncing}
use Rattle.blocks.specs.Come.{sends}
use Rattle.settings.specs.declared.Registers.{Registers}
use Rattle.settings.specs.Settings.{store5, auto_enables, check_included, crc16_chosen, sender_on}
use Rattle.settings.specs.Settings.{breaks, mode_in, syncs_in, sending_of}
use Rattle.channel.specs.declared.Channel.{Channel}
use Rattle.channel.specs.Channel.{with_registers}
use Rattle.chip.specs.declared.Chip.{Chip}
use Rattle.chip.specs.Event.{Event}
use Rattle.stories.specs.Story.{Which, happens}
use Rattle.history.specs.Tools.{same_is}
use Rattle.history.specs.Quiet.{Test, quiet_by, KeptIn, Keeps, quiet_kept}
use Rattle.history.specs.Sending.Quiet.{sent_test, sent_part, sent_keeps}
use Rattle.dispatch.specs.Side.{SenderSide, side, part, side_of}

-- The test

-- check included, polynomial, on and break stay
abbrev pub quiet_wr5 : Registers → ℕ → Bool
quiet_wr5 r v =
    beq (check_included v) (check_included r.wr5)
    && (beq (crc16_chosen v) (crc16_chosen r.wr5)
    && (beq (sender_on v) (sender_on r.wr5) && beq (breaks v) (breaks r.wr5)))

-- the mode stays, and both sync characters
abbrev pub test : Test
test = sent_test (λ r v. false) quiet_wr5 (λ r v. false) (λ r v. false)

abbrev pub quiet : Which → Chip → Event → Bool
quiet w c e = quiet_by test w c e

-- It is enough

-- the side, by what WR5 says; `enabled` is what auto enables leave
abbrev told : Channel → Bool → Bool → Bool → Bool → Bool → SenderSide
told c broken on enabled included d2 =
    let r = c.registers in
    side (sends c.sender.block c.sender.shared) (record {
      mode = mode_in r;
      broken = broken;
      syncing = syncing (on && enabled) included (polynomial_of d2) (syncs_in r);
    })

wr5_kept : (c : Channel) (v : ℕ) → quiet_wr5 c.registers v ≡ true
    → KeptIn (sent_part part) c (with_registers c (store5 c.registers v))
unfolding sending_of
wr5_kept c v q =
    let r = c.registers in
    let a = beq (check_included v) (check_included r.wr5) in
    let b = beq (crc16_chosen v) (crc16_chosen r.wr5) in
    let d = beq (sender_on v) (sender_on r.wr5) in
    let e = beq (breaks v) (breaks r.wr5) in
    let rest = both_right a (b && (d && e)) q in
    let last = both_right b (d && e) rest in
    let included = same_is (check_included v) (check_included r.wr5) (both_left a (b && (d && e)) q) in
    let d2 = same_is (crc16_chosen v) (crc16_chosen r.wr5) (both_left b (d && e) rest) in
    let on = same_is (sender_on v) (sender_on r.wr5) (both_left d e last) in
    let broken = same_is (breaks v) (breaks r.wr5) (both_right d e last) in
    λ i. told c (broken i) (on i) (not (auto_enables r.wr3) || c.lines.cts) (included i) (d2 i)

keeps : Keeps (sent_part part) test
keeps =
    sent_keeps part (λ r v. false) quiet_wr5 (λ r v. false) (λ r v. false) (λ c v n q. void q)
    wr5_kept (λ c v q. void q) (λ c v q. void q)

pub quiet_keeps : (w : Which) (c : Chip) (e : Event) → quiet w c e ≡ true
    → side_of w (happens c e).chip ≡ side_of w c
quiet_keeps w c e q = quiet_kept (sent_part part) test keeps w c e q
