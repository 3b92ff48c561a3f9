-- The stories of demand 3, computed to meet what it asks: one in time amid all sorts of other
-- events, one at the last moment, one with an underrun; and stories that do not meet it. Then the
-- theorems, said of them. Assumes nothing.
use Rattle.std.specs.Prelude.{◌≡◌, refl, true, false, List, [], ◌∷◌, ◌++◌, ℕ, ◌-◌, take}
use Rattle.std.proofs.Common.{arith}
use Rattle.line.specs.Bits.{low_bits, text_bits}
use Rattle.line.specs.Check.{ones, check_step, check_over, top_bits, check_bits}
use Rattle.line.specs.Insertion.{stuff, zeros}
use Rattle.line.specs.Frame.{frame}
use Rattle.sdlc.specs.declared.LineUnit.TheVariants.{Flag}
use Rattle.sender.specs.Good.{Good}
use Rattle.chip.specs.Computing.{computing}
use Rattle.chip.specs.Event.{Event, ControlWrite, DataWrite, Transmit}
use Rattle.whole.specs.Start.{flag_head}
use Rattle.whole.specs.Heard.{hear_all}
use Rattle.stories.specs.Story.{A, chan, happens, after, throughout}
use Rattle.settings.specs.Bytes.{reset_status, clear_underrun}
use Rattle.stories.specs.Sent.{line_of, ticks, d6}
use Rattle.stories.specs.Sending.{times, tick, set_up, begin, noisy, dry, late, whole, choosing}
use Rattle.stories.specs.Sending.{held, begun, told}
use Rattle.history.specs.Sound.{reset_sound}
use Rattle.history.specs.Sending.Side.{sending_in, full_of, latch_of}
use Rattle.timely.specs.Start.{Start, start_of}
use Rattle.history.specs.Sending.Stories.{anew}
use Rattle.sending.specs.Statement.{Closing, RunsDry, Underrun, status_latched}
use Rattle.sending.specs.Statement.{NotClosed}
use Rattle.sending.specs.Frame.{frame_begun}
use Rattle.sending.specs.Chain.{starts_anew, frame_ends}
use Rattle.sending.proofs.Underrun.{underrun, late_sent, underrun_seen}
use Rattle.sending.proofs.Underrun.{reset_shows, never_unseen}
use Rattle.sending.proofs.Unclosed.{frame_seen}
use Rattle.timely.specs.Tests.{timely, in_time_lem, freely, free_of}
use Rattle.sending.specs.Tests.{demand3_tested, watching, watched_of}

-- the second byte k ticks behind the one that loaded the first
abbrev pub second : ℕ → List Event
second k = DataWrite 0 0 ∷ (times 6 tick ++ (times k tick ++ (DataWrite 0 0 ∷ times 32 tick)))

pub record Examples : Type 0 where
  -- within a flag, the buffer empty, the check preset, the latch cleared
  pub flag : (chan A begin).sender.unit ≡ Flag (8 - 3)
  pub empty : full_of A begin ≡ false
  pub preset : (chan A begin).sender.shared.check ≡ ones
  pub latch_cleared_lem : latch_of A begin ≡ false
  pub settings : Good (sending_in (chan A begin))
  -- in time, though it is amid all that
  pub noisy_timely : timely A begin 2 (255 ∷ 136 ∷ []) noisy ≡ true
  pub noisy_end : (full_of A (after begin noisy) ≡ false) × ((chan A (after begin noisy)).pointer ≡ 0)
  -- seven ticks may pass, the eighth may not
  pub seven : timely A begin 2 (0 ∷ 0 ∷ []) (second 7) ≡ true
  pub eight : timely A begin 2 (0 ∷ 0 ∷ []) (second 8) ≡ false
  -- the first byte comes with the flag's last bit, and a tick later
  pub first : timely A begin 2 (0 ∷ []) (times 5 tick ++ (DataWrite 0 0 ∷ [])) ≡ true
  pub first_late : timely A begin 2 (0 ∷ []) (times 6 tick ++ (DataWrite 0 0 ∷ [])) ≡ false
  -- a WR5 write that turns the check off, and a clearing of the latch, are not quiet
  pub touched : timely A begin 2 (0 ∷ [])
      (DataWrite 0 0 ∷ ControlWrite 0 5 ∷ ControlWrite 0 0b1000 ∷ []) ≡ false
  pub cleared :
      timely A begin 2 (0 ∷ []) (DataWrite 0 0 ∷ ControlWrite 0 clear_underrun ∷ []) ≡ false
  -- the line runs dry, and a byte comes too late
  pub dry_timely : timely A begin 2 (0 ∷ []) dry ≡ true
  pub runs_dry : RunsDry A choosing
  pub unlatched : status_latched A choosing ≡ false
  pub at_wr0 : ((chan A choosing).pointer ≡ 0)
      × ((chan A (after choosing (Transmit 0 ∷ late))).pointer ≡ 0)
  pub late_free : freely A (happens choosing (Transmit 0)).chip late ≡ true
  pub dry_watched : watching A begin dry ≡ true
  pub late_watched : watching A begin whole ≡ true
  pub late_wr0 : (chan A (after begin whole)).pointer ≡ 0
  pub held_set : ((chan A held).pointer ≡ 0) × (latch_of A held ≡ true)
  -- a frame that is begun
  pub begun_timely : timely A begin 2 (1 ∷ 2 ∷ []) begun ≡ true

pub examples : Examples
unfolding computing timely throughout hear_all times line_of ticks after zeros
examples = record {
  flag = refl;
  empty = refl;
  preset = refl;
  latch_cleared_lem = refl;
  settings = record { sdlc_mode_lem = refl; on = refl; included = refl; no_break = refl };
  noisy_timely = refl;
  noisy_end = (refl, refl);
  seven = refl;
  eight = refl;
  first = refl;
  first_late = refl;
  touched = refl;
  cleared = refl;
  dry_timely = refl;
  runs_dry = record {
    last = 0;
    byte = refl;
    paid = refl;
    empty = refl;
    cleared = refl;
    settings = record { sdlc_mode_lem = refl; on = refl; included = refl; no_break = refl };
  };
  unlatched = refl;
  at_wr0 = (refl, refl);
  late_free = refl;
  dry_watched = refl;
  late_watched = refl;
  late_wr0 = refl;
  held_set = (refl, refl);
  begun_timely = refl;
}

-- the theorems speak of these stories

pub starts : Start A begin 3
starts =
    start_of A begin 3 (reset_sound set_up) (omega arith) (omega arith) examples.flag
    examples.empty examples.preset examples.latch_cleared_lem
    examples.settings

noisy_sent : flag_head 3 ++ line_of A begin noisy ≡ frame (255 ∷ 136 ∷ [])
unfolding ticks times stuff zeros text_bits low_bits check_over check_step check_bits top_bits
noisy_sent = demand3_tested A begin 3 255 (136 ∷ []) noisy starts examples.noisy_timely refl

noisy_ends : Closing A (after begin noisy) 8
unfolding ticks times stuff zeros text_bits low_bits check_over check_step check_bits top_bits
noisy_ends =
    frame_ends A begin 3 255 (136 ∷ []) noisy starts
    (in_time_lem A begin 2 (255 ∷ 136 ∷ []) noisy examples.noisy_timely) refl
    examples.noisy_end.0 examples.noisy_end.1

next_starts : Start A (after (after begin noisy) (anew A)) 8
next_starts = starts_anew A (after begin noisy) 8 noisy_ends

begun_sent : flag_head 3 ++ line_of A begin begun ≡ take 20 (frame (1 ∷ 2 ∷ []))
unfolding ticks times stuff zeros text_bits low_bits check_over check_step check_bits top_bits
begun_sent =
    frame_begun A begin 3 1 (2 ∷ []) [] begun starts
    (in_time_lem A begin 2 (1 ∷ 2 ∷ []) begun examples.begun_timely) (omega arith)

dry_underrun : Underrun A choosing
dry_underrun = underrun A choosing examples.at_wr0.0 examples.runs_dry

late_frame : flag_head 3 ++ line_of A begin whole ≡ frame (0 ∷ [])
unfolding ticks times stuff zeros text_bits low_bits check_over check_step check_bits top_bits
late_frame =
    late_sent A begin 3 0 [] dry late starts (in_time_lem A begin 2 (0 ∷ []) dry examples.dry_timely)
    examples.runs_dry
    (free_of A (happens choosing (Transmit 0)).chip late examples.late_free) refl

late_seen : d6 A (after choosing (Transmit 0 ∷ late)) ≡ true
late_seen =
    underrun_seen A choosing late examples.runs_dry examples.unlatched
    (free_of A (happens choosing (Transmit 0)).chip late examples.late_free)
    examples.at_wr0.1

held_shown : d6 A (happens held (ControlWrite 0 reset_status)).chip ≡ true
held_shown = reset_shows A held examples.held_set.0 examples.held_set.1

dry_open : NotClosed A choosing
dry_open =
    never_unseen A begin 3 dry starts (watched_of A begin dry examples.dry_watched)
    examples.at_wr0.0 told.before_choice

frame_shows : d6 A (after begin whole) ≡ true
frame_shows =
    frame_seen A begin 3 whole (0 ∷ []) starts (watched_of A begin whole examples.late_watched)
    examples.late_wr0 told.late_line
