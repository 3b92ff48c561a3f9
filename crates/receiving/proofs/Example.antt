-- The stories of demand 2, computed to meet what it asks: marked example 4 with other events behind
-- every bit, with RR1 read at its last character, with a bit flipped; two notes in a row; and
-- stories that do not meet it. Then the theorems, said of them. Assumes nothing.
use Rattle.std.specs.Prelude.{◌≡◌, refl, true, false, List, [], ◌∷◌, ◌++◌, ℕ, ◌+◌, eqb, length, if◌then◌else◌}
use Rattle.std.proofs.Common.{ap, ◌∙◌, arith}
use Rattle.line.specs.Frame.{flag_bits, content_of, frame, check_bytes, with_check}
use Rattle.line.specs.Bits.{below_none as none, below_more as more}
use Rattle.queue.specs.Queue.{waits}
use Rattle.channel.specs.declared.Answer.TheVariants.{Gave}
use Rattle.chip.specs.Computing.{computing}
use Rattle.chip.specs.declared.Chip.{Chip}
use Rattle.chip.specs.Event.{Event, ControlWrite, ControlRead, DataRead}
use Rattle.stories.specs.Story.{A, chan, happens, after, throughout}
use Rattle.stories.specs.Received.{bits_of, values_of, bytes_of, good_end, no_end}
use Rattle.stories.specs.Receiving.{listening, story, noise, noisy, unread, named, unflipped}
use Rattle.stories.specs.Receiving.{flipped_line, told}
use Rattle.whole.specs.Heard.{in_hunt}
use Rattle.whole.specs.Frames.{ended, between_flags, frames_of, all_ended, no_more, one_more_lem}
use Rattle.history.specs.Receiving.Side.{side_of}
use Rattle.receiving.specs.Statement.{Listening, Received, Moment, Found}
use Rattle.receiving.proofs.Room.{in_room, fed, demand2_run}
use Rattle.receiving.proofs.Demand.{listens_again, notes2, always2, overrun_kept, mark2}
use Rattle.receiving.proofs.Flip.{flipped2}

-- what is left once RR1 is named
abbrev pub looks : List Event
looks = ControlRead 0 ∷ DataRead 0 ∷ []

-- two notes, the closing flag of the first the opening flag of the second
abbrev pub notes : List (List ℕ)
notes = (0xFF ∷ []) ∷ (0x88 ∷ []) ∷ []

abbrev pub twice : List Event
twice = story A noise (flag_bits ++ frames_of notes)

abbrev pub flipped : List Event
flipped = story A noise flipped_line

abbrev pub begin : Chip
begin = listening A

pub record Examples : Type 0 where
  pub listens : Listening (side_of A begin)
  pub room : in_room A begin noisy ≡ true
  -- FF with its check; behind the story nothing waits
  pub check : with_check (0xFF ∷ []) ≡ 0xFF ∷ 0x00 ∷ 0xFF ∷ []
  pub all_read_lem : (chan A (after begin noisy)).queue.count ≡ 0
  -- three may wait unread, and a fourth finds no room
  pub three : in_room A begin unread ≡ true
  pub fourth : in_room A begin (story A [] (frame (0xFF ∷ 0x88 ∷ []))) ≡ false
  -- a WR3 write is not quiet, whatever it writes
  pub touched : in_room A begin
      (story A (ControlWrite 0 3 ∷ ControlWrite 0 0b1 ∷ []) (frame (0xFF ∷ []))) ≡ false
  pub named_room : in_room A begin (named ++ looks) ≡ true
  pub named_bits : bits_of A (named ++ looks) ≡ frame (0xFF ∷ [])
  pub no_latch : ((chan A begin).queue.parity ≡ false) × ((chan A begin).queue.overrun ≡ false)
  pub last_waits : waits (chan A (after begin named)).queue ≡ true
  pub rr1_named : (chan A (after begin named)).pointer ≡ 1
  pub two_read : length (values_of A begin named) ≡ 2
  pub twice_room : in_room A begin twice ≡ true
  pub twice_bits : bits_of A twice ≡ flag_bits ++ frames_of notes
  pub content : content_of (0xFF ∷ []) ≡ true ∷ unflipped
  pub flipped_room : in_room A begin flipped ≡ true
  pub flipped_bits : bits_of A flipped ≡ between_flags (false ∷ unflipped)

pub examples : Examples
unfolding computing throughout bits_of values_of frames_of story check_bytes after
examples = record {
  listens = record {
    mode = refl;
    on = refl;
    search = refl;
    empty = refl;
    three = refl;
    start = in_hunt refl;
  };
  room = refl;
  check = refl;
  all_read_lem = refl;
  three = refl;
  fourth = refl;
  touched = refl;
  named_room = refl;
  named_bits = refl;
  no_latch = (refl, refl);
  last_waits = refl;
  rr1_named = refl;
  two_read = refl;
  twice_room = refl;
  twice_bits = refl;
  content = refl;
  flipped_room = refl;
  flipped_bits = refl;
}

-- the theorems speak of these stories

pub noisy_received : Received A begin noisy (with_check (0xFF ∷ []))
    (ended false (with_check (0xFF ∷ [])))
noisy_received =
    demand2_run A begin noisy (0xFF ∷ []) examples.listens (omega arith)
    (more (omega arith) none) examples.room told.noisy_bits

noisy_listens : Listening (side_of A (after begin noisy))
noisy_listens =
    listens_again A begin noisy (with_check (0xFF ∷ [])) (ended false (with_check (0xFF ∷ [])))
    examples.listens noisy_received examples.all_read_lem

named_moment : Moment A begin named (ended false (with_check (0xFF ∷ [])))
named_moment =
    always2 A begin named looks (0xFF ∷ []) examples.listens (omega arith)
    (more (omega arith) none) (fed A begin (named ++ looks) examples.named_room)
    examples.named_bits

named_overrun : (chan A (after begin named)).queue.overrun ≡ (chan A begin).queue.overrun
named_overrun = overrun_kept A begin named (ended false (with_check (0xFF ∷ []))) named_moment

named_mark : (happens (after begin named) (ControlRead 0)).answer ≡ Gave good_end
named_mark =
    mark2 A begin named looks (0xFF ∷ []) examples.listens (omega arith)
    (more (omega arith) none) (fed A begin (named ++ looks) examples.named_room)
    examples.named_bits examples.no_latch.0 examples.no_latch.1 examples.last_waits
    examples.rr1_named
    ∙ ap (λ (n : ℕ). Gave (if eqb (n + 1) 3 then good_end else no_end)) examples.two_read

twice_received : Received A begin twice (bytes_of (all_ended notes)) (all_ended notes)
twice_received =
    notes2 A begin twice notes examples.listens
    (one_more_lem (more (omega arith) none) (one_more_lem (more (omega arith) none) no_more))
    (fed A begin twice examples.twice_room) examples.twice_bits

flip_found : Found A begin flipped 3
flip_found =
    flipped2 A begin flipped (0xFF ∷ []) [] unflipped true examples.listens
    (fed A begin flipped examples.flipped_room) examples.content
    examples.flipped_bits
