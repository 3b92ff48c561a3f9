-- Demand 3's host, which writes in time by the eight-tick rule, over the events of the chip and for
-- either channel w. Assumes nothing.
use Rattle.std.specs.Prelude.{◌≡◌, true, false, List, [], ◌∷◌, ℕ}
use Rattle.chip.specs.declared.Chip.{Chip}
use Rattle.chip.specs.Event.{Event, DataWrite, Transmit}
use Rattle.whole.specs.Stage.{since_after, in_time}
use Rattle.stories.specs.Story.{Which, number, happens}
use Rattle.stories.specs.Sent.{Else, to_sender}
use Rattle.history.specs.Sending.Side.{side_of, full_of, latch_of}

-- "Write n bytes .., the first during that flag, each next one after the buffer empties and before
-- the eighth tick after that; do nothing else to the sender." A story in time from a chip on, n
-- ticks after the buffer emptied, with `rest` to write, of which `left` is unwritten when the story
-- ends. Whatever leaves the sender's side as it is may happen at any moment, on either channel
pub data InTime (w : Which) (left : List ℕ) : Chip → ℕ → List ℕ → List Event → Type 0 where
  over : {c : Chip} {n : ℕ} → InTime w left c n left []
  still : {c : Chip} {n : ℕ} {rest : List ℕ} {e : Event} {st : List Event} → to_sender w e ≡ Else
      → side_of w (happens c e).chip ≡ side_of w c
      → InTime w left (happens c e).chip n rest st → InTime w left c n rest (e ∷ st)
  writes : {c : Chip} {n v : ℕ} {rest : List ℕ} {st : List Event} → full_of w c ≡ false
      → InTime w left (happens c (DataWrite (number w) v)).chip n rest st
      → InTime w left c n (v ∷ rest) (DataWrite (number w) v ∷ st)
  -- once the latch is set all is sent but check and closing flag: a byte that is written now is
  -- another frame's
  next_frame_lem : {c : Chip} {n v : ℕ} {st : List Event} → latch_of w c ≡ true
      → InTime w left (happens c (DataWrite (number w) v)).chip n [] st
      → InTime w left c n [] (DataWrite (number w) v ∷ st)
  ticking : {c : Chip} {n : ℕ} {rest : List ℕ} {st : List Event} → in_time (full_of w c) n rest ≡ true
      → InTime w left (happens c (Transmit (number w))).chip
      (since_after (full_of w c) (full_of w (happens c (Transmit (number w))).chip) n) rest st
      → InTime w left c n rest (Transmit (number w) ∷ st)
