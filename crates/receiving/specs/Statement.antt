-- Demand 2, receiving: "An SDLC receiver that stays on, address search off, queue empty, in hunt or
-- just past a flag, fed a whole frame's line, read before a fourth character waits and else
-- untouched, gives back its bytes, its check and a good mark." Said of either channel of any chip,
-- over stories in which everything else may happen too. Assumes nothing.
use Rattle.std.specs.Prelude.{◌≡◌, Bool, true, false, not, List, ◌∷◌, ◌++◌, ℕ, ◌+◌, ◌≤◌, eqb, length, if◌then◌else◌}
use Rattle.common.specs.declared.Mode.TheVariants.{Sdlc}
use Rattle.line.specs.Frame.{flag_bits, content_of, frame, with_check}
use Rattle.line.specs.Bits.{Below}
use Rattle.entry.specs.declared.Entry.{Entry}
use Rattle.queue.specs.Queue.{room, waits}
use Rattle.queue.specs.Holding.{Holds}
use Rattle.sdlc.specs.Hearing.{past_flag, hear_sdlc}
use Rattle.whole.specs.Heard.{Fresh, end_marks}
use Rattle.whole.specs.Frames.{ended, between_flags, frames_of, all_ended, Notes}
use Rattle.channel.specs.declared.Answer.TheVariants.{Gave}
use Rattle.chip.specs.declared.Chip.{Chip}
use Rattle.chip.specs.Event.{Event, ControlRead}
use Rattle.stories.specs.Story.{Which, number, chan, happens, after}
use Rattle.stories.specs.Received.{bits_of, values_of, took_of, bytes_of, good_end, no_end}
use Rattle.history.specs.Receiving.Side.{Side, side_of}
use Rattle.history.specs.Receiving.Events.{room_if}
use Rattle.history.specs.Receiving.Stories.{HearsWhere}

-- "An SDLC receiver that [is] on, address search off, queue empty, in hunt or just past a flag"

-- the queue's three places are a fact of every chip with a history: `queue_three` in Sound
pub record Listening (x : Side) : Type 0 where
  pub mode : x.settings.mode ≡ Sdlc
  pub on : x.settings.on ≡ true
  pub search : x.settings.addressing.search ≡ false
  pub empty : x.queue.count ≡ 0
  pub three : length x.queue.entries ≡ room
  pub start : Fresh x.listener

-- "stays on .. read before a fourth character waits and else untouched": a tick that hands a
-- character over finds room, reads come as they like, and what else happens leaves the side as it
-- was

abbrev pub roomy : Side → Bool → Bool
roomy x b = room_if (hear_sdlc x.settings.addressing x.listener b).entry x.queue

abbrev pub Fed : Which → Chip → List Event → Type 0
Fed w c st = HearsWhere (side_of w) (λ d b. roomy (side_of w d) b ≡ true) w c st

-- at the end of a story: what was read, followed by what waits, is this; no latch of RR1 has
-- changed, and the receiver is just past a flag

pub record Received (w : Which) (c : Chip) (st : List Event) (bytes : List ℕ)
    (es : List Entry) : Type 0 where
  pub waiting : List Entry
  pub holds : Holds (chan w c).queue.parity (chan w c).queue.overrun
      (chan w (after c st)).queue waiting
  pub values : values_of w c st ++ bytes_of waiting ≡ bytes
  pub marks : took_of w c st ++ waiting ≡ es
  pub ready : (side_of w (after c st)).listener ≡ past_flag
  pub stays : (side_of w (after c st)).settings ≡ (side_of w c).settings

abbrev pub Demand2 : Type 0
Demand2 =
    (w : Which) (c : Chip) (st : List Event) (note : List ℕ) → Listening (side_of w c)
    → 1 ≤ length note → Below 256 note → Fed w c st
    → bits_of w st ≡ frame note → Received w c st (with_check note) (ended false (with_check note))

-- At every moment xs of such a story: what was read, what waits and what is yet to come

pub record Moment (w : Which) (c : Chip) (st : List Event) (es : List Entry) : Type 0 where
  pub waiting : List Entry
  pub later : List Entry
  pub holds : Holds (chan w c).queue.parity (chan w c).queue.overrun
      (chan w (after c st)).queue waiting
  pub marks : took_of w c st ++ (waiting ++ later) ≡ es
  pub stays : (side_of w (after c st)).settings ≡ (side_of w c).settings

abbrev pub Always2 : Type 0
Always2 =
    (w : Which) (c : Chip) (xs ys : List Event) (note : List ℕ) → Listening (side_of w c)
    → 1 ≤ length note → Below 256 note → Fed w c (xs ++ ys)
    → bits_of w (xs ++ ys) ≡ frame note → Moment w c xs (ended false (with_check note))

-- RR1 at every such moment at which a character waits, both latches clear from the start: the mark
-- is shown exactly if all but the last were read, so that the last is the oldest
abbrev pub Mark2 : Type 0
Mark2 =
    (w : Which) (c : Chip) (xs ys : List Event) (note : List ℕ) → Listening (side_of w c)
    → 1 ≤ length note → Below 256 note → Fed w c (xs ++ ys)
    → bits_of w (xs ++ ys) ≡ frame note → (chan w c).queue.parity ≡ false
    → (chan w c).queue.overrun ≡ false
    → waits (chan w (after c xs)).queue ≡ true → (chan w (after c xs)).pointer ≡ 1
    → (happens (after c xs) (ControlRead (number w))).answer
    ≡ Gave (if eqb (length (values_of w c xs) + 1) (length note + 2) then good_end else no_end)

-- Several notes, each closing flag the next one's opening flag

abbrev pub Notes2 : Type 0
Notes2 =
    (w : Which) (c : Chip) (st : List Event) (ns : List (List ℕ)) → Listening (side_of w c)
    → Notes ns → Fed w c st
    → bits_of w st ≡ flag_bits ++ frames_of ns → Received w c st (bytes_of (all_ended ns)) (all_ended ns)

-- A frame with any one bit of content and check flipped: as many characters, the end mark, a bad
-- check

pub record Found (w : Which) (c : Chip) (st : List Event) (n : ℕ) : Type 0 where
  pub bytes : List ℕ
  pub count : length bytes ≡ n
  pub given : Received w c st bytes (ended true bytes)

abbrev pub Flipped2 : Type 0
Flipped2 =
    (w : Which) (c : Chip) (st : List Event) (note : List ℕ) (xs ys : List Bool) (b : Bool)
    → Listening (side_of w c) → Fed w c st
    → content_of note ≡ xs ++ (b ∷ ys) → bits_of w st ≡ between_flags (xs ++ (not b ∷ ys))
    → Found w c st (length note + 2)

-- No end told: no end mark among what was read and what waits
pub record NoEndTold (w : Which) (c : Chip) (st : List Event) (parity overrun : Bool) : Type 0 where
  pub waiting : List Entry
  pub holds : Holds parity overrun (chan w (after c st)).queue waiting
  pub untold : end_marks (took_of w c st ++ waiting) ≡ 0
