-- Demand 2 for Monosync and Bisync, over stories in which everything else may happen too, for
-- either channel of any chip and both polynomials. Proofs: Demand, Register, Hunt. Assumes nothing.
use Rattle.std.specs.Prelude.{None, ◌≡◌, ◌≢◌, Bool, true, false, not, List, [], ◌∷◌, ◌++◌, ℕ, ◌+◌, ◌/◌, ◌<◌, length, if◌then◌else◌}
use Rattle.common.specs.Mode.{in_blocks}
use Rattle.line.specs.Bits.{odd, text_bits, Below}
use Rattle.shared.specs.Preset.{zeros}
use Rattle.entry.specs.declared.Entry.{Entry}
use Rattle.queue.specs.Queue.{room}
use Rattle.queue.specs.Holding.{Holds}
use Rattle.bytesync.specs.declared.Syncs.{Syncs}
use Rattle.bytesync.specs.declared.Matching.{Matching}
use Rattle.bytesync.specs.declared.Reception.{Reception}
use Rattle.bytesync.specs.Hearing.{hear_block, searching, expected}
use Rattle.blocks.specs.Check.{check_from, with_check}
use Rattle.blocks.specs.Heard.{heeding, entries_of}
use Rattle.blocks.specs.Characters.{ends_of, pattern_bits, pattern_length, turn_after, block_given}
use Rattle.blocks.specs.Characters.{block_bytes, letting}
use Rattle.blocks.specs.Register.{Tale, Hunt, Within, told, entrants_of, check_through, all_over}
use Rattle.blocks.specs.Register as register
use Rattle.settings.specs.Settings.{enters_hunt}
use Rattle.channel.specs.Answer.{answer_value}
use Rattle.chip.specs.declared.Chip.{Chip}
use Rattle.chip.specs.Event.{Event, ControlWrite, ControlRead}
use Rattle.stories.specs.Story.{Which, number, chan, happens, after}
use Rattle.stories.specs.Received.{ToReceiver, Hears, Reads, Else, to_receiver, bit_in, bits_of}
use Rattle.stories.specs.Received.{values_of, took_of}
use Rattle.stories.specs.Received.{bytes_of}
use Rattle.history.specs.Receiving.Side.{receiving_in}
use Rattle.history.specs.Receiving.Events.{room_if}
use Rattle.history.specs.Receiving.Stories.{HearsWhere}
use Rattle.terminals.specs.Side.{Side, side_of, checking_of, moments_of}

-- A receiver that is on, hunt begun, its check preset, queue empty. WR6 and WR7 are bytes, and the
-- queue has three places: every chip with a history has them
pub record Listening (x : Side) : Type 0 where
  pub mode : in_blocks x.heeds.mode ≡ true
  pub on : x.heeds.on ≡ true
  pub begun : x.reception ≡ searching true
  pub preset : x.check ≡ zeros
  pub empty : x.queue.count ≡ 0
  pub three : length x.queue.entries ≡ room
  pub first : x.heeds.matching.syncs.first < 256
  pub second : x.heeds.matching.syncs.second < 256

-- "stays on .. read before a fourth character waits and else untouched but for WR3 D3": a tick that
-- hands a character over finds room, reads come as they like, and what else happens leaves the side
-- as it was
abbrev pub roomy : Side → Bool → Bool → Bool
roomy x i b =
    let h = hear_block (heeding x.heeds.matching i) x.reception x.check b in
    room_if h.entry x.queue

abbrev pub Fed : Which → Chip → List Event → Type 0
Fed w c st = HearsWhere (side_of w) (λ d b. roomy (side_of w d) (checking_of w d) b ≡ true) w c st

abbrev pub matching_of : Which → Chip → Matching
matching_of w c = (side_of w c).heeds.matching

abbrev pub syncs_of : Which → Chip → Syncs
syncs_of w c = (matching_of w c).syncs

abbrev pub polynomial_at : Which → Chip → ℕ
polynomial_at w c = (matching_of w c).polynomial

abbrev pub reception_of : Which → Chip → Reception
reception_of w c = (chan w c).receiver.reception

abbrev pub check_of : Which → Chip → ℕ
check_of w c = (chan w c).receiver.check

-- "fed a sync, k further syncs, n bytes .. and one character more .., WR3 D3 set for just" the
-- bytes: the story's bits, and WR3 D3 on the tick that completes each character
pub record BlockFed (w : Which) (c : Chip) (st : List Event) (k : ℕ) (vs : List ℕ)
    (last : ℕ) : Type 0 where
  pub story : Fed w c st
  pub bits : bits_of w st
      ≡ pattern_bits (syncs_of w c) ++ text_bits 8 (block_bytes (syncs_of w c) k vs last)
  pub first : Bool
  pub lets : ends_of (pattern_length (syncs_of w c) + 7) (moments_of w c st)
      ≡ letting first k (length vs)
  pub below : Below 256 (block_bytes (syncs_of w c) k vs last)

-- RR1 D6, as a control read gives it to a host that has named RR1
abbrev pub rr1_d6 : Which → Chip → Bool
rr1_d6 w c = odd (answer_value (happens c (ControlRead (number w))).answer / 64)

-- behind the story: what was read, followed by what waits, is this, never with a mark; no latch of
-- RR1 has changed, and RR1 D6 is bad
pub record Received (w : Which) (c : Chip) (st : List Event) (bytes : List ℕ)
    (bad : Bool) : Type 0 where
  pub waiting : List Entry
  pub holds : Holds (chan w c).queue.parity (chan w c).queue.overrun
      (chan w (after c st)).queue
      waiting
  pub values : values_of w c st ++ bytes_of waiting ≡ bytes
  pub marks : took_of w c st ++ waiting ≡ entries_of bytes
  pub d6 : (chan w (after c st)).pointer ≡ 1 → rr1_d6 w (after c st) ≡ bad

-- n bytes, of which the first is no sync, and the two of their check: the further syncs, none of
-- them if WR3 D1 is set, the bytes, the check and the last character, and D6 reads 0 from the tick
-- that completes it
abbrev pub BlockReceived : Type 0
BlockReceived =
    (w : Which) (c : Chip) (st : List Event) (k v last : ℕ) (vs : List ℕ) → Listening (side_of w c)
    → v ≢ expected (syncs_of w c) (turn_after false k)
    → let bytes = with_check (polynomial_at w c) (v ∷ vs) in BlockFed w c st k bytes last
    → Received w c st (block_given (matching_of w c) k bytes last) false

-- one bit of bytes or check turned over: D6 reads 1 there
abbrev pub FlipSeen : Type 0
FlipSeen =
    (w : Which) (c : Chip) (st : List Event) (k v last : ℕ) (text vs : List ℕ) (xs ys : List Bool)
    (b : Bool) → Listening (side_of w c)
    → text_bits 8 (with_check (polynomial_at w c) text) ≡ xs ++ (b ∷ ys)
    → text_bits 8 (v ∷ vs) ≡ xs ++ (not b ∷ ys) → BlockFed w c st k (v ∷ vs) last
    → (chan w (after c st)).pointer ≡ 1 → rr1_d6 w (after c st) ≡ true

-- The check at every moment

-- since some moment, in the two modes: ticks, on or off, with any settings; and whatever else
-- leaves the check alone and the receiver as it was or starts its search again
pub data Since (w : Which) : Chip → List Event → Type 0 where
  over : {c : Chip} → Since w c []
  hears : {c : Chip} {e : Event} {st : List Event} {b : Bool} → to_receiver w e ≡ Hears b
      → in_blocks (side_of w c).heeds.mode ≡ true → Since w (happens c e).chip st
      → Since w c (e ∷ st)
  searches : {c : Chip} {e : Event} {st : List Event} → bit_in (to_receiver w e) ≡ []
      → reception_of w (happens c e).chip ≡ searching true
      → check_of w (happens c e).chip ≡ check_of w c → Since w (happens c e).chip st
      → Since w c (e ∷ st)
  still : {c : Chip} {e : Event} {st : List Event} → bit_in (to_receiver w e) ≡ []
      → reception_of w (happens c e).chip ≡ reception_of w c
      → check_of w (happens c e).chip ≡ check_of w c → Since w (happens c e).chip st
      → Since w c (e ∷ st)

-- what is heard: on a tick while on, as the receiver tells it; a tick while off, and what else
-- starts the search, is hunt
abbrev pub tale_of : Which → Chip → Chip → ToReceiver → Tale
tale_of w c d (Hears b) =
    let g = receiving_in (chan w c) in
    if g.on then told (reception_of w c) (register.Hears g.matching b) else Hunt
tale_of w c d Reads = if (reception_of w d).hunt then Hunt else Within
tale_of w c d Else = if (reception_of w d).hunt then Hunt else Within

unfoldable pub tales_of : Which → Chip → List Event → List Tale
tales_of w c [] = []
tales_of w c (e ∷ st) = let d = (happens c e).chip in tale_of w c d (to_receiver w e) ∷ tales_of w d st

-- the check is that from there on over just the characters for which WR3 D3 was set when the next
-- one was complete, each over the polynomial of that tick
abbrev pub RegisterIs : Type 0
RegisterIs =
    (w : Which) (c : Chip) (st : List Event) → Since w c st
    → check_of w (after c st)
    ≡ check_through (check_of w c)
    (entrants_of (reception_of w c).block.held (tales_of w c st))

-- over one polynomial and from a preset in hunt: the check of the bytes that entered
abbrev pub RegisterSincePreset : Type 0
RegisterSincePreset =
    (w : Which) (c : Chip) (st : List Event) (p : ℕ) (vs : List ℕ)
    → reception_of w c ≡ searching true
    → check_of w c ≡ zeros → Since w c st → entrants_of None (tales_of w c st) ≡ all_over p vs
    → check_of w (after c st) ≡ check_from p zeros vs

-- RR0 D4
abbrev pub d4 : Which → Chip → Bool
d4 w c = odd (answer_value (happens c (ControlRead (number w))).answer / 16)

-- "Enter Hunt starts the search again, RR0 D4 showing it": a WR3 write with D4 set, whatever was
-- heard before; the check stays. D4 is shown unless status was latched
pub record HuntBegun (w : Which) (c d : Chip) : Type 0 where
  pub begun : reception_of w d ≡ searching true
  pub check : check_of w d ≡ check_of w c
  pub queue : (chan w d).queue ≡ (chan w c).queue
  pub shown : (chan w c).status.latched ≡ None → d4 w d ≡ true

abbrev pub HuntAgain : Type 0
HuntAgain =
    (w : Which) (c : Chip) (v : ℕ) → in_blocks (side_of w c).heeds.mode ≡ true
    → (chan w c).pointer ≡ 3 → enters_hunt v ≡ true
    → HuntBegun w c (happens c (ControlWrite (number w) v)).chip
