-- Two chips on one line, computed: what A of one sends, B of the other hears of a frame in time.
-- Then the theorem, said of it. Assumes nothing.
use Rattle.std.specs.Prelude.{◌≡◌, refl, Bool, true, false, List, [], ◌∷◌, ◌++◌}
use Rattle.std.proofs.Common.{arith}
use Rattle.line.specs.Bits.{low_bits, text_bits, below_none as none, below_more as more}
use Rattle.line.specs.Check.{check_step, check_over, top_bits, check_bits}
use Rattle.line.specs.Insertion.{stuff, zeros}
use Rattle.line.specs.Frame.{with_check}
use Rattle.chip.specs.Computing.{computing}
use Rattle.chip.specs.Event.{Event, DataRead}
use Rattle.whole.specs.Start.{flag_head}
use Rattle.stories.specs.Story.{A, B, after, throughout}
use Rattle.stories.specs.Sent.{line_of, ticks}
use Rattle.stories.specs.Received.{bits_of}
use Rattle.stories.specs.Sending.{times, begin, noisy}
use Rattle.stories.specs.Receiving.{listening, story}
use Rattle.whole.specs.Heard.{in_hunt}
use Rattle.whole.specs.Frames.{ended}
use Rattle.history.specs.Receiving.Side.{side_of}
use Rattle.receiving.specs.Statement.{Listening, Received}
use Rattle.receiving.proofs.Room.{in_room, fed}
use Rattle.timely.specs.Tests.{in_time_lem}
use Rattle.demands.specs.Together.{together}
use Rattle.sending.proofs.Example as sending

-- the bits of the sender's line, from the first bit of its opening flag on
abbrev pub sent : List Event → List Bool
sent st = flag_head 3 ++ line_of A begin st

-- B hears each bit and is read behind it
abbrev pub hears : List Bool → List Event
hears line = story B (DataRead 1 ∷ []) line

pub record Examples : Type 0 where
  pub listens : Listening (side_of B (listening B))
  pub room : in_room B (listening B) (hears (sent noisy)) ≡ true
  pub bits : bits_of B (hears (sent noisy)) ≡ sent noisy

pub examples : Examples
unfolding computing throughout bits_of story times line_of after
examples = record {
  listens = record {
    mode = refl;
    on = refl;
    search = refl;
    empty = refl;
    three = refl;
    start = in_hunt refl;
  };
  room = refl;
  bits = refl;
}

-- the theorem speaks of this story

noisy_together : Received B (listening B) (hears (sent noisy)) (with_check (255 ∷ 136 ∷ []))
    (ended false (with_check (255 ∷ 136 ∷ [])))
unfolding ticks times stuff zeros text_bits low_bits check_over check_step check_bits top_bits
noisy_together =
    together A begin 3 255 (136 ∷ []) noisy sending.starts
    (in_time_lem A begin 2 (255 ∷ 136 ∷ []) noisy (sending.examples).noisy_timely) refl
    (more (omega arith) (more (omega arith) none)) B (listening B) (hears (sent noisy))
    examples.listens
    (fed B (listening B) (hears (sent noisy)) examples.room) examples.bits
