-- The story's condition in demand 2 as a test that a reader can run. Assumes nothing.
use Rattle.std.specs.Prelude.{◌≡◌, Bool, true, false, List, ℕ, ◌≤◌, length}
use Rattle.line.specs.Frame.{frame, with_check}
use Rattle.line.specs.Bits.{Below}
use Rattle.chip.specs.declared.Chip.{Chip}
use Rattle.chip.specs.Event.{Event}
use Rattle.stories.specs.Story.{Which}
use Rattle.stories.specs.Received.{bits_of}
use Rattle.whole.specs.Frames.{ended}
use Rattle.history.specs.Receiving.Side.{side_of}
use Rattle.history.specs.Receiving.Quiet.{quiet, quiet_keeps}
use Rattle.history.specs.Receiving.Stories.{hears_where, hears_where_lem}
use Rattle.receiving.specs.Statement.{Listening, roomy, Fed, Received}
use Rattle.receiving.proofs.Demand.{demand2}

-- ticks that find room, reads anywhere, and else only what is quiet
abbrev pub in_room : Which → Chip → List Event → Bool
in_room w c st = hears_where (λ d b. roomy (side_of w d) b) (quiet w) w c st

pub fed : (w : Which) (c : Chip) (st : List Event) → in_room w c st ≡ true → Fed w c st
fed w c st t =
    hears_where_lem (side_of w) (λ d b. roomy (side_of w d) b ≡ true) (λ d b. roomy (side_of w d) b)
    (quiet w) (λ d b a. a) (quiet_keeps w) w c st t

-- demand 2 with the test
pub demand2_run : (w : Which) (c : Chip) (st : List Event) (note : List ℕ) → Listening (side_of w c)
    → 1 ≤ length note → Below 256 note → in_room w c st ≡ true
    → bits_of w st ≡ frame note → Received w c st (with_check note) (ended false (with_check note))
demand2_run w c st note l n b t e = demand2 w c st note l n b (fed w c st t) e
