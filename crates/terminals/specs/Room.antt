-- The story's condition as a test that a reader can run. Assumes nothing.
use Rattle.std.specs.Prelude.{◌≡◌, Bool, true, List}
use Rattle.chip.specs.declared.Chip.{Chip}
use Rattle.chip.specs.Event.{Event}
use Rattle.stories.specs.Story.{Which}
use Rattle.history.specs.Receiving.Stories.{hears_where, hears_where_lem}
use Rattle.terminals.specs.Side.{side_of, checking_of}
use Rattle.terminals.specs.Statement.{roomy, Fed}
use Rattle.terminals.specs.Quiet.{quiet, quiet_keeps}

-- ticks that find room, reads anywhere, and else only what is quiet
abbrev pub in_room : Which → Chip → List Event → Bool
in_room w c st = hears_where (λ d b. roomy (side_of w d) (checking_of w d) b) (quiet w) w c st

pub fed : (w : Which) (c : Chip) (st : List Event) → in_room w c st ≡ true → Fed w c st
fed w c st t =
    hears_where_lem (side_of w) (λ d b. roomy (side_of w d) (checking_of w d) b ≡ true)
    (λ d b. roomy (side_of w d) (checking_of w d) b) (quiet w) (λ d b a. a) (quiet_keeps w) w c st t
