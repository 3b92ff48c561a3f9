-- A host that ticks and writes as it likes, over the events of the chip and for either channel w.
-- Assumes nothing.
use Rattle.std.specs.Prelude.{List}
use Rattle.chip.specs.declared.Chip.{Chip}
use Rattle.chip.specs.Event.{Event}
use Rattle.stories.specs.Story.{Which}
use Rattle.history.specs.Sending.Stories.{TicksWhere}

-- in time or not; all else leaves the sender's side as it is
abbrev pub Free : Which → Chip → List Event → Type 0
Free w c st = TicksWhere (λ d. Unit) w c st
