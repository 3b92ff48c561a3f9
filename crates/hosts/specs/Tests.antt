-- Every host, as a test that a reader can run on a story, and that it is that condition. Assumes
-- nothing.
use Rattle.std.specs.Prelude.{◌≡◌, Bool, true, false, not, List}
use Rattle.common.specs.Tools.{not_true}
use Rattle.chip.specs.declared.Chip.{Chip}
use Rattle.chip.specs.Event.{Event}
use Rattle.stories.specs.Story.{Which}
use Rattle.history.specs.Sending.Stories.{ticks_where, ticks_where_lem}
use Rattle.hosts.specs.Loaded.{closed, Host}

abbrev pub hosting : Which → Chip → List Event → Bool
hosting w c st = ticks_where (λ d. not (closed w d)) w c st

pub host_of : (w : Which) (c : Chip) (st : List Event) → hosting w c st ≡ true → Host w c st
host_of w c st t =
    ticks_where_lem (λ d. closed w d ≡ false) (λ d. not (closed w d)) (λ d a. not_true (closed w d) a)
    w c st t
