-- 01, Interrupts and external status: the five bits that RR0 latches together. Assumes nothing.
use Rattle.std.specs.Prelude.{Bool, not, ◌&&◌, ◌||◌, if◌then◌else◌, Option, Some, None, is_some}
use Rattle.std.specs.Option.{unwrap_or}
use Rattle.line.specs.Check.{differs}
use Rattle.status.specs.declared.Live.{Live}
use Rattle.status.specs.declared.Status.{Status}

abbrev pub status : Option Live → Status
status l = record { latched = l }

-- "unlatches external status"
abbrev pub unlatched : Status
unlatched = status None

-- "latched together at any change, except D6 falling"
unfoldable pub changed : Live → Live → Bool
changed was is =
    differs was.abort is.abort
    || ((not was.underrun && is.underrun)
    || (differs was.cts is.cts
    || (differs was.hunt is.hunt
    || differs was.dcd is.dcd)))

-- a step of an event has made `was` to `is`: what is latched stays; a change latches, and shows
-- the values after the step
unfoldable pub noticed : Status → Live → Live → Status
noticed s was is =
    if is_some s.latched then s else (if changed was is then status (Some is) else s)

-- "except D6 falling, which shows at once if nothing is latched": with nothing latched RR0 shows
-- the live bits
abbrev pub shown_bits : Status → Live → Live
shown_bits s live = unwrap_or s.latched live

-- "Reset External/Status shows them afresh, and latches again if one changed by that rule."
abbrev pub latched_again : Option Live → Live → Option Live
latched_again None live = None
latched_again (Some shown) live = if changed shown live then Some live else None

unfoldable pub afresh : Status → Live → Status
afresh s live = status (latched_again s.latched live)
