-- What the walk over a list's notes tells and asks of the rows, and the ticks before a note.
-- Assumes nothing.
use Rattle.std.specs.Prelude.{Result, Ok, Err, Bool, true, false, List, ℕ, ◌+◌, ◌≤◌, eqb, length, if◌then◌else◌}
use Rattle.common.specs.declared.Refusal.{Refusal}
use Rattle.flags.specs.declared.Between.{Between}
use Rattle.flags.specs.Flags.{own_flag, in_all}
use Rattle.report.specs.Report.{row_length}
use Rattle.told.specs.declared.Total.{Total}
use Rattle.station.specs.Station.{total}

-- by the scan's answer, so many notes having gone in so many ticks
abbrev pub listed_by : Result ℕ Refusal → Between → ℕ → ℕ → Result Total Refusal
listed_by (Ok all) between notes sum = Ok (total notes (in_all between sum notes))
listed_by (Err k) between notes sum = Err k

-- a row that is told has room
abbrev pub Room : Bool → ℕ → List ℕ → Type 0
Room true at rows = at + row_length ≤ length rows
Room false at rows = Unit

-- the ticks of a note's own flag before it, so many having gone
unfoldable pub flag_ticks : Between → ℕ → ℕ
flag_ticks between gone = if eqb gone 0 then 0 else length (own_flag between)
