-- What a station answers, to a note and to a list. Assumes nothing.
use Rattle.std.specs.Prelude.{Result, Ok, Err, List, ℕ, length, if◌then◌else◌}
use Rattle.common.specs.declared.Refusal.{Refusal}
use Rattle.common.specs.declared.Refusal.TheVariants.{NoteLength}
use Rattle.line.specs.Frame.{zeros_of, ticks_of}
use Rattle.line.specs.Line.{note_fits}
use Rattle.chip.specs.declared.Chip.{Chip}
use Rattle.drive.specs.Drive.{sent_by}
use Rattle.report.specs.Report.{Report, report, refusal}
use Rattle.told.specs.declared.Gone.{Gone}
use Rattle.station.specs.declared.Sent.{Sent}
use Rattle.told.specs.declared.Total.{Total}
use Rattle.station.specs.declared.ListSent.{ListSent}

-- A note

-- the frame's inserted zeros and its ticks
abbrev pub gone_in : List ℕ → Gone
gone_in note = record { zeros = zeros_of note; ticks = ticks_of note }

abbrev pub note_sent : Result Gone Refusal → Chip → Sent
note_sent t c = record { told = t; chip = c }

-- refusal 6; else what has gone, and the chip that sent it
unfoldable pub send_of : Chip → List ℕ → Sent
send_of c note =
    if note_fits (length note) then note_sent (Ok (gone_in note)) (sent_by c note)
    else note_sent (Err NoteLength) c

-- A list

abbrev pub total : ℕ → ℕ → Total
total notes ticks = record { notes = notes; ticks = ticks }

abbrev pub listed_of : Report → Result Total Refusal
listed_of (report rows notes ticks) = Ok (total notes ticks)
listed_of (refusal k) = Err k

abbrev pub list_sent : Result Total Refusal → Chip → ListSent
list_sent l c = record { listed = l; chip = c }
