-- 01, Note list and line: how a station drives channel A of a chip to send a list, and the line
-- that it puts out. 02, P7: how notes follow each other is a choice. Assumes nothing.
use Rattle.std.specs.Prelude.{Bool, ℕ, eqb, length, get_or, drop, if◌then◌else◌}
use mathlib.Core.List.{List, [], ◌∷◌, ◌++◌, foldl}
use Rattle.flags.specs.declared.Between.{Between}
use Rattle.flags.specs.Flags.{own_flag}
use Rattle.notes.specs.NoteList.{Reading, whole, refuses}
use Rattle.chip.specs.declared.Chip.{Chip}
use Rattle.drive.specs.Drive.{driven, driven_line, prepared, ticks_to_flag, frame_opened, ticks_left}
use Rattle.drive.specs.Drive.{sent_by}

-- The chip

-- before a next note: as many ticks as its own flag has
abbrev pub flagged : Between → Chip → Chip
flagged between c = driven (length (own_flag between)) c []

abbrev pub sent_next : Between → Chip → List ℕ → Chip
sent_next between c note = sent_by (flagged between c) note

-- each note in its turn
abbrev pub sent_all : Between → Chip → List (List ℕ) → Chip
sent_all between c [] = c
sent_all between c (note ∷ notes) = foldl (sent_next between) (sent_by c note) notes

-- the chip before a note, so many having gone
abbrev pub before_note : Between → ℕ → Chip → Chip
before_note between gone c = if eqb gone 0 then c else flagged between c

-- The line of all these ticks

-- a note: to the end of a flag, then its frame
abbrev pub note_line : Chip → List ℕ → List Bool
note_line c note =
    let d = prepared c in
    driven_line (ticks_to_flag d.a.sender.unit) d []
    ++ driven_line (ticks_left note) (frame_opened c (get_or note 0 0)) (drop 1 note)

abbrev pub flag_line : Between → Chip → List Bool
flag_line between c = driven_line (length (own_flag between)) c []

unfoldable pub next_lines : Between → Chip → List (List ℕ) → List Bool
next_lines between c [] = []
next_lines between c (note ∷ notes) =
    (flag_line between c ++ note_line (flagged between c) note)
    ++ next_lines between (sent_next between c note) notes

abbrev pub all_line : Between → Chip → List (List ℕ) → List Bool
all_line between c [] = []
all_line between c (note ∷ notes) = note_line c note ++ next_lines between (sent_by c note) notes

-- A list as it is read; one that is refused changes nothing and sends nothing

abbrev pub chip_after : Between → Chip → Reading → Chip
chip_after between c (whole notes) = sent_all between c notes
chip_after between c (refuses k) = c

abbrev pub line_after : Between → Chip → Reading → List Bool
line_after between c (whole notes) = all_line between c notes
line_after between c (refuses k) = []
