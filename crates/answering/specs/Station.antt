-- Demand 1 of a station's calls: each is refused with the number of the first row that holds, and
-- then chip and lent rows are as before. Assumes nothing.
use Rattle.std.specs.Prelude.{◌≡◌, refl, ◌≢◌, List, [], ◌∷◌, ℕ, length, if◌then◌else◌}
use Rattle.std.proofs.Common.{◌∙◌}
use Rattle.common.specs.Tools.{bool_or}
use Rattle.common.specs.Refusal.{number_in}
use Rattle.line.specs.Frame.{zeros_of, ticks_of}
use Rattle.line.specs.Line.{note_fits}
use Rattle.flags.specs.declared.Between.{Between}
use Rattle.notes.specs.NoteList.{Reading, whole, refuses, rest_from, first_note, read_list, scanned}
use Rattle.notes.specs.NoteList.{reading_number}
use Rattle.report.specs.Report.{reported, report_of, pages_of, rows_in}
use Rattle.chip.specs.declared.Chip.{Chip}
use Rattle.promises.specs.Refusals.{first_row}
use Rattle.listline.specs.ListLine.{chip_after}
use Rattle.told.specs.Answers.{told_zeros, told_ticks}
use Rattle.station.specs.Station.{send_of, listed_of}
use Rattle.refusing.specs.Refusing.{length_bad, list_long, list_none, list_refused}

-- A note: row 6

pub send_refused : (c : Chip) (note : List ℕ)
    → number_in (send_of c note).told ≡ first_row (length_bad (length note) ∷ [])
unfolding send_of
send_refused c note = bool_or (note_fits (length note)) (λ f. rw f) (λ f. rw f)

pub send_kept : (c : Chip) (note : List ℕ) → number_in (send_of c note).told ≢ 0
    → (send_of c note).chip ≡ c
unfolding send_of
send_kept c note n = bool_or (note_fits (length note)) (λ f. absurd ((rw f at n) refl)) (λ f. rw f)

-- and the values of that answer: the frame's, or 0

pub send_zeros : (c : Chip) (note : List ℕ)
    → told_zeros (send_of c note).told ≡ (if note_fits (length note) then zeros_of note else 0)
unfolding send_of
send_zeros c note = bool_or (note_fits (length note)) (λ f. rw f refl) (λ f. rw f refl)

pub send_ticks : (c : Chip) (note : List ℕ)
    → told_ticks (send_of c note).told ≡ (if note_fits (length note) then ticks_of note else 0)
unfolding send_of
send_ticks c note = bool_or (note_fits (length note)) (λ f. rw f refl) (λ f. rw f refl)

-- A list: rows 9, 5, then by its first bad note

abbrev pub list_rows : List ℕ → ℕ
list_rows list =
    if (list_long list).1 then 9
    else (if (list_none list).1 then 5 else reading_number (rest_from list first_note))

scan_number : (r : Reading) → number_in (scanned r) ≡ reading_number r
scan_number (whole notes) = refl
scan_number (refuses k) = refl

pages_number_lem : (b : Between) (r : Reading) → number_in (pages_of (reported b r)) ≡ reading_number r
pages_number_lem b (whole notes) = refl
pages_number_lem b (refuses k) = refl

listed_number_lem : (b : Between) (r : Reading)
    → number_in (listed_of (reported b r)) ≡ reading_number r
listed_number_lem b (whole notes) = refl
listed_number_lem b (refuses k) = refl

pub scan_refused : (list : List ℕ) → number_in (scanned (read_list list)) ≡ list_rows list
scan_refused list = scan_number (read_list list) ∙ list_refused list

pub pages_refused : (b : Between) (list : List ℕ)
    → number_in (pages_of (report_of b list)) ≡ list_rows list
pages_refused b list = pages_number_lem b (read_list list) ∙ list_refused list

pub send_list_refused : (b : Between) (list : List ℕ)
    → number_in (listed_of (report_of b list)) ≡ list_rows list
send_list_refused b list = listed_number_lem b (read_list list) ∙ list_refused list

-- the chip and the lent rows are then as before

pub send_list_kept : (b : Between) (c : Chip) (list lent : List ℕ)
    → number_in (listed_of (report_of b list)) ≢ 0
    → (chip_after b c (read_list list) ≡ c) × (rows_in lent (report_of b list) ≡ lent)
send_list_kept b c list lent = go (read_list list)
  where
    go : (r : Reading) → number_in (listed_of (reported b r)) ≢ 0
        → (chip_after b c r ≡ c) × (rows_in lent (reported b r) ≡ lent)
    go (whole notes) n = absurd (n refl)
    go (refuses k) n = (refl, refl)
