-- What `station::send_list` puts on the line. Its contract names the chip, `chip_after`, and the
-- report; the line of the ticks that make that chip is `line_after`. Assumes nothing.
use Rattle.std.specs.Prelude.{◌≡◌, Ok, List, [], ◌∷◌, ◌++◌, ℕ, length}
use Rattle.std.proofs.Common.{sym, ap, ◌∙◌}
use Rattle.line.specs.Frame.{flag_bits}
use Rattle.flags.specs.declared.Between.{Between}
use Rattle.flags.specs.Flags.{line_behind, list_line}
use Rattle.flags.proofs.Laws.{line_length}
use Rattle.notes.specs.NoteList.{Reading, whole, read_list}
use Rattle.chip.specs.declared.Chip.{Chip}
use Rattle.chip.specs.Chip.{hard_reset}
use Rattle.drive.specs.Drive.{prepared}
use Rattle.drive.proofs.Laws.Frame.{flag_before}
use Rattle.listline.specs.ListLine.{line_after}
use Rattle.listline.proofs.Laws.Fits.{read_fits}
use Rattle.listline.proofs.Laws.Line.{list_line_lem, list_line_reset}
use Rattle.report.specs.Report.{reported, report_of}
use Rattle.station.specs.Station.{total, listed_of}

module _ (between : Between) (list : List ℕ) (note : List ℕ) (notes : List (List ℕ))
    (e : read_list list ≡ whole (note ∷ notes)) where
  abbrev all : List (List ℕ)
  all = note ∷ notes

  -- whatever the chip was: to the end of a flag, then the notes' frames, joined as the choice says
  pub list_sent_lem : (c : Chip)
      → line_after between c (read_list list)
      ≡ flag_before (prepared c).a.sender.unit ++ line_behind between all
  list_sent_lem c =
      ap (line_after between c) e ∙ list_line_lem between c note notes (read_fits list all e)

  -- a reset chip sends that flag whole
  pub list_sent_reset : line_after between hard_reset (read_list list) ≡ list_line between all
  list_sent_reset =
      ap (line_after between hard_reset) e ∙ list_line_reset between note notes (read_fits list all e)

  -- the ticks in all are the length of that line, its first flag with it
  pub list_ticks : listed_of (report_of between list)
      ≡ Ok (total (length all) (length (flag_bits ++ line_behind between all)))
  list_ticks =
      ap (λ (r : Reading). listed_of (reported between r)) e
      ∙ ap (λ (t : ℕ). Ok (total (length all) t)) (sym (line_length between all))

-- of no note nothing is sent, and there is no tick
pub none_sent_lem : (between : Between) (c : Chip) (list : List ℕ) → read_list list ≡ whole []
    → (line_after between c (read_list list) ≡ [])
    × (listed_of (report_of between list) ≡ Ok (total 0 0))
none_sent_lem between c list e = (
  ap (line_after between c) e,
  ap (λ (r : Reading). listed_of (reported between r)) e
      ∙ ap (λ (t : ℕ). Ok (total 0 t)) (sym (line_length between [])),
)
