-- 02, P6: "Its line, its zero count and its refusals must equal the first writer's for every note
-- and every buffer, untouched bytes included": the two writers are one function. Assumes nothing.
use Rattle.std.specs.Prelude.{◌≡◌, refl, Bool, true, false, List, ◌++◌, ℕ, ◌-◌, ◌≤◌, Result, Ok, Err, ltb, length, take, drop, if◌then◌else◌}
use Rattle.std.proofs.Common.{ap, ap₂, ◌∙◌, arith, ltb-false, length-drop, drop-drop}
use Rattle.common.specs.declared.Refusal.{Refusal}
use Rattle.common.specs.declared.Refusal.TheVariants.{NoteLength, NoRoom}
use Rattle.line.specs.Bits.{cells}
use Rattle.line.specs.Frame.{frame, zeros_of, ticks_of}
use Rattle.line.specs.Line.{note_fits}
use Rattle.writer.specs.Writer.{write_of, written_at, buffer_after}
use Rattle.table.specs.Table.{check_table}
use Rattle.stamp.specs.Stamp.{stamp_table, four_table}
use Rattle.laid.specs.Laid.{frame_stamped}
use Rattle.laid.specs.Laws.{end_is, frame_fits}
use Rattle.lent.specs.Lent.{zeros_stamped, write_by, left_by}

-- what a writer answers, and the whole buffer behind its call
pub record Written : Type 0 where
  pub answer : Result ℕ Refusal
  pub buffer : List ℕ

abbrev written : Result ℕ Refusal → List ℕ → Written
written answer buffer = record { answer = answer; buffer = buffer }

-- by the bit engine, and by the byte engine with its own tables
abbrev pub by_bits : List ℕ → List ℕ → ℕ → Written
by_bits note buffer at =
    written (write_of note buffer at) (buffer_after (write_of note buffer at) (frame note) buffer at)

abbrev pub by_bytes : List ℕ → List ℕ → ℕ → Written
by_bytes note buffer at =
    written (write_by check_table stamp_table four_table note buffer at)
    (left_by check_table stamp_table four_table
    (write_by check_table stamp_table four_table note buffer at) note buffer at)

module _ (note buffer : List ℕ) (at : ℕ) (room : ticks_of note ≤ length buffer - at) where
  fits : ticks_of note ≤ length (drop at buffer)
  fits = omega (arith, length-drop at buffer)

  zeros_same : zeros_stamped check_table stamp_table four_table (drop at buffer) note ≡ zeros_of note
  zeros_same = omega (arith, end_is (drop at buffer) note fits)

  line_same : take at buffer ++ frame_stamped check_table stamp_table four_table (drop at buffer) note
      ≡ written_at (frame note) buffer at
  line_same =
      ap (λ (l : List ℕ). take at buffer ++ l)
      (frame_fits (drop at buffer) note fits
      ∙ ap (λ (l : List ℕ). cells (frame note) ++ l) (drop-drop (ticks_of note) at buffer))

-- the two writers are one function
pub writers_are_one : (note buffer : List ℕ) (at : ℕ)
    → by_bytes note buffer at ≡ by_bits note buffer at
unfolding write_by write_of
writers_are_one note buffer at =
    go (note_fits (length note)) (ltb (length buffer - at) (ticks_of note))
    (λ e. ltb-false (length buffer - at) (ticks_of note) e)
  where
    answered : Bool → Bool → ℕ → Result ℕ Refusal
    answered fit short zeros =
        if fit then (if short then Err NoRoom else Ok zeros) else Err NoteLength

    laid : ℕ
    laid = zeros_stamped check_table stamp_table four_table (drop at buffer) note

    go : (fit short : Bool) → (short ≡ false → ticks_of note ≤ length buffer - at)
        → written (answered fit short laid)
        (left_by check_table stamp_table four_table (answered fit short laid) note buffer at)
        ≡ written (answered fit short (zeros_of note))
        (buffer_after (answered fit short (zeros_of note)) (frame note) buffer at)
    go false short room = refl
    go true true room = refl
    go true false room =
        ap₂ written (ap Ok (zeros_same note buffer at (room refl)))
        (line_same note buffer at (room refl))
