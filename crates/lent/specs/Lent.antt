-- What the writer by whole bytes answers, and what it leaves in the caller's buffer, by tables that
-- are lent, whatever they hold. Assumes nothing.
use Rattle.std.specs.Prelude.{List, ◌++◌, ℕ, ◌+◌, ◌-◌, ◌*◌, Result, Ok, Err, ltb, length, take, drop, if◌then◌else◌}
use Rattle.common.specs.declared.Refusal.{Refusal}
use Rattle.common.specs.declared.Refusal.TheVariants.{NoteLength, NoRoom}
use Rattle.line.specs.Frame.{ticks_of}
use Rattle.line.specs.Line.{note_fits}
use Rattle.laid.specs.Laid.{end_stamped, frame_stamped}

module _ (checks stamps fours : List ℕ) where
  -- what the content takes, as it was laid out, beyond its own bits
  abbrev pub zeros_stamped : List ℕ → List ℕ → ℕ
  zeros_stamped buffer note =
      end_stamped checks stamps fours buffer note - (8 + 8 * (length note + 2))

  -- the refusals of the first writer, in its order: "For a line: 6, then 8"
  unfoldable pub write_by : List ℕ → List ℕ → ℕ → Result ℕ Refusal
  write_by note buffer at =
      if note_fits (length note)
      then (if ltb (length buffer - at) (ticks_of note)
      then Err NoRoom else Ok (zeros_stamped (drop at buffer) note))
      else Err NoteLength

  abbrev pub left_by : Result ℕ Refusal → List ℕ → List ℕ → ℕ → List ℕ
  left_by (Ok z) note buffer at =
      take at buffer ++ frame_stamped checks stamps fours (drop at buffer) note
  left_by (Err k) note buffer at = buffer

  abbrev pub buffer_by : List ℕ → List ℕ → ℕ → List ℕ
  buffer_by note buffer at = left_by (write_by note buffer at) note buffer at
