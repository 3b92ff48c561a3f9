-- The line of a list is as long as its ticks, and two flags take eight ticks more for each note but
-- the first. Assumes nothing.
use Rattle.std.specs.Prelude.{◌≡◌, refl, ℕ, ◌+◌, ◌-◌, ◌*◌, length}
use Rattle.std.proofs.Common.{ap, arith, length-append}
use mathlib.Core.List.{List, [], ◌∷◌, ◌++◌, foldl}
use Rattle.line.specs.Frame.{flag_bits, frame, ticks_of}
use Rattle.flags.specs.declared.Between.{Between}
use Rattle.flags.specs.declared.Between.TheVariants.{SharedFlag, TwoFlags}
use Rattle.flags.specs.Flags.{behind_flag, next_frames, line_behind, list_line}
use Rattle.flags.specs.Flags.{with_note, total_ticks}

-- A frame is its opening flag and what stands behind it

pub flag_first : (note : List ℕ) → flag_bits ++ behind_flag note ≡ frame note
flag_first note = refl

behind_length : (note : List ℕ) → length (behind_flag note) + 8 ≡ ticks_of note
behind_length note =
    omega (arith, length-append flag_bits (behind_flag note), ap length (flag_first note))

-- and so is the line of a list
pub line_first : (between : Between) (note : List ℕ) (notes : List (List ℕ))
    → flag_bits ++ line_behind between (note ∷ notes) ≡ list_line between (note ∷ notes)
line_first between note notes = refl

-- The sum of the notes' ticks

shared_sum : (sum : ℕ) (notes : List (List ℕ))
    → foldl with_note sum notes ≡ sum + length (next_frames SharedFlag notes) + 8 * length notes
unfolding next_frames
shared_sum sum [] = omega arith
shared_sum sum (note ∷ notes) =
    omega (
      arith,
      shared_sum (with_note sum note) notes,
      behind_length note,
      length-append (behind_flag note) (next_frames SharedFlag notes),
    )

two_sum : (sum : ℕ) (notes : List (List ℕ))
    → foldl with_note sum notes ≡ sum + length (next_frames TwoFlags notes)
unfolding next_frames
two_sum sum [] = omega arith
two_sum sum (note ∷ notes) =
    omega (
      arith,
      two_sum (with_note sum note) notes,
      length-append (frame note) (next_frames TwoFlags notes),
    )

-- "ticks in all": a tick for each bit of the line
pub line_length : (between : Between) (notes : List (List ℕ))
    → length (list_line between notes) ≡ total_ticks between notes
line_length SharedFlag [] = refl
line_length TwoFlags [] = refl
line_length SharedFlag (note ∷ notes) =
    omega (
      arith,
      shared_sum (with_note 0 note) notes,
      length-append (frame note) (next_frames SharedFlag notes),
    )
line_length TwoFlags (note ∷ notes) =
    omega (
      arith,
      two_sum (with_note 0 note) notes,
      length-append (frame note) (next_frames TwoFlags notes),
    )

-- "the last line's total grows by 8 for each note after the first"
pub total_grows : (notes : List (List ℕ))
    → total_ticks TwoFlags notes ≡ total_ticks SharedFlag notes + 8 * (length notes - 1)
total_grows [] = refl
total_grows (note ∷ notes) =
    omega (arith, shared_sum (with_note 0 note) notes)
