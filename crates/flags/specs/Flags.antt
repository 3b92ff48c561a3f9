-- 02, P7: "Two flags between notes." How notes follow each other is a choice; this is the line of a
-- list for each, and its ticks. Assumes nothing.
use Rattle.std.specs.Prelude.{Bool, ℕ, ◌+◌, ◌-◌, ◌*◌, length, drop}
use mathlib.Core.List.{List, [], ◌∷◌, ◌++◌, foldl}
use Rattle.line.specs.Frame.{flag_bits, frame, ticks_of}
use Rattle.flags.specs.declared.Between.{Between}
use Rattle.flags.specs.declared.Between.TheVariants.{SharedFlag, TwoFlags}

-- "By default the list program now sends both a closing and an opening flag. The old sharing stays
-- as a choice for stations that ask."
abbrev pub usual : Between
usual = TwoFlags

-- The line

-- a frame behind its opening flag
abbrev pub behind_flag : List ℕ → List Bool
behind_flag note = drop (length flag_bits) (frame note)

-- the flag that opens a next note: 01, "a closing flag opens the next frame", so none is sent; or
-- one of its own
abbrev pub own_flag : Between → List Bool
own_flag SharedFlag = []
own_flag TwoFlags = flag_bits

-- what a next note brings to the line
abbrev pub next_frame : Between → List ℕ → List Bool
next_frame between note = own_flag between ++ behind_flag note

unfoldable pub next_frames : Between → List (List ℕ) → List Bool
next_frames between [] = []
next_frames between (note ∷ notes) = next_frame between note ++ next_frames between notes

-- behind the first flag, and from its first bit on
abbrev pub line_behind : Between → List (List ℕ) → List Bool
line_behind between [] = []
line_behind between (note ∷ notes) = behind_flag note ++ next_frames between notes

abbrev pub list_line : Between → List (List ℕ) → List Bool
list_line between [] = []
list_line between (note ∷ notes) = frame note ++ next_frames between notes

-- The ticks

-- "Each note's own tick count stays"
abbrev pub with_note : ℕ → List ℕ → ℕ
with_note sum note = sum + ticks_of note

-- each note brings its ticks; a shared flag, that of each note but the first, counts once
abbrev pub in_all : Between → ℕ → ℕ → ℕ
in_all SharedFlag sum notes = sum - length flag_bits * (notes - 1)
in_all TwoFlags sum notes = sum

-- 01: "ticks in all (0 for none)"
abbrev pub total_ticks : Between → List (List ℕ) → ℕ
total_ticks between notes = in_all between (foldl with_note 0 notes) (length notes)
