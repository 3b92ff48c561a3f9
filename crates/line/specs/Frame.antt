-- A note's frame as it goes over the line, its inserted zeros and its ticks. Assumes nothing.
use Rattle.std.specs.Prelude.{Bool, true, false, List, [], ◌∷◌, ◌++◌, ℕ, length, take, drop}
use Rattle.line.specs.Bits.{text_bits, from_low}
use Rattle.line.specs.Check.{sdlc, ones, check_over, check_bits}
use Rattle.line.specs.Insertion.{stuff, zeros}

-- 01, The part we model: "the flag is 01111110"
abbrev pub flag_bits : List Bool
flag_bits = false ∷ true ∷ true ∷ true ∷ true ∷ true ∷ true ∷ false ∷ []

-- "In SDLC all characters have eight bits": the note's bytes, then their check from ones
abbrev pub note_bits : List ℕ → List Bool
note_bits note = text_bits 8 note

abbrev pub check_of : List ℕ → ℕ
check_of note = check_over sdlc ones (note_bits note)

abbrev pub content_of : List ℕ → List Bool
content_of note = note_bits note ++ check_bits (check_of note)

-- the check as two bytes, the first bit of each lowest, and the note followed by them
unfoldable pub check_bytes : ℕ → List ℕ
check_bytes r = from_low (take 8 (check_bits r)) ∷ from_low (drop 8 (check_bits r)) ∷ []

abbrev pub with_check : List ℕ → List ℕ
with_check note = note ++ check_bytes (check_of note)

-- flag, content with its inserted zeros, flag
abbrev pub frame : List ℕ → List Bool
frame note = flag_bits ++ (stuff 0 (content_of note) ++ flag_bits)

-- 01, Note list and line: "zeros inserted, ticks with both flags"
abbrev pub zeros_of : List ℕ → ℕ
zeros_of note = zeros 0 (content_of note)

abbrev pub ticks_of : List ℕ → ℕ
ticks_of note = length (frame note)
