-- Bytes for a call, laid on a desk pattern by pattern. Assumes nothing.
use Rattle.std.specs.Prelude.{List, [], ℕ, zero, suc, ◌+◌, ◌-◌, min, ltb, length, take, drop, if◌then◌else◌}
use Rattle.std.proofs.lemmas.List.Edits.{sets}

-- a part of bytes, from a place to a place, as far as there are bytes
abbrev pub bytes_to : List ℕ → ℕ → ℕ → List ℕ
bytes_to bytes from to = take (to - from) (drop from bytes)

abbrev pub part_of : List ℕ → ℕ → ℕ → List ℕ
part_of bytes from to =
    bytes_to bytes (min from (min to (length bytes))) (min to (length bytes))

-- so many bytes were read; where there may have been more, none count
abbrev pub all_read : List ℕ → ℕ → List ℕ
all_read bytes n = if ltb n (length bytes) then take n bytes else []

-- the cells of a desk, and where what lies on it ends
pub record Desk : Type 0 where
  pub cells : List ℕ
  pub end : ℕ

abbrev pub desk : List ℕ → ℕ → Desk
desk cells end = record { cells = cells; end = end }

-- a pattern behind what lies there, if it fits
abbrev pub laid : List ℕ → Desk → Desk
laid pattern d =
    if ltb (length d.cells) (d.end + length pattern) then d
    else desk (sets d.cells d.end pattern) (d.end + length pattern)

-- so many times
unfoldable pub laid_times : ℕ → List ℕ → Desk → Desk
laid_times zero pattern d = d
laid_times (suc n) pattern d = laid pattern (laid_times n pattern d)
