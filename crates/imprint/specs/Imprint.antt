-- A byte's stamp, and its cells over a buffer, one bit to a cell, by tables that are lent, whatever
-- they hold. Assumes nothing.
use Rattle.std.specs.Prelude.{List, ℕ, ◌+◌, ◌/◌, ◌%◌, leb, get_or, if◌then◌else◌}
use Rattle.std.proofs.lemmas.List.Edits.{sets}
use Rattle.stamp.specs.Stamp.{four_cells}

-- the stamp of a byte in a row; 0 where the table has none
unfoldable pub stamp_for : List ℕ → ℕ → ℕ → ℕ
stamp_for stamps row v = if leb row 1024 then get_or stamps (row + v % 256) 0 else 0

-- twelve cells, four by four
abbrev pub four_by : List ℕ → ℕ → List ℕ
four_by fours n = four_cells (get_or fours n 0)

abbrev pub twelve_by : List ℕ → List ℕ → ℕ → ℕ → List ℕ
twelve_by fours buffer at e =
    sets
    (sets (sets buffer at (four_by fours (e % 16))) (at + 4) (four_by fours (e / 16 % 16)))
    (at + 8) (four_by fours (e / 2048 % 4))

-- the room that they take
abbrev pub stamp_room : ℕ
stamp_room = 12
