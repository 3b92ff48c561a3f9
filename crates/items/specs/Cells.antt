-- Cells that a call must leave, each by its place. Assumes nothing.
use Rattle.std.specs.Prelude.{Bool, List, ℕ, ◌/◌, eqb, length, get_or}
use Rattle.std.specs.List.{list_all}
use Rattle.std.specs.Simd.{first_chunks}
use Rattle.items.specs.Item.{three_bytes}

-- a cell where nobody has written, and where there is none
abbrev pub untouched : ℕ
untouched = 9

abbrev pub cell_at : List ℕ → ℕ → ℕ
cell_at cells k = get_or cells k untouched

-- six bytes for each wanted cell: its place, and what it must hold
abbrev pub cell_size : ℕ
cell_size = 6

abbrev pub three_from : List ℕ → ℕ → ℕ → ℕ → ℕ
three_from wanted k m n = three_bytes (get_or wanted k 0) (get_or wanted m 0) (get_or wanted n 0)

abbrev pub cell_is : List ℕ → List ℕ → Bool
cell_is cells wanted = eqb (cell_at cells (three_from wanted 0 1 2)) (three_from wanted 3 4 5)

unfoldable pub cells_are : List ℕ → List ℕ → Bool
cells_are cells wanted =
    list_all (cell_is cells) (first_chunks cell_size (length wanted / cell_size) wanted)
