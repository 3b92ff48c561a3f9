-- 02, P6: "for each run of ones (0 to 4) and byte what is sent and which run is left". Assumes
-- nothing.
use Rattle.std.specs.Prelude.{Bool, List, [], ◌∷◌, ◌++◌, ℕ, ◌+◌, ◌*◌, ◌/◌, ◌%◌, take, drop}
use Rattle.line.specs.Bits.{low_bits, from_low, cells}
use Rattle.line.specs.Insertion.{stuff, zeros, run_over}
use Rattle.table.specs.Entries.{entries}

-- a byte behind a run of ones, as it is sent
abbrev pub sent_as : ℕ → ℕ → List Bool
sent_as run v = stuff run (low_bits 8 v)

-- A stamp is one number. From its low end on: the eight bits that are sent first, the run that is
-- left (three places), the bits behind the eighth (two), and how many zeros were inserted.
abbrev pub stamp_of : ℕ → ℕ → ℕ
stamp_of run v =
    from_low (take 8 (sent_as run v)) + 256 * run_over run (low_bits 8 v)
    + 2048 * from_low (drop 8 (sent_as run v)) + 8192 * zeros run (low_bits 8 v)

-- its parts again: the twelve bits that are put down for it, of which those behind the ones sent
-- are of no account, how many count, and the run that is left
abbrev pub twelve : ℕ → List Bool
twelve e = low_bits 4 (e % 16) ++ (low_bits 4 (e / 16 % 16) ++ low_bits 4 (e / 2048 % 4))

abbrev pub count_in : ℕ → ℕ
count_in e = 8 + e / 8192

abbrev pub run_in : ℕ → ℕ
run_in e = e / 256 % 8

-- a row of 256 for each run
abbrev pub stamp_entry : ℕ → ℕ
stamp_entry k = stamp_of (k / 256) (k % 256)

unfoldable pub stamp_table : List ℕ
stamp_table = entries stamp_entry 0 1280

-- Four cells in one number, the first one lowest, and the number of four bits' cells.

unfoldable pub four_cells : ℕ → List ℕ
four_cells x = x % 256 ∷ x / 256 % 256 ∷ x / 65536 % 256 ∷ x / 16777216 % 256 ∷ []

unfoldable pub in_one : List ℕ → ℕ
in_one [] = 0
in_one (x ∷ xs) = x + 256 * in_one xs

abbrev pub four_entry : ℕ → ℕ
four_entry n = in_one (cells (low_bits 4 n))

unfoldable pub four_table : List ℕ
four_table = entries four_entry 0 16
