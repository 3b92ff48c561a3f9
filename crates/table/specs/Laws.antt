-- Laws of tables: the entry at a place is what the rule gives for it; a byte counts by its low
-- eight bits. Assumes nothing.
use Rattle.std.specs.Prelude.{◌≡◌, ℕ, zero, suc, ◌+◌, ◌%◌, ◌^◌, ◌<◌, get_or}
use Rattle.std.proofs.Common.{ap, ◌∙◌, add-zero, zero-add, arith}
use Rattle.line.specs.Bits.{low_bits}
use Rattle.line.specs.Laws.Bits.{low_bits_length, from_low_mod, low_bits_from_low}
use Rattle.table.specs.Entries.{entries}
use Rattle.table.specs.Table.{check_entry, check_table}

entries_from : (rule : ℕ → ℕ) (k n i : ℕ) → i < n → get_or (entries rule k n) i 0 ≡ rule (k + i)
unfolding entries
entries_from rule k zero i h = absurd (omega arith)
entries_from rule k (suc n) zero h = rw (add-zero k)
entries_from rule k (suc n) (suc i) h =
    let e : suc k + i ≡ k + suc i = omega arith in
    entries_from rule (suc k) n i (omega arith) ∙ ap rule e

pub entries_at : (rule : ℕ → ℕ) (n i : ℕ) → i < n → get_or (entries rule 0 n) i 0 ≡ rule i
entries_at rule n i h = entries_from rule 0 n i h ∙ ap rule (zero-add i)

pub check_table_at : (k : ℕ) → k < 256 → get_or check_table k 0 ≡ check_entry k
unfolding check_table
check_table_at k h = entries_at check_entry 256 k h

pub low_bits_mod : (n v : ℕ) → low_bits n (v % 2 ^ n) ≡ low_bits n v
low_bits_mod n v =
    rw (low_bits_length n v, from_low_mod n v) at (low_bits_from_low (low_bits n v))
