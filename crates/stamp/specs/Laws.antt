-- Laws of the insertion table: a stamp's parts, and the cells of four bits. Assumes nothing.
use Rattle.std.specs.Prelude.{◌≡◌, Bool, List, [], ◌∷◌, ◌++◌, ℕ, ◌+◌, ◌-◌, ◌*◌, ◌/◌, ◌%◌, ◌^◌, ◌≤◌, ◌<◌, length, get_or, take, drop}
use Rattle.std.proofs.Common.{sym, ap, ap₂, ◌∙◌, append_assoc, arith, pow_mono, length-take, length-drop, take-append-drop}
use Rattle.line.specs.Bits.{odd, low_bits, from_low, one_if, cells}
use Rattle.line.specs.Insertion.{zeros, run_over}
use Rattle.line.specs.Laws.Bits.{low_bits_length, low_bits_split, from_low_lt, low_bits_from_low}
use Rattle.line.specs.Laws.Insertion.{stuff_length, zeros_most, run_over_lt}
use Rattle.line.specs.Laws.Bits.{bit_few}
use Rattle.table.specs.Laws.{entries_at, low_bits_mod}
use Rattle.stamp.specs.Stamp.{sent_as, stamp_of, twelve, count_in, run_in, stamp_entry, stamp_table}
use Rattle.stamp.specs.Stamp.{four_cells, in_one, four_entry, four_table}

stamp_table_at : (k : ℕ) → k < 1280 → get_or stamp_table k 0 ≡ stamp_entry k
unfolding stamp_table
stamp_table_at k h = entries_at stamp_entry 1280 k h

-- cells in one number: the first of them, and those behind the first, the second and the third
lowest : (a z : ℕ) → a ≤ 1 → (a + 256 * z) % 256 ≡ a
lowest a z ha = omega arith

behind : (a z : ℕ) → a ≤ 1 → (a + 256 * z) / 256 ≡ z
behind a z ha = omega arith

behind_two : (a b z : ℕ) → a ≤ 1 → b ≤ 1 → (a + 256 * (b + 256 * z)) / 65536 ≡ z
behind_two a b z ha hb = omega arith

behind_three : (a b c z : ℕ) → a ≤ 1 → b ≤ 1 → c ≤ 1
    → (a + 256 * (b + 256 * (c + 256 * z))) / 16777216 ≡ z
behind_three a b c z ha hb hc = omega arith

four_is : (a b c d : Bool)
    → four_cells (in_one (cells (a ∷ b ∷ c ∷ d ∷ []))) ≡ cells (a ∷ b ∷ c ∷ d ∷ [])
unfolding four_cells in_one cells
four_is a b c d =
    let fa = bit_few a in
    let fb = bit_few b in
    let fc = bit_few c in
    let w = one_if d + 256 * 0 in
    let z = one_if c + 256 * w in
    let y = one_if b + 256 * z in
    rw (
      lowest (one_if a) y fa,
      behind (one_if a) y fa,
      lowest (one_if b) z fb,
      behind_two (one_if a) (one_if b) z fa fb,
      lowest (one_if c) w fc,
      behind_three (one_if a) (one_if b) (one_if c) w fa fb fc,
      lowest (one_if d) 0 (bit_few d),
    )

-- the cells of four bits, as the table has them
pub four_table_at : (n : ℕ) → n < 16 → four_cells (get_or four_table n 0) ≡ cells (low_bits 4 n)
unfolding four_table low_bits
four_table_at n h =
    ap four_cells (entries_at four_entry 16 n h)
    ∙ four_is (odd n) (odd (n / 2)) (odd (n / 2 / 2)) (odd (n / 2 / 2 / 2))

-- A stamp's parts

-- what a stamp says of the byte behind this run: the bits sent stand first, up to four of no
-- account behind them, they are so many, and this run is left
pub record Says (run v e : ℕ) : Type 0 where
  pub over : List Bool
  pub few : length over ≤ 4
  pub sent : twelve e ≡ sent_as run v ++ over
  pub count : count_in e ≡ length (sent_as run v)
  pub left : run_in e ≡ run_over run (low_bits 8 v)

module _ (run v : ℕ) (few : run < 5) where
  abbrev bits : List Bool
  bits = sent_as run v

  abbrev e : ℕ
  e = stamp_of run v

  abbrev z : ℕ
  z = zeros run (low_bits 8 v)

  size : length bits ≡ 8 + z
  size = omega (arith, stuff_length run (low_bits 8 v), low_bits_length 8 v)

  two : z ≤ 2
  two = omega (arith, zeros_most run (low_bits 8 v), low_bits_length 8 v)

  eight : length (take 8 bits) ≡ 8
  eight = length-take 8 bits ∙ omega (arith, size)

  rest : length (drop 8 bits) ≡ z
  rest = length-drop 8 bits ∙ omega (arith, size)

  first_lt : from_low (take 8 bits) < 256
  first_lt = rw eight at (from_low_lt (take 8 bits))

  late_lt : from_low (drop 8 bits) < 4
  late_lt = omega (arith, rw rest at (from_low_lt (drop 8 bits)), pow_mono {i = z} {j = 2} two)

  stamp_first : e % 256 ≡ from_low (take 8 bits)
  stamp_first = omega (arith, first_lt)

  stamp_late : e / 2048 % 4 ≡ from_low (drop 8 bits)
  stamp_late = omega (arith, first_lt, late_lt, run_over_lt run (low_bits 8 v) few)

  stamp_count : e / 8192 ≡ z
  stamp_count = omega (arith, first_lt, late_lt, run_over_lt run (low_bits 8 v) few)

  stamp_run : run_in e ≡ run_over run (low_bits 8 v)
  stamp_run = omega (arith, first_lt, late_lt, run_over_lt run (low_bits 8 v) few)

  -- the eight bits in two fours
  stamp_eight : low_bits 4 (e % 16) ++ low_bits 4 (e / 16 % 16) ≡ take 8 bits
  stamp_eight =
      ap₂ (λ (xs ys : List Bool). xs ++ ys) (low_bits_mod 4 e) (low_bits_mod 4 (e / 16))
      ∙ sym (low_bits_split 4 4 e)
      ∙ sym (low_bits_mod 8 e)
      ∙ ap (low_bits 8) stamp_first
      ∙ (rw eight at (low_bits_from_low (take 8 bits)))

  abbrev surplus : List Bool
  surplus = low_bits (4 - z) (from_low (drop 8 bits) / 2 ^ z)

  -- the others, and up to four of no account
  stamp_others : low_bits 4 (e / 2048 % 4) ≡ drop 8 bits ++ surplus
  stamp_others =
      let four : 4 ≡ z + (4 - z) = omega (arith, two) in
      let late = from_low (drop 8 bits) in
      ap (low_bits 4) stamp_late
      ∙ ap (λ (n : ℕ). low_bits n late) four
      ∙ low_bits_split z (4 - z) late
      ∙ ap (λ (l : List Bool). l ++ surplus) (rw rest at (low_bits_from_low (drop 8 bits)))

  pub stamp_says : Says run v e
  stamp_says = record {
    over = surplus;
    few = omega (arith, low_bits_length (4 - z) (from_low (drop 8 bits) / 2 ^ z));
    sent =
        sym (append_assoc (low_bits 4 (e % 16)) (low_bits 4 (e / 16 % 16)) (low_bits 4 (e / 2048 % 4)))
        ∙ ap₂ (λ (xs ys : List Bool). xs ++ ys) stamp_eight stamp_others
        ∙ sym (append_assoc (take 8 bits) (drop 8 bits) surplus)
        ∙ ap (λ (l : List Bool). l ++ surplus) (take-append-drop 8 bits);
    count = omega (arith, stamp_count, size);
    left = stamp_run;
  }

-- the table's stamp for a run and a byte
pub table_says : (run v : ℕ) → run < 5 → Says run v (get_or stamp_table (run * 256 + v % 256) 0)
table_says run v few =
    let k = run * 256 + v % 256 in
    let p : k / 256 ≡ run = omega arith in
    let q : k % 256 ≡ v % 256 = omega arith in
    let same : stamp_of run (v % 256) ≡ stamp_of run v = rw (low_bits_mod 8 v) in
    let entry : get_or stamp_table k 0 ≡ stamp_of run v =
    stamp_table_at k (omega arith) ∙ ap₂ stamp_of p q ∙ same in
    rw entry (stamp_says run v few)
