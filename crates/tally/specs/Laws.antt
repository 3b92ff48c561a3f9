-- Ones counted in fives, a bit and a byte at a time, are the run and the zeros inserted. Assumes
-- nothing.
use Rattle.std.specs.Prelude.{◌≡◌, refl, Bool, true, false, not, ◌&&◌, ◌||◌, List, [], ◌∷◌, ◌++◌}
use Rattle.std.specs.Prelude.{ℕ, ◌+◌, ◌-◌, ◌*◌, ◌/◌, ◌%◌, ◌≤◌, ◌<◌, T, eqb, ltb, if◌then◌else◌}
use Rattle.std.proofs.Common.{ap, ap₂, append-nil, arith, eq-eqb, ne_eqb, eqb→eq}
use Rattle.common.specs.Tools.{eqb_elim, ltb_elim, if_elim, below→, and_left, and_right}
use Rattle.common.specs.Tools.{void}
use Rattle.line.specs.Bits.{low_bits, text_bits, one_if}
use Rattle.line.specs.Insertion.{run_after, zeros, run_over}
use Rattle.line.specs.Laws.Insertion.{run_over_lt, run_over_join}
use Rattle.tally.specs.declared.Tally.{Tally}
use Rattle.tally.specs.Tally.{tally, ones_after, closed_after, run_of, tallied, top_ones}

-- A bit

abbrev pub after_bit : ℕ → ℕ → Bool → Tally
after_bit ones closed b =
    tally (ones_after ones closed b) (closed_after (ones_after ones closed b) closed)

pub tallied_none : (ones closed : ℕ) → closed ≤ ones
    → tallied (tally ones closed) [] ≡ tally ones closed
unfolding zeros run_over
tallied_none ones closed l = ap₂ tally (omega arith) (omega arith)

pub tallied_bit : (ones closed : ℕ) (b : Bool) (bs : List Bool) → closed ≤ ones → ones < closed + 5
    → tallied (after_bit ones closed b) bs ≡ tallied (tally ones closed) (b ∷ bs)
unfolding zeros run_over
tallied_bit ones closed false bs l h =
    let same : closed - closed ≡ 0 = omega arith in
    rw (ne_eqb closed (closed + 5) (λ e. omega arith), same) (ap₂ tally (omega arith) (omega arith))
tallied_bit ones closed true bs l h =
    ltb_elim (λ t. tallied (after_bit ones closed true) bs
    ≡ counting (one_if (not t)) (if t then ones - closed + 1 else 0))
    (ones - closed) 4
    (λ few.
    let on : ones + 1 - closed ≡ ones - closed + 1 = omega arith in
    rw (ne_eqb (ones + 1) (closed + 5) (λ e. omega arith), on)
    (ap₂ tally (omega arith) (omega arith)))
    (λ many.
    let full : ones + 1 ≡ closed + 5 = omega arith in
    let none : ones + 1 - (ones + 1) ≡ 0 = omega arith in
    rw (eq-eqb (ones + 1) (closed + 5) full, none) (ap₂ tally (omega arith) (omega arith)))
  where
    counting : ℕ → ℕ → Tally
    counting z run =
        tally (closed + 5 * (z + zeros run bs) + run_over run bs) (closed + 5 * (z + zeros run bs))

-- the run stays below five, and the ones grow by one at most
pub bit_runs : (ones closed : ℕ) (b : Bool) → closed ≤ ones → ones < closed + 5
    → ((after_bit ones closed b).closed ≤ (after_bit ones closed b).ones)
    × (((after_bit ones closed b).ones < (after_bit ones closed b).closed + 5)
    × ((after_bit ones closed b).ones ≤ ones + 1))
bit_runs ones closed b l h = go (ones_after ones closed b) (few b)
  where
    few : (b : Bool) → (closed ≤ ones_after ones closed b) × (ones_after ones closed b ≤ ones + 1)
    few true = (omega arith, omega arith)
    few false = (omega arith, omega arith)

    go : (now : ℕ) → (closed ≤ now) × (now ≤ ones + 1)
        → (closed_after now closed ≤ now) × ((now < closed_after now closed + 5) × (now ≤ ones + 1))
    go now w =
        eqb_elim (λ t. ((if t then now else closed) ≤ now)
        × ((now < (if t then now else closed) + 5) × (now ≤ ones + 1))) now (closed + 5)
        (λ e. (omega arith, (omega arith, w.1)))
        (λ n. (w.0, (omega arith, w.1)))

-- Bytes

zeros_join : (run : ℕ) (xs ys : List Bool)
    → zeros run (xs ++ ys) ≡ zeros run xs + zeros (run_over run xs) ys
unfolding zeros run_over
zeros_join run [] ys = omega arith
zeros_join run (x ∷ xs) ys = omega (arith, zeros_join (run_after run x) xs ys)

tallied_run : (t : Tally) (bits : List Bool) → run_of (tallied t bits) ≡ run_over (run_of t) bits
tallied_run t bits = omega arith

tallied_join : (t : Tally) (xs ys : List Bool) → tallied t (xs ++ ys) ≡ tallied (tallied t xs) ys
tallied_join t xs ys =
    rw (tallied_run t xs, zeros_join (run_of t) xs ys, run_over_join (run_of t) xs ys)
    (ap₂ tally (omega arith) (omega arith))

pub tallied_byte : (t : Tally) (v : ℕ) (vs : List ℕ)
    → tallied t (text_bits 8 (v ∷ vs)) ≡ tallied (tallied t (low_bits 8 v)) (text_bits 8 vs)
unfolding text_bits
tallied_byte t v vs = tallied_join t (low_bits 8 v) (text_bits 8 vs)

pub tallied_last : (t : Tally) (v : ℕ) → tallied t (text_bits 8 (v ∷ [])) ≡ tallied t (low_bits 8 v)
unfolding text_bits
tallied_last t v = ap (tallied t) (append-nil (low_bits 8 v))

-- a tally of a note stays one: the run is below five, and the ones are those of the fives and the
-- run
pub tallied_runs : (t : Tally) (bits : List Bool) → t.ones < t.closed + 5
    → ((tallied t bits).closed ≤ (tallied t bits).ones)
    × ((tallied t bits).ones < (tallied t bits).closed + 5)
tallied_runs t bits h = (omega arith, omega (arith, run_over_lt (run_of t) bits (omega arith)))

-- a byte of which no five ones in a row can be part
abbrev calm : ℕ → Bool
calm v =
    eqb (v / 8 % 4) 3
    || (eqb (zeros 0 (low_bits 8 v)) 0 && eqb (run_over 0 (low_bits 8 v)) (top_ones v))

calm_byte : (v : ℕ) → v < 256 → eqb (v / 8 % 4) 3 ≡ false
    → T (eqb (zeros 0 (low_bits 8 v)) 0 && eqb (run_over 0 (low_bits 8 v)) (top_ones v))
calm_byte v h e = rw e at (below→ calm 256 (unfold zeros run_over low_bits in tt) v h)

-- an even byte ends the run at once
even_zeros : (run v : ℕ) → v % 2 ≡ 0 → zeros run (low_bits 8 v) ≡ zeros 0 (low_bits 8 v)
unfolding zeros low_bits
even_zeros run v e = rw (ne_eqb (v % 2) 1 (λ o. omega arith))

even_run : (run v : ℕ) → v % 2 ≡ 0 → run_over run (low_bits 8 v) ≡ run_over 0 (low_bits 8 v)
unfolding run_over low_bits
even_run run v e = rw (ne_eqb (v % 2) 1 (λ o. omega arith))

-- behind no run, or even: the byte counts as from none
counts_fresh : (run v : ℕ) → eqb (v % 2) 0 || eqb run 0 ≡ true
    → (zeros run (low_bits 8 v) ≡ zeros 0 (low_bits 8 v))
    × (run_over run (low_bits 8 v) ≡ run_over 0 (low_bits 8 v))
counts_fresh run v =
    eqb_elim (λ even. even || eqb run 0 ≡ true → Fresh) (v % 2) 0
    (λ e p. (even_zeros run v e, even_run run v e))
    (λ n. eqb_elim (λ none. none ≡ true → Fresh) run 0 (λ e p. rw e (refl, refl)) (λ m p. void p))
  where
    Fresh : Type 0
    Fresh =
        (zeros run (low_bits 8 v) ≡ zeros 0 (low_bits 8 v))
        × (run_over run (low_bits 8 v) ≡ run_over 0 (low_bits 8 v))

pub calm_tallied : (t : Tally) (v : ℕ) → v < 256 → eqb (v / 8 % 4) 3 ≡ false
    → eqb (v % 2) 0 || eqb (run_of t) 0 ≡ true
    → tally (t.closed + top_ones v) t.closed ≡ tallied t (low_bits 8 v)
calm_tallied t v h e o =
    let z = zeros 0 (low_bits 8 v) in
    let r = run_over 0 (low_bits 8 v) in
    let c = calm_byte v h e in
    let none : z ≡ 0 = eqb→eq z 0 (and_left (eqb z 0) (eqb r (top_ones v)) c) in
    let top : r ≡ top_ones v = eqb→eq r (top_ones v) (and_right (eqb z 0) (eqb r (top_ones v)) c) in
    let same = counts_fresh (run_of t) v o in
    ap₂ tally (omega (arith, same.0, same.1)) (omega (arith, same.0))

pub top_few : (v : ℕ) → top_ones v ≤ 4
top_few v =
    if_elim (λ (n : ℕ). n ≤ 4) (ltb v 128) (omega arith)
    (if_elim (λ (n : ℕ). n ≤ 4) (ltb v 192) (omega arith)
    (if_elim (λ (n : ℕ). n ≤ 4) (ltb v 224) (omega arith)
    (if_elim (λ (n : ℕ). n ≤ 4) (ltb v 240) (omega arith) (omega arith))))
