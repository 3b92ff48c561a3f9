-- Laws of zero insertion, over any stream of bits: joining, lengths, the way back, and no six ones
-- in a row. Assumes nothing.
use Rattle.std.specs.Prelude.{◌≡◌, refl, ◌≢◌, Bool, true, false, not, List, [], ◌∷◌, ◌++◌, ℕ, suc, ◌+◌, ◌*◌, ◌≤◌, ◌<◌, length, replicate, if◌then◌else◌}
use Rattle.std.proofs.Common.{ap, append_assoc, arith, length-append, ne_eqb, le-ltb, lt-ltb}
use Rattle.common.specs.Tools.{ltb_elim}
use Rattle.line.specs.Bits.{one_if}
use Rattle.line.specs.Insertion.{owes, run_after, counted, zero_if, stuff, zeros, run_over}
use Rattle.line.specs.Insertion.{seen, unstuff}

pub stuff_join : (run : ℕ) (xs ys : List Bool)
    → stuff run (xs ++ ys) ≡ stuff run xs ++ stuff (run_over run xs) ys
unfolding stuff run_over
stuff_join run [] ys = refl
stuff_join run (x ∷ xs) ys =
    rw (
      stuff_join (run_after run x) xs ys,
      append_assoc (zero_if (owes run x)) (stuff (run_after run x) xs)
          (stuff (run_over (run_after run x) xs) ys),
    )

pub run_over_join : (run : ℕ) (xs ys : List Bool)
    → run_over run (xs ++ ys) ≡ run_over (run_over run xs) ys
unfolding run_over
run_over_join run [] ys = refl
run_over_join run (x ∷ xs) ys = run_over_join (run_after run x) xs ys

zero_if_length : (t : Bool) → length (zero_if t) ≡ one_if t
zero_if_length true = refl
zero_if_length false = refl

pub stuff_length : (run : ℕ) (bs : List Bool) → length (stuff run bs) ≡ length bs + zeros run bs
unfolding stuff zeros
stuff_length run [] = refl
stuff_length run (b ∷ bs) =
    omega (
      arith,
      length-append (zero_if (owes run b)) (stuff (run_after run b) bs),
      stuff_length (run_after run b) bs,
      zero_if_length (owes run b),
    )

-- a run that a history made stays below five
pub run_over_lt : (run : ℕ) (bs : List Bool) → run < 5 → run_over run bs < 5
unfolding run_over
run_over_lt run [] h = h
run_over_lt run (false ∷ bs) h = run_over_lt 0 bs (omega arith)
run_over_lt run (true ∷ bs) h =
    ltb_elim (λ t. run_over (if t then run + 1 else 0) bs < 5) run 4
    (λ l. run_over_lt (run + 1) bs (omega arith))
    (λ l. run_over_lt 0 bs (omega arith))

-- five bits for each inserted zero
pub zeros_bound : (run : ℕ) (bs : List Bool) → 5 * zeros run bs ≤ run + length bs
unfolding zeros
zeros_bound run [] = omega arith
zeros_bound run (false ∷ bs) = omega (arith, zeros_bound 0 bs)
zeros_bound run (true ∷ bs) =
    ltb_elim (λ t. 5 * (one_if (not t) + zeros (if t then run + 1 else 0) bs) ≤ run + suc
    (length bs)) run 4
    (λ l. omega (arith, zeros_bound (run + 1) bs))
    (λ l. omega (arith, zeros_bound 0 bs))

-- from any run, also one that no history makes, since that counts as four
pub zeros_most : (run : ℕ) (bs : List Bool) → 5 * zeros run bs ≤ 4 + length bs
unfolding zeros
zeros_most run [] = omega arith
zeros_most run (false ∷ bs) = omega (arith, zeros_bound 0 bs)
zeros_most run (true ∷ bs) =
    ltb_elim (λ t. 5 * (one_if (not t) + zeros (if t then run + 1 else 0) bs) ≤ 4 + suc (length bs))
    run 4
    (λ l. omega (arith, zeros_bound (run + 1) bs))
    (λ l. omega (arith, zeros_bound 0 bs))

-- taking the inserted zeros out again gives the content
pub unstuff_stuff : (run : ℕ) (bs : List Bool) → run < 5 → unstuff run (stuff run bs) ≡ bs
unfolding stuff unstuff
unstuff_stuff run [] h = refl
unstuff_stuff run (false ∷ bs) h =
    rw (ne_eqb run 5 (λ e. omega arith))
    (ap (λ (l : List Bool). false ∷ l) (unstuff_stuff 0 bs (omega arith)))
unstuff_stuff run (true ∷ bs) h =
    rw (ne_eqb run 5 (λ e. omega arith))
    (ap (λ (l : List Bool). true ∷ l)
    (ltb_elim (λ t. unstuff (run + 1) (zero_if (not t) ++ stuff (if t then run + 1 else 0) bs)
    ≡ bs) run 4
    (λ l. unstuff_stuff (run + 1) bs (omega arith))
    (λ l. let e : run ≡ 4 = omega arith in rw e (unstuff_stuff 0 bs (omega arith)))))

-- after a run of ones this stream holds no six ones in a row, and ends in fewer than five
abbrev pub Calm : ℕ → List Bool → Type 0
Calm run [] = run < 5
Calm run (true ∷ bs) = (run < 5) × Calm (run + 1) bs
Calm run (false ∷ bs) = Calm 0 bs

pub stuff_calm : (run : ℕ) (bs : List Bool) → run < 5 → Calm run (stuff run bs)
unfolding stuff
stuff_calm run [] h = h
stuff_calm run (false ∷ bs) h = stuff_calm 0 bs (omega arith)
stuff_calm run (true ∷ bs) h = (
  h,
  ltb_elim (λ t. Calm (run + 1) (zero_if (not t) ++ stuff (if t then run + 1 else 0) bs)) run 4
      (λ l. stuff_calm (run + 1) bs (omega arith))
      (λ l. stuff_calm 0 bs (omega arith)),
)

calm_six : (run : ℕ) (xs ys : List Bool) → Calm run (xs ++ (replicate 6 true ++ ys)) → ⊥
calm_six run [] ys c = omega arith
calm_six run (true ∷ xs) ys c = calm_six (run + 1) xs ys c.1
calm_six run (false ∷ xs) ys c = calm_six 0 xs ys c

-- no six ones in a row among the content and its zeros
pub no_six_lem : (bs xs ys : List Bool) → stuff 0 bs ≢ xs ++ (replicate 6 true ++ ys)
no_six_lem bs xs ys e = calm_six 0 xs ys (rw e at (stuff_calm 0 bs (omega arith)))

-- the ones in a row with this bit decide both what is owed and the run

pub counted_fifth : (run : ℕ) (b : Bool) → 5 ≤ seen run b
    → counted run b ≡ record { run = 0; owed = true }
counted_fifth run true h = rw (le-ltb run 4 (omega arith))
counted_fifth run false h = absurd (omega arith)

pub counted_below : (run : ℕ) (b : Bool) → seen run b < 5
    → counted run b ≡ record { run = seen run b; owed = false }
counted_below run true h = rw (lt-ltb run 4 (omega arith))
counted_below run false h = refl
