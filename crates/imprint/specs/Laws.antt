-- Laws of a stamp's cells: by the right table they are the twelve bits, and those behind the ones
-- that count are gone once as many cells are stored there. Assumes nothing.
use Rattle.std.specs.Prelude.{◌≡◌, refl, Bool, List, [], ◌∷◌, ◌++◌, ℕ, zero, suc, ◌+◌, ◌/◌, ◌%◌, ◌≤◌, ◌<◌, length, set}
use Rattle.std.proofs.Common.{sym, ap, ◌∙◌, arith}
use Rattle.std.proofs.lemmas.List.Edits.{sets}
use Rattle.line.specs.Bits.{low_bits, cells}
use Rattle.line.specs.Laws.Bits.{low_bits_length, cells_length}
use Rattle.pen.specs.Laws.{cells_sets}
use Rattle.stamp.specs.Stamp.{twelve, four_table}
use Rattle.stamp.specs.Laws.{four_table_at}
use Rattle.imprint.specs.Imprint.{twelve_by}

-- Stores over stores

set_again : (l : List ℕ) (i x y : ℕ) → set (set l i x) i y ≡ set l i y
set_again [] i x y = refl
set_again (a ∷ l) zero x y = refl
set_again (a ∷ l) (suc i) x y = ap (λ (r : List ℕ). a ∷ r) (set_again l i x y)

set_later : (l : List ℕ) (i j x y : ℕ) → i < j → set (set l j y) i x ≡ set (set l i x) j y
set_later [] i j x y h = refl
set_later (a ∷ l) zero zero x y h = absurd (omega arith)
set_later (a ∷ l) zero (suc j) x y h = refl
set_later (a ∷ l) (suc i) zero x y h = absurd (omega arith)
set_later (a ∷ l) (suc i) (suc j) x y h =
    ap (λ (r : List ℕ). a ∷ r) (set_later l i j x y (omega arith))

sets_later : (l : List ℕ) (i j x : ℕ) (ys : List ℕ) → i < j
    → set (sets l j ys) i x ≡ sets (set l i x) j ys
sets_later l i j x [] h = refl
sets_later l i j x (y ∷ ys) h =
    sets_later (set l j y) i (suc j) x ys (omega arith)
    ∙ ap (λ (r : List ℕ). sets r (suc j) ys) (set_later l i j x y h)

-- at least as many stores from the same place on: the first ones are as if never made
sets_over : (l : List ℕ) (i : ℕ) (xs ys : List ℕ) → length xs ≤ length ys
    → sets (sets l i xs) i ys ≡ sets l i ys
sets_over l i [] ys h = refl
sets_over l i (x ∷ xs) [] h = absurd (omega arith)
sets_over l i (x ∷ xs) (y ∷ ys) h =
    ap (λ (r : List ℕ). sets r (suc i) ys)
    (sets_later (set l i x) i (suc i) y xs (omega arith)
    ∙ ap (λ (r : List ℕ). sets r (suc i) xs) (set_again l i x y))
    ∙ sets_over (set l i y) (suc i) xs ys (omega arith)

-- so bits of no account behind others go, once as many are put down there
pub over_gone : (l : List ℕ) (at : ℕ) (bits over next : List Bool) → length over ≤ length next
    → sets (sets l at (cells (bits ++ over))) (at + length bits) (cells next)
    ≡ sets l at (cells (bits ++ next))
over_gone l at bits over next h =
    let few : length (cells over) ≤ length (cells next) =
    omega (arith, cells_length over, cells_length next) in
    ap (λ (r : List ℕ). sets r (at + length bits) (cells next)) (cells_sets l at bits over)
    ∙ sets_over (sets l at (cells bits)) (at + length bits) (cells over) (cells next) few
    ∙ sym (cells_sets l at bits next)

-- A stamp's three stores of four

pub twelve_is : (l : List ℕ) (at e : ℕ)
    → twelve_by four_table l at e ≡ sets l at (cells (twelve e))
twelve_is l at e =
    let a = low_bits 4 (e % 16) in
    let b = low_bits 4 (e / 16 % 16) in
    let c = low_bits 4 (e / 2048 % 4) in
    let p : at + length a ≡ at + 4 = omega (arith, low_bits_length 4 (e % 16)) in
    let q : at + 4 + length b ≡ at + 8 = omega (arith, low_bits_length 4 (e / 16 % 16)) in
    rw (
      four_table_at (e % 16) (omega arith),
      four_table_at (e / 16 % 16) (omega arith),
      four_table_at (e / 2048 % 4) (omega arith),
    )
    (sym
    (cells_sets l at a (b ++ c)
    ∙ ap (λ (k : ℕ). sets (sets l at (cells a)) k (cells (b ++ c))) p
    ∙ cells_sets (sets l at (cells a)) (at + 4) b c
    ∙ ap (λ (k : ℕ). sets (sets (sets l at (cells a)) (at + 4) (cells b)) k (cells c)) q))
