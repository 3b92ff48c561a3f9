-- Laws of the pen: bits put down one after another, and the room that they take. Assumes nothing.
use Rattle.std.specs.Prelude.{◌≡◌, refl, Bool, true, List, [], ◌∷◌, ◌++◌, ℕ, suc, ◌+◌, ◌-◌, ◌≤◌, ◌<◌, ltb, length, set}
use Rattle.std.proofs.Common.{sym, ap, ap₂, ◌∙◌, arith, add-zero, le-ltb, lt-ltb, length-append}
use Rattle.std.proofs.lemmas.List.Edits.{sets}
use Rattle.std.proofs.Math.Seq.{length-sets}
use Rattle.common.specs.Tools.{ltb_elim}
use Rattle.line.specs.Bits.{low_bits, cells}
use Rattle.line.specs.Insertion.{stuff, run_over}
use Rattle.line.specs.Frame.{flag_bits}
use Rattle.line.specs.Laws.Bits.{low_bits_length, cells_join, cells_length}
use Rattle.line.specs.Laws.Insertion.{stuff_join, stuff_length, run_over_join, zeros_most}
use Rattle.pen.specs.Pen.{Sheet, sheet, pen_at, bits_put, byte_cells, byte_put}
use Rattle.pen.specs.Pen.{flag_cells, flag_put}

-- Stores in a row, and then more

sets_join : (l : List ℕ) (i : ℕ) (xs ys : List ℕ)
    → sets l i (xs ++ ys) ≡ sets (sets l i xs) (i + length xs) ys
sets_join l i [] ys = rw add-zero
sets_join l i (x ∷ xs) ys =
    sets_join (set l i x) (suc i) xs ys
    ∙ ap (λ (k : ℕ). sets (sets (set l i x) (suc i) xs) k ys) (omega arith)

pub cells_sets : (l : List ℕ) (i : ℕ) (xs ys : List Bool)
    → sets l i (cells (xs ++ ys)) ≡ sets (sets l i (cells xs)) (i + length xs) (cells ys)
cells_sets l i xs ys =
    ap (sets l i) (cells_join xs ys)
    ∙ sets_join l i (cells xs) (cells ys)
    ∙ ap (λ (n : ℕ). sets (sets l i (cells xs)) (i + n) (cells ys)) (cells_length xs)

-- bits_put

pub put_none : (s : Sheet) → bits_put s [] ≡ s
unfolding bits_put stuff run_over cells
put_none s = ap (λ (n : ℕ). sheet s.buffer (pen_at n s.pen.run)) (add-zero s.pen.at)

pub put_join : (s : Sheet) (xs ys : List Bool) → bits_put s (xs ++ ys) ≡ bits_put (bits_put s xs) ys
unfolding bits_put
put_join s xs ys =
    let at = s.pen.at in
    let run = s.pen.run in
    let left = stuff run xs in
    let right = stuff (run_over run xs) ys in
    let both = stuff_join run xs ys in
    let n : at + length (stuff run (xs ++ ys)) ≡ at + length left + length right =
    ap (λ (l : List Bool). at + length l) both ∙ omega (arith, length-append left right) in
    ap₂ sheet
    (ap (λ (l : List Bool). sets s.buffer at (cells l)) both
    ∙ cells_sets s.buffer at left right)
    (ap₂ pen_at n (run_over_join run xs ys))

pub put_size : (s : Sheet) (bits : List Bool) → length (bits_put s bits).buffer ≡ length s.buffer
unfolding bits_put
put_size s bits = length-sets s.buffer s.pen.at (cells (stuff s.pen.run bits))

pub put_at : (s : Sheet) (bits : List Bool)
    → (bits_put s bits).pen.at ≡ s.pen.at + length (stuff s.pen.run bits)
unfolding bits_put
put_at s bits = refl

-- the pen behind a first part, and the cells that a second one takes from there
pub put_width : (s : Sheet) (xs ys : List Bool)
    → (bits_put s xs).pen.at + length (stuff (bits_put s xs).pen.run ys)
    ≡ s.pen.at + length (stuff s.pen.run (xs ++ ys))
unfolding bits_put
put_width s xs ys =
    let run = s.pen.run in
    let both = ap length (stuff_join run xs ys) in
    omega (arith, length-append (stuff run xs) (stuff (run_over run xs) ys))

-- Fewer cells than k are left from a place on, by a bound that does not hang on the place

pub none_fits : (len at k : ℕ) → len < k → true ≡ ltb (len - at) k
none_fits len at k h = sym (lt-ltb (len - at) k (omega arith))

pub lacks_above : (len at k : ℕ) → 1 ≤ k → k ≤ len → ltb (len - k) at ≡ ltb (len - at) k
lacks_above len at k h l =
    ltb_elim (λ t. t ≡ ltb (len - at) k) (len - k) at
    (λ m. sym (lt-ltb (len - at) k (omega arith)))
    (λ m. sym (le-ltb (len - at) k (omega arith)))

-- byte_put and flag_put, by the room that there is

pub byte_fits : (s : Sheet) (v : ℕ) → byte_cells ≤ length s.buffer - s.pen.at
    → byte_put s v ≡ bits_put s (low_bits 8 v)
unfolding byte_put
byte_fits s v h = rw (le-ltb (length s.buffer - s.pen.at) byte_cells h)

pub byte_left_out : (s : Sheet) (v : ℕ) → length s.buffer - s.pen.at < byte_cells
    → byte_put s v ≡ s
unfolding byte_put
byte_left_out s v h = rw (lt-ltb (length s.buffer - s.pen.at) byte_cells h)

pub flag_fits : (buffer : List ℕ) (at : ℕ) → flag_cells ≤ length buffer - at
    → flag_put buffer at ≡ sets buffer at (cells flag_bits)
unfolding flag_put
flag_fits buffer at h = rw (le-ltb (length buffer - at) flag_cells h)

pub flag_left_out : (buffer : List ℕ) (at : ℕ) → length buffer - at < flag_cells
    → flag_put buffer at ≡ buffer
unfolding flag_put
flag_left_out buffer at h = rw (lt-ltb (length buffer - at) flag_cells h)

-- the two zeros at most that a byte owes, whatever went before it
pub byte_short : (run v : ℕ) → length (stuff run (low_bits 8 v)) ≤ byte_cells
byte_short run v =
    omega (arith, stuff_length run (low_bits 8 v), low_bits_length 8 v, zeros_most run (low_bits 8 v))

-- A loop that puts bits down has the invariant that what is left, from where the pen is, makes what
-- all of it made from where it was: then the buffer is as long, and there is room for the next
-- bits.

pub same_size : (s t : Sheet) (xs ys : List Bool) → bits_put t ys ≡ bits_put s xs
    → length t.buffer ≡ length s.buffer
same_size s t xs ys e =
    sym (put_size t ys) ∙ ap (λ (x : Sheet). length x.buffer) e ∙ put_size s xs

pub same_room : (s t : Sheet) (bits xs ys : List Bool) → bits_put t (xs ++ ys) ≡ bits_put s bits
    → s.pen.at + length (stuff s.pen.run bits) ≤ length s.buffer
    → t.pen.at + length (stuff t.pen.run xs) ≤ length t.buffer
same_room s t bits xs ys e h =
    let size = same_size s t bits (xs ++ ys) e in
    let end = ap (λ (x : Sheet). x.pen.at) e in
    let first = put_width t xs ys in
    omega (arith, put_at s bits, put_at t xs, put_at t (xs ++ ys))
