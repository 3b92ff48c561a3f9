-- Laws of the shapes: they exclude each other, a shaped byte sends just its Ds, and every byte of
-- 256 is decided. Assumes nothing.
use Rattle.std.specs.Prelude.{◌≡◌, refl, Bool, List, [], ◌∷◌, ◌++◌, map, ℕ, zero, suc, ◌+◌, ◌*◌, ◌/◌, ◌%◌, ◌^◌, ◌≤◌, ◌<◌, T, eqb, leb, replicate, if◌then◌else◌}
use Rattle.std.proofs.Common.{sym, ap, ◌∙◌, arith, mul_assoc, pow-suc, eqb→eq}
use Rattle.common.specs.Tools.{if_elim, below, below→}
use Rattle.line.specs.Bits.{odd, low_bits}
use Rattle.shapes.specs.Shapes.{Shape, shape, has, shapes, shape_bits}

-- "The shapes exclude each other": no byte has two

abbrev pub shapes_of : List Shape → ℕ → ℕ
shapes_of [] v = 0
shapes_of (s ∷ ss) v = if has s v then suc (shapes_of ss v) else shapes_of ss v

abbrev at_most_one : ℕ → Bool
at_most_one v = leb (shapes_of shapes v) 1

pub shapes_exclude : (v : ℕ) → v < 256 → T (leb (shapes_of shapes v) 1)
shapes_exclude v h = below→ at_most_one 256 tt v h

-- a character sends one to five bits of it
pub shape_least : (v : ℕ) → 1 ≤ shape_bits v
unfolding shape_bits
shape_least v =
    if_elim (λ (x : ℕ). 1 ≤ x) (eqb (v / 2) 0b1111000) (omega arith)
    (if_elim (λ (x : ℕ). 1 ≤ x) (eqb (v / 4) 0b111000) (omega arith)
    (if_elim (λ (x : ℕ). 1 ≤ x) (eqb (v / 8) 0b11000) (omega arith)
    (if_elim (λ (x : ℕ). 1 ≤ x) (eqb (v / 16) 0b1000) (omega arith)
    (if_elim (λ (x : ℕ). 1 ≤ x) (eqb (v / 32) 0b000) (omega arith) (omega arith)))))

pub shape_most : (v : ℕ) → shape_bits v ≤ 5
unfolding shape_bits
shape_most v =
    if_elim (λ (x : ℕ). x ≤ 5) (eqb (v / 2) 0b1111000) (omega arith)
    (if_elim (λ (x : ℕ). x ≤ 5) (eqb (v / 4) 0b111000) (omega arith)
    (if_elim (λ (x : ℕ). x ≤ 5) (eqb (v / 8) 0b11000) (omega arith)
    (if_elim (λ (x : ℕ). x ≤ 5) (eqb (v / 16) 0b1000) (omega arith)
    (if_elim (λ (x : ℕ). x ≤ 5) (eqb (v / 32) 0b000) (omega arith) (omega arith)))))

-- The low bits of a number do not see what stands above them
pub low_under : (n m d : ℕ) → low_bits n (m * 2 ^ n + d) ≡ low_bits n d
unfolding low_bits
low_under zero m d = refl
low_under (suc n) m d =
    let p : m * 2 ^ suc n ≡ m * 2 ^ n * 2 =
    ap (λ (x : ℕ). m * x) (pow-suc 2 n) ∙ sym (mul_assoc m (2 ^ n) 2) in
    let rest : (m * 2 ^ suc n + d) % 2 ≡ d % 2 = omega (arith, p) in
    let half : (m * 2 ^ suc n + d) / 2 ≡ m * 2 ^ n + d / 2 = omega (arith, p) in
    rw (rest, half) (ap (λ (l : List Bool). odd d ∷ l) (low_under n m (d / 2)))

-- A byte of a shape, its Ds given
abbrev pub shaped : Shape → ℕ → ℕ
shaped s d = s.above * 2 ^ s.count + d

abbrev rightly : Shape → ℕ → Bool
rightly s d = eqb (shape_bits (shaped s d)) s.count

abbrev pub SendsItsDs : Shape → Type 0
SendsItsDs s =
    (d : ℕ) → d < 2 ^ s.count
    → low_bits (shape_bits (shaped s d)) (shaped s d) ≡ low_bits s.count d

sends : (s : Shape) → T (below (rightly s) (2 ^ s.count)) → SendsItsDs s
sends s t d h =
    let n : shape_bits (shaped s d) ≡ s.count =
    eqb→eq (shape_bits (shaped s d)) s.count (below→ (rightly s) (2 ^ s.count) t d h) in
    rw n (low_under s.count s.above d)

abbrev pub EachSends : List Shape → Type 0
EachSends [] = Unit {0}
EachSends (s ∷ ss) = SendsItsDs s × EachSends ss

-- "a shaped byte's bits are its Ds"
pub shaped_bits : EachSends shapes
unfolding shape_bits
shaped_bits = (
  sends (shape 1 0b1111000) tt,
  (
    sends (shape 2 0b111000) tt,
    (
      sends (shape 3 0b11000) tt,
      (sends (shape 4 0b1000) tt, (sends (shape 5 0b000) tt, tt)),
    ),
  ),
)

-- Every byte of 256, decided: so many bytes in a row, from 00 up, that send so many bits
abbrev pub table : List ℕ
table =
    replicate 0x80 5
    ++ (replicate 0x10 4 ++ (replicate 0x30 5 ++ (replicate 0x08 3 ++ (replicate 0x18 5
    ++ (replicate 0x04 2 ++ (replicate 0x0C 5 ++ (replicate 0x02 1 ++ replicate 0x0E 5)))))))

unfoldable pub up_to : ℕ → List ℕ
up_to zero = []
up_to (suc n) = up_to n ++ (n ∷ [])

pub by_the_table : map shape_bits (up_to 256) ≡ table
unfolding shape_bits up_to
by_the_table = refl
