-- Laws of the mirrored check register: its bits, the check as it is sent, and a byte at once.
-- Assumes nothing.
use Rattle.std.specs.Prelude.{◌≡◌, refl, Bool, false, List, [], ◌∷◌, ◌++◌, ℕ, zero, suc, ◌+◌, ◌*◌}
use Rattle.std.specs.Prelude.{◌/◌, ◌%◌, ◌^◌, ◌≤◌, ◌<◌, T, eqb, length, replicate, take, drop}
use Rattle.std.specs.Prelude.{get_or}
use Rattle.std.proofs.Common.{sym, ap, ap₂, ◌∙◌, pow-suc, add-mul, mul_assoc, add-one, arith}
use Rattle.std.proofs.Common.{pow-add, shl_lt, eqb→eq, drop_of_length-le, take_at, drop_at}
use Rattle.std.proofs.Common.{drop-cons}
use Rattle.std.specs.Int.Bits.{bit_xor, xor_zero_r, xor_shifted}
use Rattle.std.proofs.lemmas.Nat.{xor_mod, xor_shr, xor_lt, xor_block}
use Rattle.common.specs.Tools.{two_cases, below, below→}
use Rattle.line.specs.Bits.{low_bits, text_bits, from_low}
use Rattle.line.specs.Check.{sdlc, ones, shifted, check_step, check_over, top_bits, check_bits}
use Rattle.mirror.specs.Mirror.{mirror, mirrored_byte}
use Rattle.line.specs.Frame.{check_bytes, with_check}
use Rattle.line.specs.Laws.Bits.{low_bits_length, low_bits_split, from_low_mod, from_low_low_bits}
use Rattle.line.specs.Laws.Check.{check_join, check_linear, check_lt}

mirror_lt : (n v : ℕ) → mirror n v < 2 ^ n
unfolding mirror
mirror_lt zero v = omega arith
mirror_lt (suc n) v =
    two_cases (λ b. b * 2 ^ n + mirror n (v / 2) < 2 ^ suc n)
    (omega (arith, mirror_lt n (v / 2), pow-suc 2 n))
    (omega (arith, mirror_lt n (v / 2), pow-suc 2 n))
    (v % 2) (omega arith)

pub mirror_xor : (n a b : ℕ) → mirror n (bit_xor a b) ≡ bit_xor (mirror n a) (mirror n b)
unfolding mirror
mirror_xor zero a b = refl
mirror_xor (suc n) a b =
    rw (xor_mod a b 1, xor_shr a b 1, mirror_xor n (a / 2) (b / 2))
    (sym (xor_block n (a % 2) (b % 2) (mirror n (a / 2)) (mirror n (b / 2)) (mirror_lt n (a / 2))
    (mirror_lt n (b / 2))))

-- the first bit is at x^15 and the others are below it, so that the top bits of the one are the low
-- bits of the other
mirror_split : (n m v : ℕ) → n + m ≡ 15
    → mirror (suc n) v * 2 ^ m ≡ v % 2 * 32768 + mirror n (v / 2) * 2 ^ m
unfolding mirror
mirror_split n m v e =
    add-mul (v % 2 * 2 ^ n) (mirror n (v / 2)) (2 ^ m)
    ∙ ap (λ (x : ℕ). x + mirror n (v / 2) * 2 ^ m)
    (mul_assoc (v % 2) (2 ^ n) (2 ^ m)
    ∙ ap (λ (x : ℕ). v % 2 * x) (sym (pow-add 2 n m) ∙ ap (λ (x : ℕ). 2 ^ x) e))

mirror_tops : (n m v : ℕ) → n + m ≡ 16 → top_bits n (mirror n v * 2 ^ m) ≡ low_bits n v
unfolding top_bits low_bits
mirror_tops zero m v e = refl
mirror_tops (suc n) m v e =
    let k : n + m ≡ 15 = omega arith in
    let s = mirror_split n m v k in
    let l : mirror n (v / 2) * 2 ^ m < 32768 =
    rw (ap (λ (x : ℕ). 2 ^ x) k) at (shl_lt n m (mirror_lt n (v / 2))) in
    let first : mirror (suc n) v * 2 ^ m / 32768 % 2 ≡ v % 2 = omega arith in
    let left : shifted (mirror (suc n) v * 2 ^ m) ≡ mirror n (v / 2) * 2 ^ m * 2 = omega arith in
    let next : shifted (mirror (suc n) v * 2 ^ m) ≡ mirror n (v / 2) * 2 ^ suc m =
    left ∙ mul_assoc (mirror n (v / 2)) (2 ^ m) 2
    ∙ ap (λ (x : ℕ). mirror n (v / 2) * x) (sym (pow-suc 2 m)) in
    ap₂ (λ (b : Bool) (bs : List Bool). b ∷ bs) (ap (λ (x : ℕ). eqb x 1) first)
    (ap (top_bits n) next ∙ mirror_tops n (suc m) (v / 2) (omega arith))

-- the preset register is its own mirror
pub mirror_ones : mirror 16 ones ≡ ones
unfolding mirror
mirror_ones = refl

-- the check as it is sent
pub mirror_sent : (m : ℕ) → check_bits (mirror 16 m) ≡ low_bits 16 (bit_xor m ones)
unfolding check_bits
mirror_sent m =
    let k = bit_xor m ones in
    let turned : bit_xor (mirror 16 m) ones ≡ mirror 16 k * 2 ^ 0 =
    ap (bit_xor (mirror 16 m)) (sym mirror_ones) ∙ sym (mirror_xor 16 m ones) ∙ omega arith in
    ap (top_bits 16) turned ∙ mirror_tops 16 0 k refl

-- as two bytes
pub mirror_bytes : (m : ℕ) → m < 65536
    → check_bytes (mirror 16 m) ≡ bit_xor m ones % 256 ∷ bit_xor m ones / 256 ∷ []
unfolding check_bytes
mirror_bytes m h =
    let k = bit_xor m ones in
    let small : k < 65536 = xor_lt 16 m ones h (omega arith) in
    let low = low_bits 8 k in
    let high = low_bits 8 (k / 256) in
    let bits : check_bits (mirror 16 m) ≡ low ++ high = mirror_sent m ∙ low_bits_split 8 8 k in
    let first : take 8 (check_bits (mirror 16 m)) ≡ low =
    ap (take 8) bits ∙ take_at low high 8 (low_bits_length 8 k) in
    let last : drop 8 (check_bits (mirror 16 m)) ≡ high =
    ap (drop 8) bits ∙ drop_at low high 8 (low_bits_length 8 k) in
    ap₂ (λ (x y : ℕ). x ∷ y ∷ []) (ap from_low first ∙ from_low_mod 8 k)
    (ap from_low last ∙ from_low_low_bits 8 (k / 256) (omega arith))

-- two functions that agree on the 256 bytes, computed
byte_cases : (f g : ℕ → ℕ) → T (below (λ v. eqb (f v) (g v)) 256) → (v : ℕ) → v < 256 → f v ≡ g v
byte_cases f g t v h = eqb→eq (f v) (g v) (below→ (λ v. eqb (f v) (g v)) 256 t v h)

-- a register that holds a byte, mirrored, and is fed that byte holds nothing
byte_gone : (v : ℕ) → v < 256 → check_over sdlc (mirror 16 v) (low_bits 8 v) ≡ 0
byte_gone =
    byte_cases (λ v. check_over sdlc (mirror 16 v) (low_bits 8 v)) (λ v. 0)
    (unfold check_over check_step mirror low_bits in tt)

-- eight steps by 0: the high byte moves down, and the low one, folded, comes back at the places of
-- x^12+x^5+1
abbrev fed_zeros : ℕ → ℕ
fed_zeros r = check_over sdlc r (replicate 8 false)

abbrev folded : ℕ → ℕ
folded low = bit_xor low (low % 16 * 16)

abbrev back : ℕ → ℕ
back low = bit_xor (bit_xor (folded low * 256) (folded low * 8)) (folded low / 16)

high_down : (h : ℕ) → h < 256 → fed_zeros (mirror 16 (h * 256)) ≡ mirror 16 h
high_down =
    byte_cases (λ h. fed_zeros (mirror 16 (h * 256))) (mirror 16)
    (unfold check_over check_step mirror in tt)

low_back : (low : ℕ) → low < 256 → fed_zeros (mirror 16 low) ≡ mirror 16 (back low)
low_back =
    byte_cases (λ low. fed_zeros (mirror 16 low)) (λ low. mirror 16 (back low))
    (unfold check_over check_step mirror in tt)

pub folded_lt : (x : ℕ) → folded (x % 256) < 256
folded_lt x = xor_lt 8 (x % 256) (x % 256 % 16 * 16) (omega arith) (omega arith)

back_lt : (x : ℕ) → back (x % 256) < 65536
back_lt x =
    let f : ℕ = folded (x % 256) in
    let h : f < 256 = folded_lt x in
    let high : bit_xor (f * 256) (f * 8) < 65536 =
    xor_lt 16 (f * 256) (f * 8) (omega arith) (omega arith) in
    xor_lt 16 (bit_xor (f * 256) (f * 8)) (f / 16) high (omega arith)

-- the mirror of the mirror is the number
pub mirror_twice : (x : ℕ) → x < 65536 → mirror 16 (mirror 16 x) ≡ x
mirror_twice x h =
    let high = x / 256 * 256 in
    let low = x % 256 in
    let whole : bit_xor high low ≡ x = xor_shifted (x / 256) 8 low (omega arith) ∙ omega arith in
    ap (λ (y : ℕ). mirror 16 (mirror 16 y)) (sym whole)
    ∙ ap (mirror 16) (mirror_xor 16 high low)
    ∙ mirror_xor 16 (mirror 16 high) (mirror 16 low)
    ∙ ap₂ bit_xor (high_twice (x / 256) (omega arith)) (low_twice low (omega arith))
    ∙ whole
  where
    high_twice : (v : ℕ) → v < 256 → mirror 16 (mirror 16 (v * 256)) ≡ v * 256
    high_twice =
        byte_cases (λ v. mirror 16 (mirror 16 (v * 256))) (λ v. v * 256) (unfold mirror in tt)

    low_twice : (v : ℕ) → v < 256 → mirror 16 (mirror 16 v) ≡ v
    low_twice = byte_cases (λ v. mirror 16 (mirror 16 v)) (λ v. v) (unfold mirror in tt)

-- a byte at once: it meets the mirrored register as it stands, and eight steps by 0 follow
mirror_byte : (m v : ℕ) → m < 65536 → v < 256
    → mirror 16 (bit_xor (bit_xor m v / 256) (back (bit_xor m v % 256)))
    ≡ check_over sdlc (mirror 16 m) (low_bits 8 v)
mirror_byte m v hm hv =
    let x = bit_xor m v in
    let h : x < 65536 = xor_lt 16 m v hm (omega arith) in
    let whole : bit_xor (x / 256 * 256) (x % 256) ≡ x =
    xor_shifted (x / 256) 8 (x % 256) (omega arith) ∙ omega arith in
    mirror_xor 16 (x / 256) (back (x % 256))
    ∙ ap₂ bit_xor (sym (high_down (x / 256) (omega arith))) (sym (low_back (x % 256) (omega arith)))
    ∙ check_linear sdlc (mirror 16 (x / 256 * 256)) (mirror 16 (x % 256)) (replicate 8 false)
    ∙ ap fed_zeros
    (sym (mirror_xor 16 (x / 256 * 256) (x % 256)) ∙ ap (mirror 16) whole ∙ mirror_xor 16 m v)
    ∙ sym (rw (low_bits_length 8 v) at (check_linear sdlc (mirror 16 m) (mirror 16 v) (low_bits 8 v)))
    ∙ ap (bit_xor (check_over sdlc (mirror 16 m) (low_bits 8 v))) (byte_gone v hv)
    ∙ xor_zero_r (check_over sdlc (mirror 16 m) (low_bits 8 v))

-- as the code works it out
pub mirrored_byte_is : (m v : ℕ) → m < 65536 → v < 256
    → bit_xor (bit_xor m v / 256) (back (bit_xor m v % 256)) ≡ mirrored_byte m v
unfolding mirrored_byte
mirrored_byte_is m v hm hv =
    let x = bit_xor m v in
    let h : x < 65536 = xor_lt 16 m v hm (omega arith) in
    let low : back (x % 256) < 65536 = back_lt x in
    let r : ℕ = bit_xor (x / 256) (back (x % 256)) in
    let rl : r < 65536 = xor_lt 16 (x / 256) (back (x % 256)) (omega arith) low in
    sym (mirror_twice r rl) ∙ ap (mirror 16) (mirror_byte m v hm hv)

-- and seen from the register
pub mirror_mirrored_byte : (m v : ℕ)
    → mirror 16 (mirrored_byte m v) ≡ check_over sdlc (mirror 16 m) (low_bits 8 v)
unfolding mirrored_byte
mirror_mirrored_byte m v =
    mirror_twice (check_over sdlc (mirror 16 m) (low_bits 8 v))
    (check_lt sdlc (omega arith) (mirror 16 m) (low_bits 8 v) (mirror_lt 16 m))

pub mirrored_byte_lt : (m v : ℕ) → mirrored_byte m v < 65536
unfolding mirrored_byte
mirrored_byte_lt m v = mirror_lt 16 (check_over sdlc (mirror 16 m) (low_bits 8 v))

-- A loop over a note that keeps the mirrored register: the bytes that remain at place i, the
-- check's two among them.

abbrev pub remaining : List ℕ → ℕ → ℕ → List ℕ
remaining note i m =
    drop i note ++ check_bytes (check_over sdlc (mirror 16 m) (text_bits 8 (drop i note)))

pub remaining_all : (note : List ℕ) → remaining note 0 ones ≡ with_check note
remaining_all note = rw mirror_ones

pub remaining_step : (note : List ℕ) (i m : ℕ) → i < length note
    → remaining note i m ≡ get_or note i 0 ∷ remaining note (i + 1) (mirrored_byte m (get_or note i 0))
unfolding text_bits
remaining_step note i m h =
    let v = get_or note i 0 in
    let after = text_bits 8 (drop (suc i) note) in
    rw (drop-cons note i 0 h, add-one, mirror_mirrored_byte m v)
    (ap (λ (r : ℕ). v ∷ (drop (suc i) note ++ check_bytes r))
    (check_join sdlc (mirror 16 m) (low_bits 8 v) after))

pub remaining_none : (note : List ℕ) (i m : ℕ) → length note ≤ i → m < 65536
    → remaining note i m ≡ bit_xor m ones % 256 ∷ bit_xor m ones / 256 ∷ []
unfolding text_bits check_over
remaining_none note i m h l = rw (drop_of_length-le note h) (mirror_bytes m l)
