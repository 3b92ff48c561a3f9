-- Bits shifted in from above, and hunt: from its start, the sync's bits end it. Assumes nothing.
use Rattle.std.specs.Prelude.{◌≡◌, refl, Bool, false, ◌&&◌, eqb, leb, if◌then◌else◌}
use Rattle.std.proofs.Common.{sym, ap₂, ◌∙◌, pow-suc, mul_assoc, mul_comm, add-mul, zero-mul, pow-add, length-append}
use Rattle.std.proofs.Math.Path.{ap}
use Rattle.std.proofs.Math.Bool.{true}
use mathlib.Core.List.{List, [], ◌∷◌, ◌++◌}
use Prim.Native.Nat.{ℕ, zero, suc, ◌+◌, ◌*◌, ◌/◌, ◌%◌, ◌^◌, ◌≤◌, ◌<◌}
use native.Mathlib.Omega.{arith}
use Rattle.std.proofs.Math.ListN.{length}
use borrow.Author.Tests.{eq-eqb, lt-ltb, le-leb, lt-leb}
use Rattle.common.specs.Tools.{if_elim}
use Rattle.line.specs.Bits.{one_if, low_bits, from_low}
use Rattle.line.specs.Laws.Bits.{from_low_low_bits, low_bits_length}
use Rattle.bytesync.specs.declared.Syncs.{Syncs}
use Rattle.bytesync.specs.declared.Matching.{Matching}
use Rattle.bytesync.specs.declared.Block.{Block}
use Rattle.bytesync.specs.declared.Matched.{Matched}
use Rattle.bytesync.specs.Syncs.{pair}
use Rattle.bytesync.specs.Hearing.{no_block, reception, reception_at, searching, unmatched, shift_in}
use Rattle.bytesync.specs.Hearing.{last_eight, sync_seen, hunting, hear_block}
use Rattle.blocks.specs.Heard.{Moment, heeding, final, before, handed, hear_all, along}
use Rattle.blocks.specs.Characters.{pattern_bits, pattern_length}

-- Bits

-- two numbers' bits, one behind the other
pub low_bits_above : (n m v w : ℕ) → v < 2 ^ n
    → low_bits (n + m) (v + w * 2 ^ n) ≡ low_bits n v ++ low_bits m w
unfolding low_bits
low_bits_above zero m v w h =
    let z : 0 + m ≡ m = omega arith in
    let e : v + w * 1 ≡ w = omega arith in
    ap₂ low_bits z e
low_bits_above (suc n) m v w h =
    let x : w * 2 ^ suc n ≡ w * 2 ^ n * 2 =
    ap (λ (y : ℕ). w * y) (pow-suc 2 n) ∙ sym (mul_assoc w (2 ^ n) 2) in
    let b : (v + w * 2 ^ suc n) % 2 ≡ v % 2 = omega arith in
    let t : (v + w * 2 ^ suc n) / 2 ≡ v / 2 + w * 2 ^ n = omega arith in
    let z : suc n + m ≡ suc (n + m) = omega arith in
    ap (λ (k : ℕ). low_bits k (v + w * 2 ^ suc n)) z
    ∙ ap₂ (λ (y : ℕ) (l : List Bool). eqb y 1 ∷ l) b
    (ap (low_bits (n + m)) t ∙ low_bits_above n m (v / 2) w (omega (arith, pow-suc 2 n)))

unfoldable pub assembled : ℕ → List Bool → ℕ
assembled s [] = s
assembled s (b ∷ bs) = assembled (shift_in b s) bs

-- n bits behind q, which stands that much higher; m places are below them
assembled_is : (bs : List Bool) (n m q : ℕ) → length bs ≡ n → n + m ≡ 16
    → assembled (q * 2 ^ n) bs ≡ q + from_low bs * 2 ^ m
unfolding assembled from_low
assembled_is [] zero m q e k = omega (arith, zero-mul (2 ^ m))
assembled_is [] (suc n) m q e k = absurd (omega arith)
assembled_is (b ∷ bs) zero m q e k = absurd (omega arith)
assembled_is (b ∷ bs) (suc n) m q e k =
    let f = from_low bs in
    let o = one_if b in
    let half : q * 2 ^ suc n / 2 ≡ q * 2 ^ n =
    let x : q * 2 ^ suc n ≡ q * 2 ^ n * 2 =
    ap (λ (y : ℕ). q * y) (pow-suc 2 n) ∙ sym (mul_assoc q (2 ^ n) 2) in
    omega arith in
    let top : o * 32768 ≡ o * 2 ^ m * 2 ^ n =
    let z : m + n ≡ 15 = omega arith in
    ap (λ (y : ℕ). o * 2 ^ y) (sym z) ∙ ap (λ (y : ℕ). o * y) (pow-add 2 m n)
    ∙ sym (mul_assoc o (2 ^ m) (2 ^ n)) in
    let in_one : shift_in b (q * 2 ^ suc n) ≡ (q + o * 2 ^ m) * 2 ^ n =
    ap₂ ◌+◌ half top ∙ sym (add-mul q (o * 2 ^ m) (2 ^ n)) in
    let high : f * 2 ^ suc m ≡ f * 2 * 2 ^ m =
    ap (λ (y : ℕ). f * y) (pow-suc 2 m ∙ mul_comm (2 ^ m) 2) ∙ sym (mul_assoc f 2 (2 ^ m)) in
    ap (λ (y : ℕ). assembled y bs) in_one
    ∙ assembled_is bs n (suc m) (q + o * 2 ^ m) (omega arith) (omega arith)
    ∙ omega (arith, high, add-mul (f * 2) o (2 ^ m))

pub byte_whole : (v : ℕ) → v < 256 → last_eight (assembled 0 (low_bits 8 v)) ≡ v
byte_whole v h =
    let e = assembled_is (low_bits 8 v) 8 8 0 (low_bits_length 8 v) refl in
    let f = from_low_low_bits 8 v h in
    omega arith

-- Hunt: both modes at once, by the number of bits that are compared, which they are, and with what

abbrev window : Syncs → ℕ → ℕ
window y s = if y.both then s else last_eight s

abbrev pattern : Syncs → ℕ
pattern y = if y.both then pair y else y.second

seen_is : (y : Syncs) (n s : ℕ)
    → sync_seen y n s ≡ leb (pattern_length y) n && eqb (window y s) (pattern y)
unfolding sync_seen
seen_is y n s =
    elim y.both as (λ m.
    (if m then leb 16 n && eqb s (pair y) else leb 8 n && eqb (last_eight s) y.second)
    ≡ leb (if m then 16 else 8) n
    && eqb (if m then s else last_eight s) (if m then pair y else y.second))
    [ true ↦ refl | false ↦ refl ]

pattern_few : (y : Syncs) → pattern_length y ≤ 16
pattern_few y = if_elim (λ (n : ℕ). n ≤ 16) y.both (omega arith) (omega arith)

module _ (g : Matching) where
  abbrev y : Syncs
  y = g.syncs

  goes_on_lem : (i b : Bool) (s n c : ℕ) (d : Block) → n + 1 < pattern_length y
      → hear_block (heeding g i) (reception true s n d) c b
      ≡ unmatched (reception true (shift_in b s) (n + 1) d) c
  unfolding hear_block hunting
  goes_on_lem i b s n c d h =
      rw (
        lt-ltb n 16 (omega (arith, pattern_few y)),
        seen_is y (n + 1) (shift_in b s),
        lt-leb (pattern_length y) (n + 1) h,
      )

  matches : (i b : Bool) (s n c : ℕ) (d : Block) → n + 1 ≡ pattern_length y
      → window y (shift_in b s) ≡ pattern y
      → hear_block (heeding g i) (reception true s n d) c b
      ≡ unmatched (reception_at false (no_block true)) c
  unfolding hear_block hunting
  matches i b s n c d h e =
      rw (
        lt-ltb n 16 (omega (arith, pattern_few y)),
        seen_is y (n + 1) (shift_in b s),
        le-leb (pattern_length y) (n + 1) (omega arith),
        eq-eqb (window y (shift_in b s)) (pattern y) e,
      )

  -- fewer bits since hunt began than the sync has: none are filled in, and hunt goes on
  pub hunt_waits : (is bs : List Bool) (s n c : ℕ) (d : Block) → length is ≡ length bs
      → n + length bs < pattern_length y
      → hear_all g (reception true s n d) c (along is bs)
      ≡ final (reception true (assembled s bs) (n + length bs) d) c []
  unfolding hear_all along assembled
  hunt_waits [] [] s n c d e k =
      let z : n ≡ n + 0 = omega arith in ap (λ (m : ℕ). final (reception true s m d) c []) z
  hunt_waits [] (b ∷ bs) s n c d e k = absurd (omega arith)
  hunt_waits (i ∷ is) [] s n c d e k = absurd (omega arith)
  hunt_waits (i ∷ is) (b ∷ bs) s n c d e k =
      let z : n + 1 + length bs ≡ n + suc (length bs) = omega arith in
      ap (λ (x : Matched).
      before (handed x) (hear_all g x.reception x.check (along is bs)))
      (goes_on_lem i b s n c d (omega arith))
      ∙ hunt_waits is bs (shift_in b s) (n + 1) c d (omega arith) (omega arith)
      ∙ ap (λ (m : ℕ). final (reception true (assembled (shift_in b s) bs) m d) c []) z

  -- as many bits as are compared, and the last of them make the pattern
  hunt_ends : (is bs : List Bool) (s n c : ℕ) (d : Block) (ts : List Moment)
      → length is ≡ length bs → 1 ≤ length bs → n + length bs ≡ pattern_length y
      → window y (assembled s bs) ≡ pattern y
      → hear_all g (reception true s n d) c (along is bs ++ ts)
      ≡ hear_all g (reception_at false (no_block true)) c ts
  unfolding hear_all along assembled
  hunt_ends is [] s n c d ts e l k w = absurd (omega arith)
  hunt_ends [] (b ∷ bs) s n c d ts e l k w = absurd (omega arith)
  hunt_ends (i ∷ []) (b ∷ []) s n c d ts e l k w =
      ap (λ (x : Matched). before (handed x) (hear_all g x.reception x.check ts))
      (matches i b s n c d (omega arith) w)
  hunt_ends (i ∷ j ∷ is) (b ∷ []) s n c d ts e l k w = absurd (omega arith)
  hunt_ends (i ∷ is) (b ∷ a ∷ bs) s n c d ts e l k w =
      ap (λ (x : Matched).
      before (handed x) (hear_all g x.reception x.check (along is (a ∷ bs) ++ ts)))
      (goes_on_lem i b s n c d (omega arith))
      ∙ hunt_ends is (a ∷ bs) (shift_in b s) (n + 1) c d ts (omega arith) (omega arith)
      (omega arith) w

pub pattern_length_lem : (y : Syncs) → length (pattern_bits y) ≡ pattern_length y
pattern_length_lem y = go y.both
  where
    go : (m : Bool)
        → length
        (if m then low_bits 8 y.first ++ low_bits 8 y.second else low_bits 8 y.second)
        ≡ (if m then 16 else 8)
    go true =
        length-append (low_bits 8 y.first) (low_bits 8 y.second)
        ∙ ap₂ ◌+◌ (low_bits_length 8 y.first) (low_bits_length 8 y.second)
    go false = low_bits_length 8 y.second

pattern_seen : (y : Syncs) → y.first < 256 → y.second < 256
    → window y (assembled 0 (pattern_bits y)) ≡ pattern y
pattern_seen y h k = go y.both
  where
    go : (m : Bool)
        → let s = assembled 0
        (if m then low_bits 8 y.first ++ low_bits 8 y.second else low_bits 8 y.second) in
        (if m then s else last_eight s) ≡ (if m then pair y else y.second)
    go true =
        let v = pair y in
        let e = assembled_is (low_bits 16 v) 16 0 0 (low_bits_length 16 v) refl in
        let f = from_low_low_bits 16 v (omega arith) in
        ap (assembled 0) (sym (low_bits_above 8 8 y.first y.second h)) ∙ omega arith
    go false = byte_whole y.second k

-- hunt begun, and fed the sync
pub sync_found : (g : Matching) (is : List Bool) (c : ℕ) (ts : List Moment) → g.syncs.first < 256
    → g.syncs.second < 256 → length is ≡ pattern_length g.syncs
    → hear_all g (searching true) c (along is (pattern_bits g.syncs) ++ ts)
    ≡ hear_all g (reception_at false (no_block true)) c ts
sync_found g is c ts h k l =
    let y = g.syncs in
    let n = pattern_length_lem y in
    let few : 1 ≤ pattern_length y =
    if_elim (λ (x : ℕ). 1 ≤ x) y.both (omega arith) (omega arith) in
    hunt_ends g is (pattern_bits y) 0 0 c (no_block false) ts (omega arith) (omega arith)
    (omega arith)
    (pattern_seen y h k)
