-- Laws of the look into the check's table: it is the byte's eight steps, and a note with its check
-- by the table is the note with its check. Assumes nothing.
use Rattle.std.specs.Prelude.{◌≡◌, refl, Bool, List, [], ◌∷◌, ◌++◌, ℕ, ◌+◌, ◌/◌, ◌%◌, ◌≤◌, ◌<◌, length, get_or, drop}
use Rattle.std.proofs.Common.{sym, ap, ◌∙◌, add-one, arith, drop_of_length-le, drop-cons}
use Rattle.std.specs.Int.Bits.{bit_xor, xor_zero_l, xor_zero_r}
use Rattle.std.proofs.lemmas.Nat.{xor_lt}
use Rattle.line.specs.Bits.{low_bits, text_bits}
use Rattle.line.specs.Check.{sdlc, ones, check_over}
use Rattle.line.specs.Frame.{check_bytes, with_check}
use Rattle.line.specs.Laws.Check.{check_join}
use Rattle.mirror.specs.Mirror.{mirror, mirrored_byte}
use Rattle.mirror.specs.Laws.{mirror_ones, mirror_bytes, mirrored_byte_is, mirrored_byte_lt}
use Rattle.mirror.specs.Laws.{mirror_mirrored_byte}
use Rattle.table.specs.Table.{check_entry, check_table}
use Rattle.table.specs.Laws.{check_table_at, low_bits_mod}
use Rattle.lookup.specs.Lookup.{looked_up, looked_over, sent_check, with_lookup}

-- A byte

-- an entry is what a register that holds this byte alone is after a byte 00
entry_is : (k : ℕ) → check_entry k ≡ mirrored_byte k 0
unfolding mirrored_byte low_bits
entry_is k = refl

-- any register: what its high half brings and what its low half brings are apart
look_is : (m v : ℕ) → m < 65536 → v < 256
    → bit_xor (bit_xor m v / 256) (check_entry (bit_xor m v % 256)) ≡ mirrored_byte m v
look_is m v hm hv =
    let x = bit_xor m v in
    let k = x % 256 in
    let same : k % 256 ≡ k = omega arith in
    let none : k / 256 ≡ 0 = omega arith in
    let low = rw (xor_zero_r k, same, none) at (mirrored_byte_is k 0 (omega arith) (omega arith)) in
    ap (bit_xor (x / 256)) (entry_is k ∙ sym low ∙ xor_zero_l _) ∙ mirrored_byte_is m v hm hv

pub looked_up_is : (m v : ℕ) → m < 65536 → looked_up check_table m v ≡ mirrored_byte m v
unfolding looked_up mirrored_byte
looked_up_is m v h =
    let low = v % 256 in
    let x = bit_xor m low in
    ap (bit_xor (x / 256)) (check_table_at (x % 256) (omega arith))
    ∙ look_is m low h (omega arith)
    ∙ ap (λ (bits : List Bool). mirror 16 (check_over sdlc (mirror 16 m) bits)) (low_bits_mod 8 v)

-- A text

pub looked_over_lt : (m : ℕ) (vs : List ℕ) → m < 65536 → looked_over check_table m vs < 65536
unfolding looked_over
looked_over_lt m [] h = h
looked_over_lt m (v ∷ vs) h =
    rw (looked_up_is m v h) (looked_over_lt (mirrored_byte m v) vs (mirrored_byte_lt m v))

pub looked_over_is : (m : ℕ) (vs : List ℕ) → m < 65536
    → mirror 16 (looked_over check_table m vs) ≡ check_over sdlc (mirror 16 m) (text_bits 8 vs)
unfolding looked_over text_bits check_over
looked_over_is m [] h = refl
looked_over_is m (v ∷ vs) h =
    rw (looked_up_is m v h)
    (looked_over_is (mirrored_byte m v) vs (mirrored_byte_lt m v)
    ∙ ap (λ (r : ℕ). check_over sdlc r (text_bits 8 vs)) (mirror_mirrored_byte m v)
    ∙ sym (check_join sdlc (mirror 16 m) (low_bits 8 v) (text_bits 8 vs)))

-- a note followed by its check
pub with_lookup_is : (note : List ℕ) → with_lookup check_table ones note ≡ with_check note
unfolding with_lookup
with_lookup_is note =
    let m = looked_over check_table ones note in
    let r : mirror 16 m ≡ check_over sdlc ones (text_bits 8 note) =
    rw mirror_ones at (looked_over_is ones note (omega arith)) in
    let small = looked_over_lt ones note (omega arith) in
    let k = bit_xor m ones in
    let high : k / 256 % 256 ≡ k / 256 = omega (arith, xor_lt 16 m ones small (omega arith)) in
    ap (λ (l : List ℕ). note ++ l)
    (ap (λ (x : ℕ). k % 256 ∷ x ∷ []) high ∙ sym (mirror_bytes m small) ∙ ap check_bytes r)

-- As a loop meets it: a byte more, two more, and none left

pub lookup_step : (checks note : List ℕ) (i m : ℕ) → i < length note
    → with_lookup checks m (drop i note)
    ≡ get_or note i 0 ∷ with_lookup checks (looked_up checks m (get_or note i 0)) (drop (i + 1) note)
unfolding with_lookup looked_over
lookup_step checks note i m h = rw (drop-cons note i 0 h, add-one)

pub lookup_two : (checks note : List ℕ) (i m : ℕ) → i + 1 < length note
    → with_lookup checks m (drop i note)
    ≡ get_or note i 0
    ∷ get_or note (i + 1) 0
    ∷ with_lookup checks
    (looked_up checks (looked_up checks m (get_or note i 0)) (get_or note (i + 1) 0))
    (drop (i + 2) note)
lookup_two checks note i m h =
    let v = get_or note i 0 in
    let w = get_or note (i + 1) 0 in
    let next = looked_up checks m v in
    let place : i + 1 + 1 ≡ i + 2 = omega arith in
    lookup_step checks note i m (omega arith)
    ∙ ap (λ (l : List ℕ). v ∷ l)
    (lookup_step checks note (i + 1) next h
    ∙ ap (λ (k : ℕ). w ∷ with_lookup checks (looked_up checks next w) (drop k note)) place)

pub lookup_none : (checks note : List ℕ) (i m : ℕ) → length note ≤ i
    → with_lookup checks m (drop i note) ≡ sent_check m
unfolding with_lookup looked_over
lookup_none checks note i m h = rw (drop_of_length-le note h)
