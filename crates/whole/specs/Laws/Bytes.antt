-- Bytes and their bits: a byte as the receiver assembles it, and the check as two bytes. Assumes
-- nothing.
use Rattle.std.specs.Prelude.{◌≡◌, refl, Bool, List, [], ◌∷◌, ◌++◌, ℕ, zero, suc, ◌+◌, ◌*◌, ◌<◌, T, eqb, length, take, drop}
use Rattle.std.proofs.Common.{sym, ap, ap₂, ◌∙◌, arith, eqb→eq, length-append, length-take, length-drop, take-append-drop}
use Rattle.common.specs.Tools.{below, below→}
use Rattle.line.specs.Bits.{low_bits, text_bits}
use Rattle.line.specs.Check.{sdlc, ones, check_over, check_bits, remainder}
use Rattle.line.specs.Frame.{note_bits, check_of, content_of}
use Rattle.line.specs.Laws.Bits.{from_low_lt, text_bits_join}
use Rattle.line.specs.Bits.{from_low, Below, below_none as none, below_more as more}
use Rattle.line.specs.Laws.Check.{check_bits_length}
use Rattle.line.specs.Laws.Frame.{byte_of, check_bytes_bits}
use Rattle.line.proofs.Content.{content_good}
use Rattle.sdlc.specs.Hearing.{shift_in}
use Rattle.line.specs.Frame.{check_bytes, with_check}

-- A byte

-- the bits shifted in from above, as a receiver does it
unfoldable pub assembled : ℕ → List Bool → ℕ
assembled p [] = p
assembled p (b ∷ bs) = assembled (shift_in b p) bs

whole : ℕ → Bool
whole v = eqb (assembled 0 (low_bits 8 v)) v

all_whole : T (below whole 256)
unfolding whole assembled low_bits
all_whole = tt

pub assembled_whole : (v : ℕ) → v < 256 → assembled 0 (low_bits 8 v) ≡ v
unfolding whole
assembled_whole v h = eqb→eq _ _ (below→ whole 256 all_whole v h)

-- any eight bits are a byte's
pub byte_lt : (bs : List Bool) → length bs ≡ 8 → from_low bs < 256
byte_lt bs e = rw e at (from_low_lt bs)

-- The check as two bytes

first_eight : (r : ℕ) → length (take 8 (check_bits r)) ≡ 8
first_eight r = rw (length-take 8 (check_bits r), check_bits_length r)

last_eight_lem : (r : ℕ) → length (drop 8 (check_bits r)) ≡ 8
last_eight_lem r = rw (length-drop 8 (check_bits r), check_bits_length r)

check_below : (r : ℕ) → Below 256 (check_bytes r)
unfolding check_bytes
check_below r =
    more (byte_lt (take 8 (check_bits r)) (first_eight r))
    (more (byte_lt (drop 8 (check_bits r)) (last_eight_lem r)) none)

pub below_join : {m : ℕ} {xs ys : List ℕ} → Below m xs → Below m ys → Below m (xs ++ ys)
below_join none q = q
below_join (more h p) q = more h (below_join p q)

-- a frame's content is the bits of those bytes, and its check is good
pub content_bytes : (note : List ℕ) → content_of note ≡ note_bits (with_check note)
content_bytes note =
    ap (λ (l : List Bool). note_bits note ++ l) (sym (check_bytes_bits (check_of note)))
    ∙ sym (text_bits_join 8 note (check_bytes (check_of note)))

pub with_check_below : {note : List ℕ} → Below 256 note → Below 256 (with_check note)
with_check_below {note} h = below_join h (check_below (check_of note))

pub with_check_good : (note : List ℕ) → check_over sdlc ones (note_bits (with_check note)) ≡ remainder
with_check_good note = ap (check_over sdlc ones) (sym (content_bytes note)) ∙ content_good note

pub with_check_length : (note : List ℕ) → length (with_check note) ≡ length note + 2
unfolding check_bytes
with_check_length note = length-append note (check_bytes (check_of note))

-- Bits in eights are bytes

pub record OfBits (n : ℕ) (bs : List Bool) : Type 0 where
  pub bytes : List ℕ
  pub fit : Below 256 bytes
  pub are : note_bits bytes ≡ bs
  pub count : length bytes ≡ n

pub of_bits : (n : ℕ) (bs : List Bool) → length bs ≡ 8 * n → OfBits n bs
unfolding text_bits
of_bits zero [] h = record { bytes = []; fit = none; are = refl; count = refl }
of_bits zero (b ∷ bs) h = absurd (omega arith)
of_bits (suc n) bs h =
    let l : length (take 8 bs) ≡ 8 = omega (arith, length-take 8 bs) in
    let k = of_bits n (drop 8 bs) (omega (arith, length-drop 8 bs)) in
    record {
      bytes = from_low (take 8 bs) ∷ k.bytes;
      fit = more (byte_lt (take 8 bs) l) k.fit;
      are =
          ap₂ (λ (x y : List Bool). x ++ y) (byte_of (take 8 bs) l) k.are
          ∙ take-append-drop 8 bs;
      count = ap suc k.count;
    }
