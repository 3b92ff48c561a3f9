-- A block's check, over any polynomial p: the register fed its own check is 0. Assumes nothing.
use Rattle.std.specs.Prelude.{◌≡◌, refl, Bool, List, [], ◌∷◌, ◌++◌, ℕ, zero, suc, ◌+◌, ◌<◌, length, take, drop}
use Rattle.std.proofs.Common.{sym, ap, ◌∙◌, append-nil, arith, length-append, length-take, length-drop, take-append-drop}
use Rattle.std.specs.Int.Bits.{xor_zero_r}
use Rattle.common.specs.Tools.{if_elim}
use Rattle.line.specs.Bits.{text_bits, Below, below_none, below_more}
use Rattle.line.specs.Check.{top, shifted, differs, check_step, check_over, top_bits, check_bits}
use Rattle.line.specs.Laws.Bits.{text_bits_join}
use Rattle.line.specs.Laws.Xor.{differs_self}
use Rattle.line.specs.Laws.Check.{check_own}
use Rattle.line.specs.Laws.Check.{check_bits_length}
use Rattle.shared.specs.Preset.{zeros}
use Rattle.line.specs.Laws.Frame.{byte_of}
use Rattle.whole.specs.Laws.Bytes.{byte_lt, below_join}
use Rattle.blocks.specs.Check.{check_from, check_bytes, with_check}

pub top_bits_length : (n r : ℕ) → length (top_bits n r) ≡ n
unfolding top_bits
top_bits_length zero r = refl
top_bits_length (suc n) r = ap suc (top_bits_length n (shifted r))

first_eight : (r : ℕ) → length (take 8 (top_bits 16 r)) ≡ 8
first_eight r = rw (length-take 8 (top_bits 16 r), top_bits_length 16 r)

last_eight_lem : (r : ℕ) → length (drop 8 (top_bits 16 r)) ≡ 8
last_eight_lem r = rw (length-drop 8 (top_bits 16 r), top_bits_length 16 r)

pub check_bytes_bits : (r : ℕ) → text_bits 8 (check_bytes r) ≡ top_bits 16 r
unfolding check_bytes text_bits
check_bytes_bits r =
    rw (
      byte_of (take 8 (top_bits 16 r)) (first_eight r),
      byte_of (drop 8 (top_bits 16 r)) (last_eight_lem r),
      append-nil (drop 8 (top_bits 16 r)),
    )
    (take-append-drop 8 (top_bits 16 r))

pub check_bytes_below : (r : ℕ) → Below 256 (check_bytes r)
unfolding check_bytes
check_bytes_below r =
    below_more (byte_lt (take 8 (top_bits 16 r)) (first_eight r))
    (below_more (byte_lt (drop 8 (top_bits 16 r)) (last_eight_lem r)) below_none)

pub with_check_below : (p : ℕ) {vs : List ℕ} → Below 256 vs → Below 256 (with_check p vs)
with_check_below p {vs} h = below_join h (check_bytes_below (check_from p zeros vs))

pub with_check_length : (p : ℕ) (vs : List ℕ) → length (with_check p vs) ≡ length vs + 2
unfolding check_bytes
with_check_length p vs = length-append vs (check_bytes (check_from p zeros vs))

pub with_check_bits : (p : ℕ) (vs : List ℕ)
    → text_bits 8 (with_check p vs) ≡ text_bits 8 vs ++ top_bits 16 (check_over p 0 (text_bits 8 vs))
with_check_bits p vs =
    let c = check_over p 0 (text_bits 8 vs) in
    text_bits_join 8 vs (check_bytes c)
    ∙ ap (λ (l : List Bool). text_bits 8 vs ++ l) (check_bytes_bits c)

-- A step by the register's own top bit only shifts, over every polynomial; over the polynomial 0
-- every step does. So sixteen of the one are sixteen of the other, and those empty the register:
-- that is the law of the complemented check at p = 0.

step_top : (p v : ℕ) → check_step p v (top v) ≡ shifted v
unfolding check_step
step_top p v = rw (differs_self (top v))

step_none : (v : ℕ) (b : Bool) → check_step 0 v b ≡ shifted v
unfolding check_step
step_none v b = if_elim (λ (x : ℕ). x ≡ shifted v) (differs (top v) b) (xor_zero_r (shifted v)) refl

tops_shift : (p n v : ℕ) (bs : List Bool) → length bs ≡ n
    → check_over p v (top_bits n v) ≡ check_over 0 v bs
unfolding check_over top_bits
tops_shift p zero v [] e = refl
tops_shift p zero v (b ∷ bs) e = absurd (omega arith)
tops_shift p (suc n) v [] e = absurd (omega arith)
tops_shift p (suc n) v (b ∷ bs) e =
    ap (λ (x : ℕ). check_over p x (top_bits n (shifted v))) (step_top p v)
    ∙ tops_shift p n (shifted v) bs (omega arith)
    ∙ ap (λ (x : ℕ). check_over 0 x bs) (sym (step_none v b))

pub check_emptied : (p r : ℕ) → r < 65536 → check_over p r (top_bits 16 r) ≡ 0
check_emptied p r h =
    tops_shift p 16 r (check_bits r) (check_bits_length r) ∙ check_own 0 r h
    ∙ (unfold check_over check_step in refl)
