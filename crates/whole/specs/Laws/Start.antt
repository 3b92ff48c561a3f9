-- The frame is to come at the start, and nothing is once the closing flag has ended. Assumes
-- nothing.
use Rattle.std.specs.Prelude.{◌≡◌, refl, Bool, true, false, None, List, [], ◌∷◌, ◌++◌, ℕ, zero, suc, ◌-◌, ◌≤◌, length}
use Rattle.std.proofs.Common.{sym, ap, ◌∙◌, append_assoc, arith, length-append, length-take}
use Rattle.std.proofs.Math.Dec.{eqb-suc-zero}
use Rattle.common.specs.Tools.{void}
use Rattle.line.specs.Bits.{low_bits, text_bits}
use Rattle.line.specs.Check.{sdlc, ones, check_over, top_bits, check_bits}
use Rattle.line.specs.Insertion.{zero_if, stuff}
use Rattle.line.specs.Frame.{flag_bits, content_of, frame}
use Rattle.shared.specs.Shared.{shared}
use Rattle.sdlc.specs.declared.Framer.{Framer}
use Rattle.whole.specs.Come.{flag_tail, waiting, closed, to_come}
use Rattle.whole.specs.Stage.{Stage, opening, in_byte, in_check, closing, cut_off}
use Rattle.whole.specs.Start.{started, flag_head, frame_ended}

pub head_length : (p : ℕ) → p ≤ 8 → length (flag_head p) ≡ p
head_length p l = omega (arith, length-take p flag_bits)

pub head_tail : (p : ℕ) → 1 ≤ p → p ≤ 8 → flag_head p ++ flag_tail (8 - p) ≡ flag_bits
head_tail zero h l = absurd (omega arith)
head_tail (suc zero) h l = refl
head_tail (suc (suc zero)) h l = refl
head_tail (suc (suc (suc zero))) h l = refl
head_tail (suc (suc (suc (suc zero)))) h l = refl
head_tail (suc (suc (suc (suc (suc zero))))) h l = refl
head_tail (suc (suc (suc (suc (suc (suc zero)))))) h l = refl
head_tail (suc (suc (suc (suc (suc (suc (suc zero))))))) h l = refl
head_tail (suc (suc (suc (suc (suc (suc (suc (suc zero)))))))) h l = refl
head_tail (suc (suc (suc (suc (suc (suc (suc (suc (suc p))))))))) h l = absurd (omega arith)

-- what is to come at the start is the frame less the bits that are sent
pub at_start : (p : ℕ) (note : List ℕ) → 1 ≤ p → p ≤ 8
    → flag_head p ++ to_come (started p) note ≡ frame note
unfolding closed
at_start p note h l =
    let rest = stuff 0 (content_of note) ++ flag_bits in
    sym (append_assoc (flag_head p) (flag_tail (8 - p)) rest)
    ∙ ap (λ (x : List Bool). x ++ rest) (head_tail p h l)

-- p ticks of the flag are p - 1 since its first bit: the flag counts as a byte that was loaded then
pub start_stage : {a : Bool} (p v : ℕ) (vs : List ℕ) → 1 ≤ p → p ≤ 8
    → Stage a (started p) (p - 1) (v ∷ vs)
start_stage p v vs h l = opening (8 - p) None ones (p - 1) (v ∷ vs) (omega arith) tt

pub ended_none : {a : Bool} {s : Framer} {n : ℕ} {rest : List ℕ} → Stage a s n rest
    → frame_ended s ≡ true → length (to_come s rest) ≡ 0
ended_none (opening k b c n rest m p) e = void e
ended_none (in_byte k v r o b c n rest m) e = void e
ended_none (in_check k v r o b c n) e = void e
ended_none (closing zero b c n) e = refl
ended_none (closing (suc k) b c n) e = void (sym (eqb-suc-zero k) ∙ e)
ended_none (cut_off k b c n) e = void e

pub closed_some : (r c : ℕ) (bits : List Bool) (bytes : List ℕ) → 8 ≤ length (closed r c bits bytes)
unfolding closed
closed_some r c bits bytes =
    let text = text_bits 8 bytes in
    omega (
      arith,
      length-append
          (stuff r (bits ++ (text ++ check_bits (check_over sdlc c text)))) flag_bits,
    )

pub unended_some : {a : Bool} {s : Framer} {n : ℕ} {rest : List ℕ} → Stage a s n rest
    → frame_ended s ≡ false → 1 ≤ length (to_come s rest)
unended_some (opening zero b c n rest m p) e =
    omega (arith, closed_some 0 c [] (waiting (shared b false c) rest))
unended_some (opening (suc k) b c n rest m p) e = omega arith
unended_some (in_byte k v r o b c n rest m) e =
    let bytes = waiting (shared b false c) rest in
    let bits = closed r c (low_bits k v) bytes in
    omega (arith, length-append (zero_if o) bits, closed_some r c (low_bits k v) bytes)
unended_some (in_check k v r o b c n) e =
    let bits = stuff r (top_bits k v) in
    omega (arith, length-append (zero_if o) (bits ++ flag_bits), length-append bits flag_bits)
unended_some (closing (suc k) b c n) e = omega arith
unended_some (closing zero b c n) e = void (sym e)
unended_some (cut_off zero b c n) e = omega arith
unended_some (cut_off (suc k) b c n) e = omega arith
