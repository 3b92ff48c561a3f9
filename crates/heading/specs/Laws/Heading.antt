-- Laws of headings: with a body, by its text or by its check, a heading gives the check of the
-- whole note. Assumes nothing.
use Rattle.std.specs.Prelude.{◌≡◌, refl, Result, Ok, Err, List, ◌++◌, false, ℕ, ◌<◌, length, if◌then◌else◌}
use Rattle.std.proofs.Common.{sym, ap, ap₂, ◌∙◌, arith, ne_eqb, length-append}
use Rattle.std.proofs.lemmas.Bool.{lt-leb}
use Rattle.common.specs.Tools.{bool_or}
use Rattle.common.specs.declared.Refusal.{Refusal}
use Rattle.common.specs.declared.Refusal.TheVariants.{NoteLength}
use Rattle.common.specs.Refusal.{number_in}
use Rattle.line.specs.Check.{sdlc, ones, complement, check_over, top_bits, check_bits}
use Rattle.line.specs.Frame.{note_bits, check_of}
use Rattle.line.specs.Laws.Bits.{text_bits_join}
use Rattle.line.specs.Laws.Check.{check_join}
use Rattle.line.specs.Line.{note_fits}
use Rattle.joining.specs.Rule.{sdlc_rule, check_by}
use Rattle.joining.specs.Laws.Join.{xor_twice, checks_join}
use Rattle.heading.specs.Heading.{note_check_of, heading_of, with_body, with_checked_body}

pub long_unfit : (n : ℕ) → 2048 < n → note_fits n ≡ false
long_unfit n h = rw (ne_eqb n 0 (λ e. omega arith), lt-leb n 2048 h)

-- the check of a note is what its frame carries, x^15 first
pub frame_carries : (note : List ℕ) → check_bits (check_of note) ≡ top_bits 16 (check_by sdlc_rule note)
unfolding check_bits check_by
frame_carries note = refl

abbrev answer : ℕ → ℕ → Result ℕ Refusal
answer n check = if note_fits n then Ok check else Err NoteLength

pub with_body_lem : (front body : List ℕ)
    → with_body (heading_of front) body ≡ note_check_of (front ++ body)
unfolding with_body note_check_of check_by
with_body_lem front body =
    ap₂ answer (sym (length-append front body))
    (ap complement
    (ap (λ (r : ℕ). check_over sdlc r (note_bits body))
    (xor_twice (check_over sdlc ones (note_bits front)) ones)
    ∙ sym (check_join sdlc ones (note_bits front) (note_bits body))
    ∙ ap (check_over sdlc ones) (sym (text_bits_join 8 front body))))

pub with_checked_body_lem : (front body : List ℕ)
    → with_checked_body (heading_of front) (check_by sdlc_rule body) (length body)
    ≡ note_check_of (front ++ body)
unfolding with_checked_body note_check_of
with_checked_body_lem front body =
    ap₂ answer (sym (length-append front body)) (checks_join sdlc_rule front body)

pub note_check_refused : (note : List ℕ)
    → number_in (note_check_of note) ≡ (if note_fits (length note) then 0 else 6)
unfolding note_check_of
note_check_refused note = bool_or (note_fits (length note)) (λ f. rw f) (λ f. rw f)
