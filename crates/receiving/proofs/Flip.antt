-- A frame with one bit of content or check flipped before insertion: as many characters, the end
-- mark, a bad check. Assumes nothing.
use Rattle.std.specs.Prelude.{◌≡◌, refl, Bool, true, not, List, ◌∷◌, ◌++◌, ℕ, ◌+◌, ◌≤◌, length}
use Rattle.std.proofs.Common.{sym, ap, ◌∙◌, subst, arith, length-append, ne_eqb}
use Rattle.line.specs.Check.{sdlc, ones, check_over, remainder}
use Rattle.line.specs.Frame.{note_bits}
use Rattle.line.specs.Bits.{Below}
use Rattle.line.specs.Laws.Frame.{content_length}
use Rattle.line.proofs.Content.{content_good}
use Rattle.chip.specs.declared.Chip.{Chip}
use Rattle.chip.specs.Event.{Event}
use Rattle.stories.specs.Story.{Which}
use Rattle.stories.specs.Received.{bits_of}
use Rattle.whole.specs.Heard.{hear_all}
use Rattle.whole.specs.Frames.{ended, between_flags}
use Rattle.whole.specs.Laws.Bytes.{of_bits}
use Rattle.whole.specs.Laws.Flip.{flip_found}
use Rattle.whole.specs.Laws.Frames.{unaddressed, bad_if, bytes_heard}
use Rattle.history.specs.Receiving.Side.{side_of}
use Rattle.receiving.specs.Statement.{Listening, Fed, Received, Flipped2}
use Rattle.receiving.proofs.Demand.{address_of, received_bytes}

-- any whole bytes between flags, at least one
pub bytes2 : (w : Which) (c : Chip) (st : List Event) (bytes : List ℕ) → Listening (side_of w c)
    → 1 ≤ length bytes → Below 256 bytes → Fed w c st
    → bits_of w st ≡ between_flags (note_bits bytes)
    → Received w c st bytes (ended (bad_if (check_over sdlc ones (note_bits bytes))) bytes)
bytes2 w c st bytes l n b f e =
    let a = address_of (side_of w c) in
    let s = (side_of w c).listener in
    received_bytes w c st (bad_if (check_over sdlc ones (note_bits bytes))) bytes l f
    (ap (hear_all (unaddressed a) s) e ∙ bytes_heard a s bytes n l.start b)

pub flipped2 : Flipped2
flipped2 w c st note xs ys b l f e h =
    let bs = xs ++ (not b ∷ ys) in
    let k =
    of_bits (length note + 2) bs
    (omega (
      arith,
      content_length note,
      ap length e,
      length-append xs (b ∷ ys),
      length-append xs (not b ∷ ys),
    )) in
    let found =
    flip_found sdlc (omega arith) refl ones remainder xs ys b
    (ap (check_over sdlc ones) (sym e) ∙ content_good note) in
    let bad : bad_if (check_over sdlc ones (note_bits k.bytes)) ≡ true =
    ap (λ (l : List Bool). bad_if (check_over sdlc ones l)) k.are
    ∙ ap not (ne_eqb (check_over sdlc ones bs) remainder found) in
    record {
      bytes = k.bytes;
      count = k.count;
      given = subst (λ (t : Bool). Received w c st k.bytes (ended t k.bytes)) bad
          (bytes2 w c st k.bytes l (omega (arith, k.count)) k.fit f
          (h ∙ ap between_flags (sym k.are)));
    }
