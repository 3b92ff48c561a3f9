-- What a control read gives: RR0 or RR1 by the pointer, and a bit of theirs among the others.
-- Assumes nothing.
use Rattle.std.specs.Prelude.{◌≡◌, refl, Bool, true, false, ℕ, ◌+◌, ◌*◌, ◌/◌, ◌≤◌, eqb, if◌then◌else◌}
use Rattle.std.proofs.Common.{ap, ◌∙◌, arith}
use Rattle.common.specs.Bit.{placed}
use Rattle.line.specs.Bits.{odd, one_if}
use Rattle.line.specs.Laws.Bits.{odd_joined}
use Rattle.channel.specs.declared.Channel.{Channel}
use Rattle.channel.specs.Control.{rr0, rr1_now, read_register}
use Rattle.chip.specs.declared.Chip.{Chip}
use Rattle.chip.specs.Interrupts.{any_pending, rr2}
use Rattle.chip.specs.Chip.{control_read_call}
use Rattle.chip.specs.Event.{ControlRead}
use Rattle.channel.specs.Answer.{answer_value}
use Rattle.stories.specs.Story.{Which, A, B, number, chan, happens}

-- By the pointer

-- "D1 interrupt pending (A)"
abbrev pub pending_seen : Which → Chip → Bool
pending_seen A c = any_pending c
pending_seen B c = false

abbrev pub control_value : Which → Chip → ℕ
control_value w c = answer_value (happens c (ControlRead (number w))).answer

-- RR2 is B's
abbrev vector_in : Which → Chip → ℕ
vector_in A c = 0
vector_in B c = rr2 c

reads_register : (w : Which) (c : Chip)
    → control_value w c ≡ read_register (chan w c) (pending_seen w c) (vector_in w c)
unfolding control_read_call
reads_register A c = refl
reads_register B c = refl

by_pointer : (c : Channel) (pending : Bool) (vector n : ℕ) → c.pointer ≡ n
    → read_register c pending vector
    ≡ (if eqb n 0 then rr0 c pending
    else (if eqb n 1 then rr1_now c else (if eqb n 2 then vector else 0)))
unfolding read_register
by_pointer c pending vector n p =
    ap (λ (m : ℕ). if eqb m 0 then rr0 c pending
    else (if eqb m 1 then rr1_now c else (if eqb m 2 then vector else 0))) p

pub reads_rr0 : (w : Which) (c : Chip) → (chan w c).pointer ≡ 0
    → control_value w c ≡ rr0 (chan w c) (pending_seen w c)
reads_rr0 w c p =
    reads_register w c ∙ by_pointer (chan w c) (pending_seen w c) (vector_in w c) 0 p

pub reads_rr1 : (w : Which) (c : Chip) → (chan w c).pointer ≡ 1
    → control_value w c ≡ rr1_now (chan w c)
reads_rr1 w c p =
    reads_register w c ∙ by_pointer (chan w c) (pending_seen w c) (vector_in w c) 1 p

-- Bits

pub placed_le : (b : Bool) (w : ℕ) → placed b w ≤ w
placed_le true w = omega arith
placed_le false w = omega arith

pub placed_is : (b : Bool) (w : ℕ) → placed b w ≡ one_if b * w
placed_is true w = omega arith
placed_is false w = omega arith

-- D6, below D7 and above all others
pub d6_of : (low : ℕ) (d6 d7 : Bool) → low ≤ 63
    → odd ((low + placed d6 64 + placed d7 128) / 64) ≡ d6
d6_of low d6 d7 h =
    let e : (low + placed d6 64 + placed d7 128) / 64 ≡ one_if d7 * 2 + one_if d6 =
    omega (arith, placed_is d6 64, placed_is d7 128) in
    rw e (odd_joined (one_if d7) d6)
