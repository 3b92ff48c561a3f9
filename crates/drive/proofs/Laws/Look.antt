-- A look at RR0 says whether the sender takes a byte, and changes nothing where the pointer is 0.
-- Assumes nothing.
use Rattle.std.specs.Prelude.{◌≡◌, Bool, true, false, ℕ, ◌+◌, ◌*◌, ◌/◌, ◌%◌, ◌≤◌, eqb}
use Rattle.std.proofs.Common.{sym, ap, ◌∙◌, arith, eq-eqb, ne_eqb}
use Rattle.common.specs.Bit.{placed}
use Rattle.line.specs.Bits.{odd, one_if}
use Rattle.queue.specs.Queue.{waits}
use Rattle.sender.specs.Sender.{buffer_ready}
use Rattle.settings.specs.Settings.{sending_of}
use Rattle.channel.specs.declared.Channel.{Channel}
use Rattle.status.specs.Status.{shown_bits}
use Rattle.channel.specs.Channel.{with_pointer, live_of}
use Rattle.channel.specs.Control.{rr0, read_register}
use Rattle.chip.specs.declared.Chip.{Chip}
use Rattle.chip.specs.Interrupts.{with_a, any_pending}
use Rattle.chip.specs.Chip.{control_read_call}
use Rattle.feed.specs.Laws.Feeding.{if_true}
use Rattle.drive.specs.Drive.{look_a, empty_a}
use Rattle.line.specs.Laws.Bits.{bit_few}

-- the third bit of eight
third : (p q r s t u w : ℕ) (b : Bool) → p ≤ 1 → q ≤ 1
    → odd ((p + 2 * q + placed b 0b100 + 8 * r + 16 * s + 32 * t + 64 * u + 128 * w) / 4) ≡ b
third p q r s t u w true hp hq =
    let n : ℕ = (p + 2 * q + 4 + 8 * r + 16 * s + 32 * t + 64 * u + 128 * w) / 4 % 2 in
    let e : n ≡ 1 = omega arith in
    eq-eqb n 1 e
third p q r s t u w false hp hq =
    let n : ℕ = (p + 2 * q + 0 + 8 * r + 16 * s + 32 * t + 64 * u + 128 * w) / 4 % 2 in
    ne_eqb n 1 (λ (e : n ≡ 1). omega arith)

bit_as : (b : Bool) (n : ℕ) → placed b n ≡ n * one_if b
bit_as true n = omega arith
bit_as false n = omega arith

abbrev word : (p q b r s t u w : Bool) → ℕ
word p q b r s t u w =
    placed p 0b1 + placed q 0b10 + placed b 0b100 + placed r 0b1000
    + placed s 0b10000 + placed t 0b100000 + placed u 0b1000000 + placed w 0b10000000

third_of : (p q b r s t u w : Bool) → odd (word p q b r s t u w / 4) ≡ b
third_of p q b r s t u w =
    let e : word p q b r s t u w
    ≡ one_if p + 2 * one_if q + placed b 0b100 + 8 * one_if r + 16 * one_if s + 32 * one_if t
    + 64 * one_if u + 128 * one_if w =
    omega (
      arith,
      bit_as p 1,
      bit_as q 2,
      bit_as r 8,
      bit_as s 16,
      bit_as t 32,
      bit_as u 64,
      bit_as w 128,
    ) in
    ap (λ (n : ℕ). odd (n / 4)) e
    ∙ third (one_if p) (one_if q) (one_if r) (one_if s) (one_if t) (one_if u) (one_if w) b
    (bit_few p) (bit_few q)

rr0_third : (a : Channel) (pending : Bool)
    → odd (rr0 a pending / 4) ≡ buffer_ready (sending_of a.registers a.lines) a.sender
unfolding rr0
rr0_third a pending =
    let s = shown_bits a.status (live_of a) in
    third_of (waits a.queue) pending
    (buffer_ready (sending_of a.registers a.lines) a.sender) s.dcd s.hunt s.cts
    s.underrun s.abort

reads_rr0 : (a : Channel) (pending : Bool) (vector : ℕ) → a.pointer ≡ 0
    → read_register a pending vector ≡ rr0 a pending
unfolding read_register
reads_rr0 a pending vector p = if_true _ _ (ap (λ (n : ℕ). eqb n 0) p)

pub d2 : (c : Chip) → c.a.pointer ≡ 0
    → empty_a c ≡ buffer_ready (sending_of c.a.registers c.a.lines) c.a.sender
unfolding empty_a control_read_call
d2 c p =
    ap (λ (n : ℕ). odd (n / 4)) (reads_rr0 c.a (any_pending c) 0 p)
    ∙ rr0_third c.a (any_pending c)

pub look_same : (c : Chip) → c.a.pointer ≡ 0 → look_a c ≡ c
unfolding look_a control_read_call
look_same c p = λ i. with_a c (with_pointer c.a (sym p i))
