-- What RR0 and RR1 show of the receiver in Monosync and Bisync: D6 of RR1 is the check's, at all
-- times, and D4 of RR0 is hunt. Assumes nothing.
use Rattle.std.specs.Prelude.{◌≡◌, Bool, true, ℕ, ◌+◌, ◌*◌, ◌/◌, ◌≤◌, if◌then◌else◌}
use Rattle.std.proofs.Common.{ap, ◌∙◌, arith}
use Rattle.common.specs.Bit.{placed}
use Rattle.common.specs.Mode.{in_blocks}
use Rattle.line.specs.Bits.{odd, one_if}
use Rattle.line.specs.Laws.Bits.{odd_joined}
use Rattle.queue.specs.declared.Queue.{Queue}
use Rattle.queue.specs.Queue.{waits, oldest, rr1, rr1_told}
use Rattle.bytesync.specs.Hearing.{wrong}
use Rattle.sender.specs.Sender.{all_sent, buffer_ready}
use Rattle.settings.specs.Settings.{sending_of, receiving_of}
use Rattle.status.specs.Status.{shown_bits}
use Rattle.channel.specs.declared.Channel.{Channel}
use Rattle.channel.specs.Channel.{live_of}
use Rattle.channel.specs.Control.{rr0, rr1_now}
use Rattle.chip.specs.declared.Chip.{Chip}
use Rattle.stories.specs.Story.{Which, chan}
use Rattle.history.specs.Read.{pending_seen, reads_rr0, reads_rr1, placed_le, placed_is, d6_of}
use Rattle.terminals.specs.Side.{side_in, side_of}
use Rattle.terminals.specs.Statement.{rr1_d6, d4}

-- RR1 D6

told_d6 : (q : Queue) (sent error : Bool) → odd (rr1_told q sent error / 64) ≡ error
unfolding rr1_told
told_d6 q sent error =
    let e = oldest q in
    d6_of (placed sent 0b1 + placed e.ends 0b110 + placed q.parity 0b10000
    + placed q.overrun 0b100000) error e.ends
    (omega (
      arith,
      placed_le sent 0b1,
      placed_le e.ends 0b110,
      placed_le q.parity 0b10000,
      placed_le q.overrun 0b100000,
    ))

rr1_d6_lem : (c : Channel) → in_blocks (side_in c).heeds.mode ≡ true
    → odd (rr1_now c / 64) ≡ wrong c.receiver.check
unfolding rr1_now receiving_of
rr1_d6_lem c m =
    let sent = all_sent (sending_of c.registers c.lines) c.sender in
    ap (λ (b : Bool).
    odd ((if b then rr1_told c.queue sent (wrong c.receiver.check)
    else rr1 c.queue sent) / 64))
    m ∙ told_d6 c.queue sent (wrong c.receiver.check)

-- "RR1 D6 is then 1 exactly while that check is not zero"
pub d6_is : (w : Which) (c : Chip) → in_blocks (side_of w c).heeds.mode ≡ true
    → (chan w c).pointer ≡ 1 → rr1_d6 w c ≡ wrong (chan w c).receiver.check
d6_is w c m p = ap (λ (v : ℕ). odd (v / 64)) (reads_rr1 w c p) ∙ rr1_d6_lem (chan w c) m

-- RR0 D4

d4_of : (low : ℕ) (hunt cts underrun abort : Bool) → low ≤ 15
    → odd ((low + placed hunt 16 + placed cts 32 + placed underrun 64 + placed abort 128) / 16)
    ≡ hunt
d4_of low hunt cts underrun abort h =
    let above : ℕ = one_if cts + one_if underrun * 2 + one_if abort * 4 in
    let e : (low + placed hunt 16 + placed cts 32 + placed underrun 64 + placed abort 128) / 16
    ≡ above * 2 + one_if hunt =
    omega (
      arith,
      placed_is hunt 16,
      placed_is cts 32,
      placed_is underrun 64,
      placed_is abort 128,
    ) in
    rw e (odd_joined above hunt)

rr0_d4 : (c : Channel) (pending : Bool)
    → odd (rr0 c pending / 16) ≡ (shown_bits c.status (live_of c)).hunt
unfolding rr0
rr0_d4 c pending =
    let s = shown_bits c.status (live_of c) in
    let ready = buffer_ready (sending_of c.registers c.lines) c.sender in
    d4_of (placed (waits c.queue) 0b1 + placed pending 0b10 + placed ready 0b100
    + placed s.dcd 0b1000)
    s.hunt s.cts s.underrun s.abort
    (omega (
      arith,
      placed_le (waits c.queue) 0b1,
      placed_le pending 0b10,
      placed_le ready 0b100,
      placed_le s.dcd 0b1000,
    ))

pub d4_is : (w : Which) (c : Chip) → (chan w c).pointer ≡ 0
    → d4 w c ≡ (shown_bits (chan w c).status (live_of (chan w c))).hunt
d4_is w c p =
    ap (λ (v : ℕ). odd (v / 16)) (reads_rr0 w c p) ∙ rr0_d4 (chan w c) (pending_seen w c)
