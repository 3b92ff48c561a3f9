-- `pen::put_byte` meets its contract: where there is room, what is left, put down from the pen on, makes what the whole byte made
-- from the first place. Assumes nothing.
use Rattle.std.proofs.Common.{[], ◌∷◌, ◌+◌, ◌-◌, ◌/◌, ◌≤◌, length, sym, ap, ◌∙◌, arith}
use Rattle.line.specs.Bits.{odd, low_bits}
use Rattle.line.specs.Laws.Bits.{low_more, low_over}
use Rattle.pen.specs.Pen.{Sheet, sheet, byte_cells}
use Rattle.pen.specs.Laws.{put_none, put_join, byte_fits, byte_left_out, byte_short, same_room}
use Rattle.pen.proofs.put_byte.Goals as goal

pub returns-then-saturating_sub-lt-BYTE_CELLS : goal.returns-then-saturating_sub-lt-BYTE_CELLS
returns-then-saturating_sub-lt-BYTE_CELLS c =
    let a = c.args in
    let short = c.if-saturating_sub-lt-BYTE_CELLS.true in
    let e = byte_left_out (sheet a.out.now a.p) a.v (omega (arith, c.saturating_sub.ensures, short)) in
    record { value = ap (λ (s : Sheet). s.pen) (sym e); out_after = ap (λ (s : Sheet). s.buffer) (sym e) }

pub put_bit-q-requires : goal.put_bit-q-requires
put_bit-q-requires c =
    let a = c.args in
    let l = c.loop in
    let left = rw (low_more 8 l.counter l.rest c.loop-test.true) at l.invariant in
    let room : byte_cells ≤ length a.out.now - a.p.at = omega (arith, c.saturating_sub.ensures, c.if-saturating_sub-lt-BYTE_CELLS.false) in
    same_room (sheet a.out.now a.p) (sheet l.out l.q) (low_bits 8 a.v)
    (odd l.rest ∷ []) (low_bits (8 - (l.counter + 1)) (l.rest / 2)) left
    (omega (arith, room, byte_short a.p.run a.v))

pub loop-preserved : goal.loop-preserved
loop-preserved c =
    let l = c.loop in
    let left = rw (low_more 8 l.counter l.rest c.loop-test.true) at l.invariant in
    let e = c.put_bit-q.ensures in
    rw (e.value, e.out_after)
    (sym (put_join (sheet l.out l.q) (odd l.rest ∷ []) (low_bits (8 - (l.counter + 1)) (l.rest / 2))) ∙ left)

pub returns : goal.returns
returns c =
    let a = c.args in
    let l = c.loop in
    let done = rw (low_over 8 l.counter l.rest c.loop-test.false, put_none (sheet l.out l.q)) at l.invariant in
    let room : byte_cells ≤ length a.out.now - a.p.at = omega (arith, c.saturating_sub.ensures, c.if-saturating_sub-lt-BYTE_CELLS.false) in
    let e = done ∙ sym (byte_fits (sheet a.out.now a.p) a.v room) in
    record { value = ap (λ (s : Sheet). s.pen) e; out_after = ap (λ (s : Sheet). s.buffer) e }
