-- `layout::put_text` meets its contract: the bytes that remain, put down from the pen on, make what all of them made from the first
-- place, and so with the register. Assumes nothing.
use Rattle.std.proofs.Common.{refl, sym, ap, ◌∙◌}
use Rattle.pen.specs.Pen.{Sheet, sheet}
use Rattle.layout.specs.Laws.{bytes_step, bytes_none, over_step, over_none}
use Rattle.layout.proofs.put_text.Goals as goal

pub loop-v-init : goal.loop-v-init
loop-v-init c = record { laid = refl; over = refl }

pub loop-v-preserved : goal.loop-v-preserved
loop-v-preserved c =
    let l = c.loop-v in
    let text = c.args.text.now in
    let more = c.loop-v-test.true in
    let put = c.put_byte-pen.ensures in
    record {
      laid = rw (put.value, put.out_after) (sym (bytes_step (sheet l.out l.pen) text l.v-index more) ∙ l.invariant.laid);
      over = rw c.mirrored_byte-m.ensures (sym (over_step l.m text l.v-index more) ∙ l.invariant.over);
    }

pub returns : goal.returns
returns c =
    let l = c.loop-v in
    let text = c.args.text.now in
    let none = c.loop-v-test.false in
    let all = sym (bytes_none (sheet l.out l.pen) text l.v-index none) ∙ l.invariant.laid in
    record {
      pen_value = ap (λ (s : Sheet). s.pen) all;
      m_value = sym (over_none l.m text l.v-index none) ∙ l.invariant.over;
      out_after = ap (λ (s : Sheet). s.buffer) all;
    }
