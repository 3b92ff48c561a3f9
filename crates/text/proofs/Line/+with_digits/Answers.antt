-- `text::Line::with_digits` meets its contract: the last digit is put behind the others. Assumes nothing.
use Rattle.std.proofs.Common.{◌∙◌, sym, ap}
use Rattle.text.specs.Text.{with, digit_of}
use Rattle.text.specs.declared.Line.{Line}
use Rattle.text.proofs.Laws.{decimal_none, decimal_one, decimal_more}
use Rattle.text.proofs.Line.+with_digits.Goals as goal
use Rattle.text.proofs.Line.+with_digits.Goals.{then-v-lt10, else-v-lt10}

pub returns-then-digits-eq0 : goal.returns-then-digits-eq0
returns-then-digits-eq0 t c = sym (decimal_none c.args.self c.args.digits c.args.v c.if-digits-eq0.true)

pub returns : goal.returns
returns t c =
    let a = c.args in
    let last = λ (l : Line). with l (digit_of a.v) in
    c.with.ensures ∙ (elim c.if-v-lt10.branch [
      | then-v-lt10 w ↦ ap last w.l-is ∙ sym (decimal_one a.self a.digits a.v c.if-digits-eq0.false w.if-v-lt10.true)
      | else-v-lt10 w ↦ ap last (w.l-is ∙ w.with_digits-l.ensures) ∙ sym (decimal_more a.self a.digits a.v c.if-digits-eq0.false w.if-v-lt10.false)
    ])
