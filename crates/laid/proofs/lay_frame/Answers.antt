-- `laid::lay_frame` meets its contract: flag, content, flag. Assumes nothing.
use mathlib.Core.Path.{ap, ◌∙◌}
use mathlib.Core.List.{List}
use Prim.Native.Nat.{ℕ}
use Rattle.pen.specs.Pen.{flag_put}
use Rattle.bytewise.specs.Bytewise.{Plate}
use Rattle.tabled.specs.Tabled.{content_stamped}
use Rattle.laid.specs.Laid.{end_stamped, frame_stamped}
use Rattle.laid.proofs.lay_frame.Goals as goal

pub returns : goal.returns
unfolding end_stamped frame_stamped
returns c =
    let a = c.args in
    let put : List ℕ → Plate = λ l. content_stamped a.tables.now.checks a.tables.now.stamps a.tables.now.fours l a.note.now in
    let e = c.put_content-end.ensures in
    let opening = c.put_flag.ensures in record {
      value = e.value ∙ ap (λ (l : List ℕ). (put l).press.at) opening;
      out_after = c.put_flag-2.ensures
          ∙ (λ i. flag_put (e.out_after i) (e.value i))
          ∙ ap (λ (l : List ℕ). flag_put (put l).buffer (put l).press.at) opening;
    }
