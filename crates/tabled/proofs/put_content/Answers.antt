-- `tabled::put_content` meets its contract: behind the last byte its check alone is left. Assumes nothing.
use Rattle.std.proofs.Common.{ap, ◌∙◌}
use Rattle.lookup.specs.Lookup.{with_lookup, looked_over}
use Rattle.bytewise.specs.Bytewise.{Plate}
use Rattle.tabled.proofs.put_content.Goals as goal

pub returns : goal.returns
unfolding with_lookup looked_over
returns c =
    let all = c.put_text-g.ensures in
    record {
      value = c.put_check.ensures.value ∙ ap (λ (s : Plate). s.press.at) all;
      out_after = c.put_check.ensures.out_after ∙ ap (λ (s : Plate). s.buffer) all;
    }
