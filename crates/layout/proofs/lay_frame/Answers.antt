-- `layout::lay_frame` meets its contract: flag, content, flag. Assumes nothing.
use Rattle.std.proofs.Common.{refl}
use Rattle.layout.specs.Layout.{content_put, frame_put}
use Rattle.layout.proofs.lay_frame.Goals as goal

pub returns : goal.returns
unfolding content_put frame_put
returns c =
    let content = c.put_content-end.ensures in
    let opening = c.put_flag.ensures in
    rw (c.put_flag-2.ensures, content.value, content.out_after, opening) (record {
      value = refl;
      out_after = refl;
    })
