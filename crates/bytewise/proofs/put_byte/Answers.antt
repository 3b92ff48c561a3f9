-- `bytewise::put_byte` meets its contract: each return by the facts on its way. Assumes nothing.
use mathlib.Core.Path.{refl, sym, ◌∙◌}
use Rattle.bytewise.specs.Bytewise.{byte_stamped}
use Rattle.bytewise.proofs.put_byte.Goals as goal

pub returns-then-lacks_cells : goal.returns-then-lacks_cells
unfolding byte_stamped
returns-then-lacks_cells c =
    let short = sym c.lacks_cells.ensures ∙ c.if-lacks_cells.true in
    rw short (record { value = refl; out_after = refl })

pub returns : goal.returns
unfolding byte_stamped
returns c =
    let put = c.put_stamp.ensures in
    rw (
      sym c.lacks_cells.ensures ∙ c.if-lacks_cells.false,
      put.value,
      put.out_after,
      c.stamp_for-e.ensures,
    )
    (record { value = refl; out_after = refl })
