-- `items::dealt` meets its contract: the item is read, and its bytes are laid as often as it says. Assumes
-- nothing.
use Rattle.items.specs.Sheet.{dealt_item, dealt_desk, dealt_sheet, laid_for}
use mathlib.Core.Path.{refl}
use Rattle.items.proofs.dealt.Goals as goal

pub returns : goal.returns
unfolding dealt_item dealt_desk dealt_sheet laid_for
returns c =
    let lay = c.lay_times-end.ensures in
    rw (
      c.with_item.ensures,
      lay.value,
      lay.cells_after,
      c.times.ensures,
      c.part.ensures,
      c.item_at-t.ensures,
    )
    record { value = refl; desk_after = refl }
