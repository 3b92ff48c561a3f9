-- What a list must give that went through a chip. Assumes nothing.
use Rattle.std.specs.Prelude.{Result, ◌&&◌, List, ℕ, eqb}
use Rattle.common.specs.Bit.{placed}
use Rattle.common.specs.declared.Refusal.{Refusal}
use Rattle.common.specs.Refusal.{number_in}
use Rattle.flags.specs.declared.Between.{Between}
use Rattle.flags.specs.declared.Between.TheVariants.{SharedFlag}
use Rattle.flags.specs.Flags.{usual}
use Rattle.told.specs.declared.Total.{Total}
use Rattle.told.specs.Answers.{listed_notes, listed_ticks}
use Rattle.items.specs.declared.Kind.{Kind}
use Rattle.items.specs.declared.Kind.TheVariants.{SharedList}
use Rattle.items.specs.declared.Item.{Item}
use Rattle.items.specs.declared.Sheet.{Sheet}
use Rattle.items.specs.Item.{two_bytes, says}
use Rattle.items.specs.Desk.{part_of}
use Rattle.items.specs.Cells.{cells_are}

abbrev pub between_for : Kind → Between
between_for SharedList = SharedFlag
between_for _ = usual

abbrev pub between_of : Item → Between
between_of t = between_for t.kind

-- 1 if its answer, its notes and its rows are what the item says
abbrev pub list_value : Sheet → Result Total Refusal → List ℕ → List ℕ → ℕ
list_value s l rows desk =
    placed
    ((says s.item (number_in l) (listed_ticks l)
    && eqb (listed_notes l) (two_bytes s.item.y s.item.z))
    && cells_are rows (part_of desk s.given s.wanted))
    1
