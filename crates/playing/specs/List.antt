-- A list of the known answers, sent through a chip. Assumes nothing.
use Rattle.std.specs.Prelude.{List, ◌++◌, ℕ, length, take, drop, replicate}
use Rattle.report.specs.Report.{Report, report_of, rows_in}
use Rattle.station.specs.Station.{listed_of}
use Rattle.items.specs.declared.Item.{Item}
use Rattle.items.specs.declared.Sheet.{Sheet}
use Rattle.items.specs.Item.{room_of}
use Rattle.items.specs.Desk.{part_of}
use Rattle.calls.specs.Listed.{between_of, list_value}

-- rows that nobody has written: 87,380 nines
unfoldable pub rows : List ℕ
rows = replicate 87380 9

-- as many of them are lent as the item says, and the others kept
abbrev pub rows_after : Item → Report → List ℕ
rows_after t r =
    rows_in (take (room_of t (length rows)) rows) r ++ drop (room_of t (length rows)) rows

-- of the bytes that lie on the desk
abbrev pub reported : Sheet → List ℕ → Report
reported s desk = report_of (between_of s.item) (part_of desk 0 s.given)

unfoldable pub list_gave : Sheet → List ℕ → ℕ
list_gave s desk =
    list_value s (listed_of (reported s desk)) (rows_after s.item (reported s desk)) desk
