-- An item of the known answers: eight bytes, and those that may stand behind it. Assumes nothing.
use Rattle.std.specs.Prelude.{Bool, ◌&&◌, ◌||◌, List, ℕ, ◌+◌, ◌-◌, ◌*◌, min, eqb, ltb, length, get_or, drop, if◌then◌else◌}
use Rattle.items.specs.declared.Kind.{Kind}
use Rattle.items.specs.declared.Kind.TheVariants.{Line, Stop}
use Rattle.items.specs.declared.Item.{Item}
use Rattle.items.specs.Kind.{kind_of, lies, bytes_behind}

-- numbers of two bytes and of three
abbrev pub two_bytes : ℕ → ℕ → ℕ
two_bytes high low = high * 256 + low

abbrev pub three_bytes : ℕ → ℕ → ℕ → ℕ
three_bytes high middle low = two_bytes high middle * 256 + low

-- an item that says nothing
abbrev pub empty_item : Kind → Item
empty_item kind = record {
  kind = kind;
  x = 0;
  y = 0;
  z = 0;
  number = 0;
  value = 0;
  start = 0;
  behind = 0;
}

abbrev pub item_size : ℕ
item_size = 8

-- the item that bytes begin with, at a place; the last where they are fewer
abbrev pub item_in : List ℕ → ℕ → Item
item_in left at =
    if ltb (length left) item_size then empty_item Stop
    else record {
      kind = kind_of (get_or left 0 0);
      x = get_or left 1 0;
      y = get_or left 2 0;
      z = get_or left 3 0;
      number = get_or left 4 0;
      value = three_bytes (get_or left 5 0) (get_or left 6 0) (get_or left 7 0);
      start = at + item_size;
      behind =
          at + item_size
          + min (bytes_behind (kind_of (get_or left 0 0)) (get_or left 1 0)) (length left - item_size);
    }

unfoldable pub item_at : List ℕ → ℕ → Item
item_at bytes at = item_in (drop at bytes) at

-- what a call gave is what its item says; no value is asked for where it is this one
abbrev pub any_value : ℕ
any_value = 0xFFFFFF

abbrev pub says : Item → ℕ → ℕ → Bool
says t number value =
    eqb number t.number && (eqb value t.value || eqb t.value any_value)

-- the place of a line: 255 stands for the greatest there is
abbrev pub greatest : ℕ
greatest = 18446744073709551615

abbrev pub place_of : Item → ℕ
place_of t = if eqb t.z 255 then greatest else t.z

-- the cells lent to a call, of those that there are: x and y say it for a line; x for a list's
-- rows, and with 0 there are all
abbrev pub room_for : Kind → Item → ℕ → ℕ
room_for Line t cells = min (two_bytes t.x t.y) cells
room_for _ t cells = if eqb t.x 0 then cells else min t.x cells

abbrev pub room_of : Item → ℕ → ℕ
room_of t cells = room_for t.kind t cells

-- the bytes behind bytes for a call come so often as y and z say
abbrev pub times_of : Item → ℕ
times_of t = if lies t.kind then two_bytes t.y t.z else 0
