-- The sheet on which known answers are judged, item by item. Assumes nothing.
use Rattle.std.specs.Prelude.{Bool, true, ◌&&◌, List, ℕ, ◌+◌, ◌-◌, eqb, ltb, length, if◌then◌else◌}
use Rattle.items.specs.declared.Kind.{Kind}
use Rattle.items.specs.declared.Kind.TheVariants.{Event, Register, Name, Given, Wanted}
use Rattle.items.specs.declared.Item.{Item}
use Rattle.items.specs.declared.Sheet.{Sheet}
use Rattle.items.specs.Kind.{stops}
use Rattle.items.specs.Item.{empty_item, item_at, says, times_of}
use Rattle.items.specs.Desk.{Desk, desk, part_of, laid_times}

-- before the first item: no bytes for a call
abbrev pub start_sheet : Sheet
start_sheet = record {
  item = empty_item Given;
  given = 0;
  wanted = 0;
  right = true;
  cases = 0;
  good = 0;
  told = 0;
}

-- one more, up to five digits
abbrev pub counted : ℕ → Bool → ℕ
counted n right = if right && ltb n 99999 then n + 1 else n

-- the chip's answer is what its item says; any other call was judged, and gives a 1 if it is right
abbrev pub right_for : Kind → Item → ℕ → ℕ → Bool
right_for (Event code) t number value = says t number value
right_for Register t number value = says t number value
right_for _ t number value = eqb value 1

abbrev pub right_by : Item → ℕ → ℕ → Bool
right_by t number value = right_for t.kind t number value

-- a case ends: it is counted and told up to here, and the next is right so far
abbrev pub closed : Sheet → ℕ → Sheet
closed s told =
    record {
      item = s.item;
      given = 0;
      wanted = 0;
      right = true;
      cases = counted s.cases true;
      good = counted s.good s.right;
      told = told;
    }

-- a call is judged, and has used its bytes up
abbrev pub judged : Sheet → Bool → Sheet
judged s right =
    record {
      item = s.item;
      given = 0;
      wanted = 0;
      right = s.right && right;
      cases = s.cases;
      good = s.good;
      told = s.told;
    }

-- the item has been played; bytes for a call wait for it
abbrev pub answered_for : Kind → Sheet → ℕ → ℕ → ℕ → Sheet
answered_for Given s number value told = s
answered_for Wanted s number value told = s
answered_for Name s number value told = closed s told
answered_for _ s number value told = judged s (right_by s.item number value)

abbrev pub answered : Sheet → ℕ → ℕ → ℕ → Sheet
answered s number value told = answered_for s.item.kind s number value told

-- the next item, and what lies on the desk behind it
unfoldable pub dealt_item : Sheet → List ℕ → Item
dealt_item s bytes = item_at bytes s.item.behind

unfoldable pub laid_for : Item → List ℕ → Desk → Desk
laid_for t bytes d = laid_times (times_of t) (part_of bytes t.start t.behind) d

unfoldable pub dealt_desk : Sheet → List ℕ → List ℕ → Desk
dealt_desk s bytes cells = laid_for (dealt_item s bytes) bytes (desk cells s.wanted)

-- the bytes for the call come first, those that it must leave behind them
abbrev pub given_to : Kind → ℕ → ℕ → ℕ
given_to Given given end = end
given_to _ given end = given

abbrev pub with_item : Sheet → Item → ℕ → Sheet
with_item s t end =
    record {
      item = t;
      given = given_to t.kind s.given end;
      wanted = end;
      right = s.right;
      cases = s.cases;
      good = s.good;
      told = s.told;
    }

unfoldable pub dealt_sheet : Sheet → List ℕ → List ℕ → Sheet
dealt_sheet s bytes cells =
    with_item s (dealt_item s bytes) (dealt_desk s bytes cells).end

-- more items than can still come, and none behind the last
unfoldable pub items_left : List ℕ → Item → ℕ
items_left bytes t = if stops t.kind then 0 else length bytes - t.behind + 1
