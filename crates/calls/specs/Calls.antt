-- What the calls give that need no chip, held to what their items say. Assumes nothing.
use Rattle.std.specs.Prelude.{Result, Bool, false, ◌&&◌, List, ◌++◌, ℕ, length, take, drop, replicate}
use Rattle.common.specs.Bit.{placed}
use Rattle.common.specs.declared.Refusal.{Refusal}
use Rattle.common.specs.Refusal.{number_in}
use Rattle.common.specs.Same.{same}
use Rattle.line.specs.Frame.{frame}
use Rattle.zeros.specs.Counted.{counted_zeros}
use Rattle.zeros.specs.Zeros.{count_of}
use Rattle.writer.specs.Writer.{write_of, buffer_after}
use Rattle.flags.specs.declared.Between.TheVariants.{SharedFlag}
use Rattle.notes.specs.Scanned.{scanned_notes}
use Rattle.notes.specs.NoteList.{read_list, scanned}
use Rattle.report.specs.Pages.{pages_ticks}
use Rattle.report.specs.Report.{report_of, pages_of}
use Rattle.items.specs.declared.Kind.{Kind}
use Rattle.items.specs.declared.Kind.TheVariants.{Register, Pages as PageTicks, Zeros, Line, Scan}
use Rattle.items.specs.declared.Item.{Item}
use Rattle.items.specs.declared.Sheet.{Sheet}
use Rattle.items.specs.Item.{says, place_of, room_of}
use Rattle.items.specs.Desk.{part_of}

-- A line

-- a page that nobody has written: 20,000 nines
unfoldable pub page : List ℕ
page = replicate 20000 9

-- the part of it that is lent, and the rest
abbrev pub lent : Item → List ℕ
lent t = take (room_of t (length page)) page

abbrev pub kept : Item → List ℕ
kept t = drop (room_of t (length page)) page

abbrev pub count_right : Item → Result ℕ Refusal → Bool
count_right t c = says t (number_in c) (counted_zeros c)

-- what the writer answered, and the whole page: the line in its part, and nothing else
abbrev pub written_right : Item → List ℕ → List ℕ → Result ℕ Refusal → Bool
written_right t note wanted c =
    count_right t c && same (buffer_after c (frame note) (lent t) (place_of t) ++ kept t) wanted

unfoldable pub line_right : Item → List ℕ → List ℕ → Bool
line_right t note wanted = written_right t note wanted (write_of note (lent t) (place_of t))

-- Every call

abbrev pub scan_right : Item → Result ℕ Refusal → Bool
scan_right t s = says t (number_in s) (scanned_notes s)

abbrev pub pages_right : Item → Result ℕ Refusal → Bool
pages_right t p = says t (number_in p) (pages_ticks p)

abbrev pub right_for : Kind → Item → List ℕ → List ℕ → Bool
right_for Zeros t given wanted = count_right t (count_of given)
right_for Line t given wanted = line_right t given wanted
right_for Scan t given wanted = scan_right t (scanned (read_list given))
right_for PageTicks t given wanted = pages_right t (pages_of (report_of SharedFlag given))
right_for _ t given wanted = false

abbrev pub call_right : Item → List ℕ → List ℕ → Bool
call_right t given wanted = right_for t.kind t given wanted

-- of the bytes on the desk
abbrev pub sheet_right : Sheet → List ℕ → Bool
sheet_right s desk =
    call_right s.item (part_of desk 0 s.given) (part_of desk s.given s.wanted)

-- what the register holds if the item names it, or 1 if its call gave what it must
abbrev pub value_for : Kind → Sheet → ℕ → List ℕ → ℕ
value_for Register s register desk = register
value_for _ s register desk = placed (sheet_right s desk) 1

abbrev pub value_of : Sheet → ℕ → List ℕ → ℕ
value_of s register desk = value_for s.item.kind s register desk
