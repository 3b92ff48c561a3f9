-- Known answers played on a chip, item by item. Assumes nothing.
use Rattle.std.specs.Prelude.{List, ℕ, zero, suc, if◌then◌else◌}
use Rattle.channel.specs.declared.Answer.{Answer}
use Rattle.channel.specs.declared.Answer.TheVariants.{Done, Gave}
use Rattle.channel.specs.Answer.{answer_number, answer_value}
use Rattle.chip.specs.declared.Chip.{Chip}
use Rattle.chip.specs.declared.Outcome.{Outcome}
use Rattle.chip.specs.Chip.{outcome, hard_reset}
use Rattle.chip.specs.Event.{step}
use Rattle.script.specs.Step.{event_of, said}
use Rattle.script.specs.Shown.{register_of}
use Rattle.items.specs.declared.Kind.{Kind}
use Rattle.items.specs.declared.Kind.TheVariants.{Event, NoteList, SharedList}
use Rattle.items.specs.declared.Sheet.{Sheet}
use Rattle.items.specs.Kind.{stops}
use Rattle.items.specs.Sheet.{start_sheet, answered, dealt_sheet, dealt_desk, items_left}
use Rattle.items.specs.Lines.{told}
use Rattle.calls.specs.Calls.{value_of}
use Rattle.playing.specs.List.{list_gave}

-- An item

-- what a call gives that is no event: a list went through the chip, or the register is looked at
-- that the item may name
abbrev pub called_value : Chip → Sheet → List ℕ → ℕ
called_value c s desk = value_of s (register_of c s.item.x s.item.y) desk

abbrev pub value_for : Kind → Chip → Sheet → List ℕ → ℕ
value_for NoteList c s desk = list_gave s desk
value_for SharedList c s desk = list_gave s desk
value_for _ c s desk = called_value c s desk

abbrev pub other_value : Chip → Sheet → List ℕ → ℕ
other_value c s desk = value_for s.item.kind c s desk

-- an event answers and changes the chip; no answer asks for the chip behind another call
abbrev pub turned_for : Kind → Chip → Sheet → List ℕ → Outcome
turned_for (Event code) c s desk = step c (said (event_of code s.item.x s.item.y s.item.z))
turned_for _ c s desk = outcome (Gave (other_value c s desk)) c

unfoldable pub turned : Chip → Sheet → List ℕ → Outcome
turned c s desk = turned_for s.item.kind c s desk

-- All items

-- a hard reset, and nothing was answered
abbrev pub at_first : Outcome
at_first = outcome Done hard_reset

-- how far it has come: the sheet, the chip, the bytes for a call, and the lines
pub record Play : Type 0 where
  pub sheet : Sheet
  pub chip : Chip
  pub desk : List ℕ
  pub out : List ℕ

abbrev pub playing : Sheet → Chip → List ℕ → List ℕ → Play
playing s c desk out = record { sheet = s; chip = c; desk = desk; out = out }

-- the item was answered so, and a case that ends is told
abbrev pub judged : Sheet → List ℕ → List ℕ → Answer → Sheet
judged s input out w = answered s (answer_number w) (answer_value w) (told s input out).end

abbrev pub answered_by : List ℕ → Play → Outcome → Sheet
answered_by input p t = judged p.sheet input p.out t.answer

-- the next item
abbrev pub dealt_to : List ℕ → Play → Outcome → Sheet → Play
dealt_to input p t s =
    playing (dealt_sheet s input p.desk) t.chip (dealt_desk s input p.desk).cells
    (told p.sheet input p.out).cells

abbrev pub behind : List ℕ → Play → Outcome → Play
behind input p t = dealt_to input p t (answered_by input p t)

unfoldable pub round : List ℕ → Play → Play
round input p = behind input p (turned p.chip p.sheet p.desk)

-- at most so many rounds, up to the last item
unfoldable pub rounds : ℕ → List ℕ → Play → Play
rounds zero input p = p
rounds (suc n) input p =
    if stops p.sheet.item.kind then p else rounds n input (round input p)

-- as many as there can be
abbrev pub all_rounds : List ℕ → Play → Play
all_rounds input p = rounds (items_left input p.sheet.item) input p

unfoldable pub played : List ℕ → List ℕ → List ℕ → Play
played input desk out = all_rounds input (playing start_sheet hard_reset desk out)
