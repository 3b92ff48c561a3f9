-- Items come to an end: behind each that is not the last fewer can come. Assumes nothing.
use Rattle.std.specs.Prelude.{◌≡◌, refl, false, List, ℕ, ◌+◌, ◌-◌, ◌<◌, length, drop, get_or}
use Rattle.std.proofs.Common.{ap, ◌∙◌, arith, lt-ltb, le-ltb, length-drop}
use Rattle.common.specs.Tools.{lt_or, if_elim}
use Rattle.items.specs.declared.Kind.{Kind}
use Rattle.items.specs.declared.Kind.TheVariants.{Event, Register, Name, Given, Wanted, NoteList}
use Rattle.items.specs.declared.Kind.TheVariants.{SharedList, Pages, Zeros, Line, Scan, Stop}
use Rattle.items.specs.declared.Kind.TheVariants.{Unknown}
use Rattle.items.specs.declared.Item.{Item}
use Rattle.items.specs.declared.Sheet.{Sheet}
use Rattle.items.specs.Kind.{kind_of, stops}
use Rattle.items.specs.Item.{item_at}
use Rattle.items.specs.Sheet.{answered_for, answered, dealt_item, dealt_sheet, items_left}

-- an item takes its eight bytes
items_less : (bytes : List ℕ) (t : Item) → stops t.kind ≡ false
    → items_left bytes (item_at bytes t.behind) < items_left bytes t
unfolding items_left item_at
items_less bytes t h =
    let at = t.behind in
    let left = drop at bytes in
    let long = length-drop at bytes in
    let kind = kind_of (get_or left 0 0) in
    rw h
    (lt_or (length left) 8 (λ f. rw (lt-ltb (length left) 8 f) (omega arith))
    (λ f. rw (le-ltb (length left) 8 f)
    (if_elim (λ (x : ℕ). x < length bytes - at + 1) (stops kind) (omega arith) (omega (arith, f, long)))))

for_item : (kind : Kind) (s : Sheet) (number value told : ℕ)
    → (answered_for kind s number value told).item ≡ s.item
for_item (Event code) s number value told = refl
for_item Register s number value told = refl
for_item Name s number value told = refl
for_item Given s number value told = refl
for_item Wanted s number value told = refl
for_item NoteList s number value told = refl
for_item SharedList s number value told = refl
for_item Pages s number value told = refl
for_item Zeros s number value told = refl
for_item Line s number value told = refl
for_item Scan s number value told = refl
for_item Stop s number value told = refl
for_item Unknown s number value told = refl

answered_item : (s : Sheet) (number value told : ℕ)
    → (answered s number value told).item ≡ s.item
answered_item s number value told = for_item s.item.kind s number value told

dealt_item_lem : (s : Sheet) (bytes cells : List ℕ)
    → (dealt_sheet s bytes cells).item ≡ item_at bytes s.item.behind
unfolding dealt_sheet dealt_item
dealt_item_lem s bytes cells = refl

-- so too behind an item that was answered
pub dealt_less : (bytes cells : List ℕ) (s : Sheet) (number value told : ℕ)
    → stops s.item.kind ≡ false
    → items_left bytes (dealt_sheet (answered s number value told) bytes cells).item
    < items_left bytes s.item
dealt_less bytes cells s number value told h =
    let item = dealt_item_lem (answered s number value told) bytes cells
    ∙ ap (λ (t : Item). item_at bytes t.behind) (answered_item s number value told) in
    rw item (items_less bytes s.item h)
