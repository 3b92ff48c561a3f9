-- Rounds of a run: one more where an item is left, and none behind the last. Assumes nothing.
use mathlib.Core.Path.{◌≡◌, refl, sym}
use mathlib.Core.Bool.{true, false}
use mathlib.Core.List.{List}
use Prim.Native.Nat.{ℕ, zero, suc, ◌<◌, ◌≤◌}
use native.Mathlib.Omega.{arith}
use Rattle.common.specs.Tools.{bool_or, by_test}
use Rattle.items.specs.declared.Item.{Item}
use Rattle.items.specs.Kind.{stops}
use Rattle.items.specs.Sheet.{items_left}
use Rattle.items.specs.Laws.{dealt_less}
use Rattle.playing.specs.Playing.{Play, round, rounds, all_rounds}

-- behind the last item nothing is played
pub rounds_none : (n : ℕ) (input : List ℕ) (p : Play) → stops p.sheet.item.kind ≡ true
    → rounds n input p ≡ p
unfolding rounds
rounds_none zero input p h = refl
rounds_none (suc n) input p h = rw h

-- a round leaves fewer items
round_less : (input : List ℕ) (p : Play) → stops p.sheet.item.kind ≡ false
    → items_left input (round input p).sheet.item < items_left input p.sheet.item
unfolding round
round_less input p h = dealt_less input p.desk p.sheet _ _ _ h

left_none : (input : List ℕ) (t : Item) → items_left input t ≤ 0 → stops t.kind ≡ true
unfolding items_left
left_none input t =
    by_test (λ (n : ℕ). n ≤ 0 → stops t.kind ≡ true) (stops t.kind) (λ e h. e)
    (λ e h. absurd (omega arith))

-- more rounds than there can be are none more
rounds_enough : (n m : ℕ) (input : List ℕ) (p : Play) → items_left input p.sheet.item ≤ n
    → items_left input p.sheet.item ≤ m → rounds n input p ≡ rounds m input p
unfolding rounds
rounds_enough zero m input p h k =
    sym (rounds_none m input p (left_none input p.sheet.item h))
rounds_enough (suc n) zero input p h k =
    rounds_none (suc n) input p (left_none input p.sheet.item k)
rounds_enough (suc n) (suc m) input p h k =
    bool_or (stops p.sheet.item.kind) (λ e. rw e)
    (λ e. let less = round_less input p e in
    rw e (rounds_enough n m input (round input p) (omega arith) (omega arith)))

pub rounds_step : (input : List ℕ) (p : Play) → stops p.sheet.item.kind ≡ false
    → all_rounds input p ≡ all_rounds input (round input p)
unfolding rounds
rounds_step input p h = go (items_left input p.sheet.item) refl
  where
    go : (n : ℕ) → items_left input p.sheet.item ≡ n
        → rounds n input p ≡ all_rounds input (round input p)
    go zero e = absurd (let less = round_less input p h in omega arith)
    go (suc n) e =
        let less = round_less input p h in
        rw h
        (rounds_enough n (items_left input (round input p).sheet.item) input (round input p)
        (omega arith) (omega arith))
