-- A turn is so many ticks of a fed sender: inside a byte the buffer waits for nothing.
-- Assumes nothing.
use Rattle.std.specs.Prelude.{◌≡◌, Bool, not, ◌&&◌, List, [], ◌∷◌, ltb, eqb, drop, get_or, if◌then◌else◌}
use Rattle.std.proofs.Math.Path.{refl, ap, subst}
use Rattle.std.proofs.Common.{sym, ◌∙◌, add-one, length-drop, drop-cons, lt-ltb, le-ltb}
use Rattle.std.proofs.Math.Bool.{true, false}
use Prim.Native.Nat.{ℕ, zero, suc, ◌+◌, ◌-◌, ◌*◌, ◌≤◌, ◌<◌}
use native.Mathlib.Omega.{arith}
use Rattle.std.proofs.Math.Dec.{eqb-suc-zero}
use Rattle.std.proofs.Math.ListN.{length}
use Rattle.common.specs.Tools.{if_elim, by_test, lt_or, void, and_false}
use Rattle.line.specs.Bits.{one_if}
use Rattle.line.specs.declared.Insertion.{Insertion}
use Rattle.shared.specs.declared.Shared.{Shared}
use Rattle.sdlc.specs.declared.LineUnit.{LineUnit}
use Rattle.sdlc.specs.declared.Framer.{Framer}
use Rattle.sdlc.specs.declared.Framed.{Framed}
use Rattle.sdlc.specs.Sending.{insertion, framer, byte_on, tick_sdlc}
use Rattle.sdlc.specs.Within.{byte_left, byte_rest, within, tick_within}
use Rattle.sdlc.specs.Laws.Within.{in_byte_lem, sdlc_within}
use Rattle.whole.specs.Come.{good, to_come, filled_with}
use Rattle.whole.specs.Stage.{Stage}
use Rattle.whole.specs.Start.{frame_ended}
use Rattle.whole.specs.Laws.Start.{ended_none, unended_some}
use Rattle.feed.specs.declared.Bits.{Bits}
use Rattle.feed.specs.declared.Run.{Run}
use Rattle.feed.specs.declared.Place.{Place}
use Rattle.feed.specs.Feeding.{takes_byte, Supplied, supplied, supply, after_ticks, ran}
use Rattle.feed.specs.Turns.{place, supply_at, bits, bits_on, bits_through, bits_of, carrying}
use Rattle.feed.specs.Turns.{through, turn}
use Rattle.feed.specs.Laws.Feeding.{if_true, if_false, Timely, supplies, ticks_on}
use Rattle.line.specs.Laws.Bits.{bit_few}

-- The loop over the bits of a byte

bits_next : (n : ℕ) (x : Bits) → bits_through (suc n) x ≡ bits_through n (bits_on x)
unfolding bits_through
bits_next n x = refl

pub bits_step : (x : Bits) → 0 < x.left
    → bits_through x.left x ≡ bits_through (bits_on x).left (bits_on x)
bits_step x = step x.left
  where
    step : (n : ℕ) → 0 < n → bits_through n x ≡ bits_through (n - 1) (bits_on x)
    step zero h = absurd (omega arith)
    step (suc n) h =
        let p : n ≡ suc n - 1 = omega arith in
        bits_next n x ∙ ap (λ (k : ℕ). bits_through k (bits_on x)) p

pub bits_none : (x : Bits) → x.left ≤ 0 → bits_through x.left x ≡ x
bits_none x = none x.left
  where
    none : (n : ℕ) → n ≤ 0 → bits_through n x ≡ x
    none zero h = unfold bits_through in refl
    none (suc n) h = absurd (omega arith)

-- a bit takes two ticks at most
pub bits_few : (x : Bits) → 0 < x.left
    → (bits_on x).ticks + 2 * (bits_on x).left ≤ x.ticks + 2 * x.left
bits_few x h = omega (arith, h, bit_few x.insertion.owed)

-- The byte at a place

drop_none : (xs : List ℕ) (i : ℕ) → length xs ≤ i → drop i xs ≡ []
drop_none xs i h = none (drop i xs) (omega (arith, length-drop i xs))
  where
    none : (ys : List ℕ) → length ys ≡ 0 → ys ≡ []
    none [] e = refl
    none (y ∷ ys) e = absurd (omega arith)

supply_none : (s : Framer) → supply s [] ≡ supplied s []
unfolding supply
supply_none s = refl

supply_some : (s : Framer) (v : ℕ) (rest : List ℕ)
    → supply s (v ∷ rest)
    ≡ (if takes_byte s then supplied (filled_with s v) rest else supplied s (v ∷ rest))
unfolding supply
supply_some s v rest = refl

-- what is left of the list from there on
abbrev there : List ℕ → Place → Supplied
there rest p = supplied p.framer (drop p.at rest)

supply_at_lem : (s : Framer) (rest : List ℕ) (i : ℕ)
    → supply s (drop i rest) ≡ there rest (supply_at s rest i)
unfolding supply_at
supply_at_lem s rest i =
    let v = get_or rest i 0 in
    let b = takes_byte s in
    let here = place s i in
    let more = place (filled_with s v) (i + 1) in
    let written = supplied (filled_with s v) (drop (i + 1) rest) in
    lt_or i (length rest)
    (λ l.
    let d : drop i rest ≡ v ∷ drop (i + 1) rest = rw add-one (drop-cons rest i 0 l) in
    let inside = if_true (if b then more else here) here (lt-ltb i (length rest) l) in
    ap (supply s) d ∙ supply_some s v (drop (i + 1) rest)
    ∙ ap (λ (x : List ℕ). if b then written else supplied s x) (sym d)
    ∙ either b more here ∙ ap (there rest) (sym inside))
    (λ l.
    let d = drop_none rest i l in
    ap (supply s) d ∙ supply_none s ∙ ap (supplied s) (sym d)
    ∙ ap (there rest) (sym (if_false _ _ (le-ltb i (length rest) l))))
  where
    either : (b : Bool) (p q : Place)
        → (if b then there rest p else there rest q) ≡ there rest (if b then p else q)
    either true p q = refl
    either false p q = refl

-- the buffer takes one byte at a time: no byte is to be written now
abbrev Waits : List ℕ → Framer → ℕ → Type 0
Waits rest s i = (ltb i (length rest) && takes_byte s) ≡ false

neither : (a b : Bool) (x y : Place) → (a && b) ≡ false
    → (if a then (if b then x else y) else y) ≡ y
neither true true x y e = void (sym e)
neither true false x y e = refl
neither false b x y e = refl

not_supplied : (rest : List ℕ) (s : Framer) (i : ℕ) → Waits rest s i → supply_at s rest i ≡ place s i
unfolding supply_at
not_supplied rest s i e = neither (ltb i (length rest)) (takes_byte s) _ (place s i) e

once_supplied : (rest : List ℕ) (s : Framer) (i : ℕ)
    → Waits rest (supply_at s rest i).framer (supply_at s rest i).at
unfolding supply_at
once_supplied rest s i =
    let P : Place → Type 0 = λ p. Waits rest p.framer p.at in
    let a = ltb i (length rest) in
    by_test P a
    (λ l. by_test P (takes_byte s) (λ b. and_false (ltb (i + 1) (length rest)))
    (λ b. ap (λ (x : Bool). a && x) b ∙ and_false a))
    (λ l. ap (λ (x : Bool). x && takes_byte s) l)

after_supplied : (n : ℕ) (s : Framer) (rest : List ℕ) (x : Supplied) → 1 ≤ n
    → supply s rest ≡ x → supply x.framer x.rest ≡ x
    → after_ticks n x.framer x.rest ≡ after_ticks n s rest
unfolding after_ticks
after_supplied zero s rest x l e f = absurd (omega arith)
after_supplied (suc n) s rest x l e f =
    ap (λ (y : Supplied). after_ticks n (tick_sdlc good y.framer).framer y.rest) (f ∙ sym e)

-- Inside a byte

unended : (u : LineUnit) (i : Insertion) (k : Shared) → within (framer u i k) ≡ true
    → frame_ended (framer u i k) ≡ false
unended u i k e = in_byte_lem (λ x. frame_ended (framer x i k) ≡ false) u i k e (λ n v. refl)

byte_unit : (u : LineUnit) (i : Insertion) (k : Shared) → within (framer u i k) ≡ true
    → framer u i k ≡ carrying k (bits_of (framer u i k))
byte_unit u i k e =
    in_byte_lem (λ x. framer x i k ≡ carrying k (bits_of (framer x i k))) u i k e (λ n v. refl)

byte_some : (u : LineUnit) (i : Insertion) (k : Shared) → within (framer u i k) ≡ true
    → 1 ≤ byte_left u
byte_some u i k e = in_byte_lem (λ x. 1 ≤ byte_left x) u i k e (λ n v. omega arith)

takes_kept : (s : Framer) → within s ≡ true → takes_byte (tick_within s).framer ≡ takes_byte s
unfolding tick_within
takes_kept s w =
    let i = s.insertion in
    let k = s.shared in
    if_elim (λ (t : Framed). takes_byte t.framer ≡ takes_byte s) i.owed refl
    (in_byte_lem
    (λ x. takes_byte (byte_on (byte_left x) (byte_rest x) i.run k).framer ≡ takes_byte (framer x i k))
    s.unit i k w (λ n v. refl))

some_left : (n : ℕ) → 0 < n → not (eqb n 0) ≡ true
some_left zero h = absurd (omega arith)
some_left (suc n) h = rw (eqb-suc-zero n)

-- the rest of a byte has a tick at least
bits_some : (n : ℕ) (x : Bits) → x.ticks + n ≤ (bits_through n x).ticks
unfolding bits_through
bits_some zero x = omega arith
bits_some (suc n) x = omega (arith, bits_some n (bits_on x))

through_some : (s : Framer) → within s ≡ true → 1 ≤ (through s).ticks
unfolding through
through_some s w =
    omega (
      arith,
      byte_some s.unit s.insertion s.shared w,
      bits_some (byte_left s.unit) (bits_of s),
    )

-- Ticks have gone

-- n of them: what is to come is the rest of the frame's, and leads where the whole leads
pub record Going (total : ℕ) (last : Framer) (rest : List ℕ) (s : Framer) (i n : ℕ) : Type 0 where
  pub since : ℕ
  pub stage : Stage false s since (drop i rest)
  pub count : n + length (to_come s (drop i rest)) ≡ total
  pub same : after_ticks (length (to_come s (drop i rest))) s (drop i rest) ≡ last

pub start : (s : Framer) (rest : List ℕ) → Stage false s 7 rest
    → let n = length (to_come s rest) in Going n (after_ticks n s rest) rest s 0 0
start s rest g = record { since = 7; stage = g; count = omega arith; same = refl }

module _ (total : ℕ) (last : Framer) (rest : List ℕ) where
  abbrev Goes : Framer → ℕ → ℕ → Type 0
  Goes s i n = Going total last rest s i n

  -- the loop's end, and what it needs besides: a tick is left
  pub gone : (s : Framer) (i n : ℕ) → Goes s i n → frame_ended s ≡ true → ran n s ≡ ran total last
  unfolding after_ticks
  gone s i n g f =
      let none = ended_none g.stage f in
      let count : n ≡ total = omega (arith, none, g.count) in
      let same : s ≡ last = ap (λ (k : ℕ). after_ticks k s (drop i rest)) (sym none) ∙ g.same in
      λ j. ran (count j) (same j)

  pub left_over : (s : Framer) (i n : ℕ) → Goes s i n → frame_ended s ≡ false → n < total
  left_over s i n g f = omega (arith, unended_some g.stage f, g.count)

  -- a look at the buffer and one tick
  abbrev next : Supplied → Framer
  next x = (tick_sdlc good x.framer).framer

  tick_goes : (s : Framer) (i n : ℕ) → Goes s i n → frame_ended s ≡ false
      → let p = supply_at s rest i in Goes (tick_sdlc good p.framer).framer p.at (n + 1)
  unfolding after_ticks
  tick_goes s i n g f =
      let x = there rest (supply_at s rest i) in
      let t = ticks_on (drop i rest) g.stage (unended_some g.stage f) in
      let e = supply_at_lem s rest i in
      let left = length (to_come (next x) x.rest) in
      let come : length (to_come s (drop i rest)) ≡ suc left =
      ap length t.come ∙ ap (λ (y : Supplied). suc (length (to_come (next y) y.rest))) e in
      record {
        since = t.since;
        stage = subst (λ (y : Supplied). Stage false (next y) t.since y.rest) e t.stage;
        count = omega (arith, g.count, come);
        same =
            ap (λ (y : Supplied). after_ticks left (next y) y.rest) (sym e)
            ∙ ap (λ (k : ℕ). after_ticks k s (drop i rest)) (sym come) ∙ g.same;
      }

  -- a look at the buffer alone
  supply_goes : (s : Framer) (i n : ℕ) → Goes s i n → frame_ended s ≡ false
      → let p = supply_at s rest i in Goes p.framer p.at n
  supply_goes s i n g f =
      let p = supply_at s rest i in
      let x = there rest p in
      let e = supply_at_lem s rest i in
      let bits = to_come s (drop i rest) in
      let again : supply x.framer x.rest ≡ x =
      supply_at_lem p.framer rest p.at
      ∙ ap (there rest) (not_supplied rest p.framer p.at (once_supplied rest s i)) in
      let t =
      subst (λ (y : Supplied). Timely y g.since bits) e (supplies (drop i rest) g.stage) in
      record {
        since = g.since;
        stage = t.stage;
        count = omega (arith, g.count, ap length t.come);
        same =
            ap (λ (bs : List Bool). after_ticks (length bs) x.framer x.rest) t.come
            ∙ after_supplied (length bits) s (drop i rest) x (unended_some g.stage f) e again
            ∙ g.same;
      }

  module _ (i : ℕ) where
    abbrev Inside : Framer → ℕ → Type 0
    Inside s n = Goes s i n × Waits rest s i

    inside_tick : (s : Framer) (n : ℕ) → within s ≡ true → Inside s n
        → Inside (tick_within s).framer (n + 1)
    inside_tick s n w h =
        let one = tick_goes s i n h.0 (unended s.unit s.insertion s.shared w) in
        let here =
        subst (λ (p : Place). Goes (tick_sdlc good p.framer).framer p.at (n + 1))
        (not_supplied rest s i h.1) one in (
          subst (λ (t : Framed). Goes t.framer i (n + 1)) (sdlc_within good s w) here,
          ap (λ (b : Bool). ltb i (length rest) && b) (takes_kept s w) ∙ h.1,
        )

    module _ (k : Shared) where
      -- an owed zero and a bit are one tick or two
      inside_bit : (o : Bool) (t n v r m : ℕ) → not (eqb n 0) ≡ true
          → let x = bits t n v (insertion r o) in
          Inside (carrying k x) m → Inside (carrying k (bits_on x)) (m + one_if o + 1)
      unfolding tick_within
      inside_bit true t n v r m w h =
          let owing = carrying k (bits t n v (insertion r true)) in
          let paid = carrying k (bits t n v (insertion r false)) in
          inside_tick paid (m + 1) w (inside_tick owing m w h)
      inside_bit false t n v r m w h =
          let x = bits t n v (insertion r false) in
          let e : m + 1 ≡ m + one_if false + 1 = omega arith in
          subst (Inside (carrying k (bits_on x))) e (inside_tick (carrying k x) m w h)

      inside_bits : (n m : ℕ) (x : Bits) → x.left ≡ n → Inside (carrying k x) (m + x.ticks)
          → Inside (carrying k (bits_through n x)) (m + (bits_through n x).ticks)
      unfolding bits_through
      inside_bits zero m x l h = h
      inside_bits (suc n) m x l h =
          let i = x.insertion in
          let w = some_left x.left (omega (arith, l)) in
          let e : m + x.ticks + one_if i.owed + 1 ≡ m + (bits_on x).ticks = omega arith in
          inside_bits n m (bits_on x) (omega (arith, l))
          (subst (Inside (carrying k (bits_on x))) e
          (inside_bit i.owed x.ticks x.left x.rest i.run (m + x.ticks) w h))

    through_goes : (s : Framer) (n : ℕ) → within s ≡ true → Inside s n
        → Goes (through s).framer i (n + (through s).ticks)
    unfolding through
    through_goes s n w h =
        let x = bits_of s in
        let e : n ≡ n + x.ticks = omega arith in
        let byte = byte_unit s.unit s.insertion s.shared w in
        (inside_bits s.shared (byte_left s.unit) n x refl
        (subst (Inside (carrying s.shared x)) e (subst (λ (y : Framer). Inside y n) byte h))).0

  -- A look at the buffer and a turn

  abbrev Turned : ℕ → Place → Run → Type 0
  Turned n p t = (1 ≤ t.ticks) × Goes t.framer p.at (n + t.ticks)

  turn_goes : (s : Framer) (i n : ℕ) → Goes s i n → frame_ended s ≡ false
      → let p = supply_at s rest i in Turned n p (turn p.framer)
  unfolding turn
  turn_goes s i n g f =
      let p = supply_at s rest i in
      by_test (Turned n p) (within p.framer)
      (λ w. (
        through_some p.framer w,
        through_goes p.at p.framer n w (supply_goes s i n g f, once_supplied rest s i),
      ))
      (λ w. (omega arith, tick_goes s i n g f))

  -- the same, from what they are known to have given
  pub turns : (s : Framer) (i n : ℕ) (p : Place) (t : Run) → Goes s i n → frame_ended s ≡ false
      → p ≡ supply_at s rest i → t ≡ turn p.framer → Turned n p t
  turns s i n p t g f ep et =
      subst (Turned n p) (sym et)
      (subst (λ (q : Place). Turned n q (turn q.framer)) (sym ep) (turn_goes s i n g f))
