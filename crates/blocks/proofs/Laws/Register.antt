-- The receive check at every moment: from its preset on, over exactly the characters for which WR3
-- D3 was set when the next one was complete. Assumes nothing.
use Rattle.std.specs.Prelude.{Option, Some, None, option_map, option_to_list, ◌≡◌, Bool, List, [], ◌∷◌, ◌++◌, ℕ, ◌+◌, ltb, if◌then◌else◌}
use Rattle.std.proofs.Math.Path.{refl, ap}
use Rattle.std.proofs.Common.{sym, ◌∙◌}
use Rattle.std.proofs.Math.Bool.{true, false}
use Rattle.common.specs.Tools.{if_elim}
use Rattle.line.specs.Bits.{low_bits, text_bits}
use Rattle.line.specs.Check.{check_over}
use Rattle.line.specs.Laws.Check.{check_join}
use Rattle.bytesync.specs.declared.Matching.{Matching}
use Rattle.bytesync.specs.declared.Block.{Block}
use Rattle.bytesync.specs.declared.Reception.{Reception}
use Rattle.bytesync.specs.declared.Matched.{Matched}
use Rattle.bytesync.specs.Hearing.{reception, searching, unmatched, shift_in, last_eight, counted}
use Rattle.bytesync.specs.Hearing.{check_behind, sync_seen, hunting, entering, arrived, last_bit, assembling}
use Rattle.bytesync.specs.Hearing.{hear_block}
use Rattle.shared.specs.Preset.{zeros}
use Rattle.blocks.specs.Check.{check_from}
use Rattle.blocks.specs.Register.{Doing, Hears, Searches, State, state, does}
use Rattle.blocks.specs.Register.{state_behind, Tale}
use Rattle.blocks.specs.Register.{Complete, Hunt, Within, told, tales, Entrant, entrant}
use Rattle.blocks.specs.Register.{entrants_of, check_through, all_over}

-- in hunt nothing waits, whatever the receiver holds: what follows says so
abbrev pub Steady : Reception → List Tale → Type 0
Steady r ts =
    r.hunt ≡ true → (h : Option ℕ) → entrants_of h ts ≡ entrants_of None ts

-- what enters from here on, if anything does, goes into what the tick has left
abbrev pub Goes : ℕ → Block → Matched → Tale → Type 0
Goes c d m t =
    (ts : List Tale) → Steady m.reception ts → let e = m.reception.block in
    check_through m.check (entrants_of e.held ts)
    ≡ check_through c (entrants_of d.held (t ∷ ts))

-- the tick's three ways: in hunt, within a character, a whole one
ways : (c : ℕ) (d : Block) (h n : Bool) (x y z : Matched) (t : Tale) → Goes c d x Hunt
    → Goes c d y Within → Goes c d z t
    → Goes c d (if h then x else (if n then y else z))
    (if h then Hunt else (if n then Within else t))
ways c d true n x y z t p q r = p
ways c d false true x y z t p q r = q
ways c d false false x y z t p q r = r

let_in_lem : (p c : ℕ) (h : Option ℕ) (b : Bool) (es : List Entrant)
    → check_through (if b then check_behind p c h else c) es
    ≡ check_through c ((if b then option_to_list (option_map (entrant p) h) else []) ++ es)
unfolding check_through
let_in_lem p c None true es = refl
let_in_lem p c (Some v) true es = refl
let_in_lem p c h false es = refl

module _ (g : Matching) (r : Reception) (c : ℕ) (b : Bool) where
  abbrev d : Block
  d = r.block

  in_hunt : Goes c d (hunting g r c b) Hunt
  unfolding hunting entrants_of
  in_hunt =
      let s = shift_in b r.bits in
      let n = counted r.count in
      if_elim (λ (m : Matched). Goes c d m Hunt) (sync_seen g.syncs n s) (λ ts k. refl)
      (λ ts k. ap (check_through c) (k refl d.held))

  within : Goes c d (unmatched (reception false (shift_in b r.bits) (r.count + 1) d) c) Within
  unfolding entrants_of
  within = λ ts k. refl

  whole : Goes c d (arrived g d c (last_eight (shift_in b r.bits)))
      (Complete (last_eight (shift_in b r.bits)) g.checking g.polynomial)
  unfolding arrived entering entrants_of
  whole =
      λ ts k.
      let_in_lem g.polynomial c d.held g.checking
      (entrants_of (Some (last_eight (shift_in b r.bits))) ts)

  pub ticked : Goes c d (hear_block g r c b) (told r (Hears g b))
  unfolding hear_block assembling
  ticked =
      let s = shift_in b r.bits in
      ways c d r.hunt (ltb r.count last_bit) (hunting g r c b)
      (unmatched (reception false s (r.count + 1) d) c) (arrived g d c (last_eight s))
      (Complete (last_eight s) g.checking g.polynomial) in_hunt within whole

hunt_none : (s : State) (xs : List Doing) → Steady s.reception (tales s xs)
unfolding tales entrants_of
hunt_none s [] e h = refl
hunt_none s (Hears g b ∷ xs) e h = rw e
hunt_none s (Searches ∷ xs) e h = refl

-- behind any ticks, each with its own settings, and any number of searches begun again
pub register_is : (s : State) (xs : List Doing)
    → (state_behind s xs).check
    ≡ check_through s.check
    (entrants_of s.reception.block.held (tales s xs))
unfolding state_behind
register_is s [] = unfold tales entrants_of check_through in refl
register_is s (Hears g b ∷ xs) =
    register_is (does s (Hears g b)) xs
    ∙ (unfold tales in (ticked g s.reception s.check b (tales (does s (Hears g b)) xs)
    (hunt_none (does s (Hears g b)) xs)))
register_is s (Searches ∷ xs) =
    register_is (does s Searches) xs ∙ (unfold tales entrants_of in refl)

pub through_one : (p c : ℕ) (vs : List ℕ) → check_through c (all_over p vs) ≡ check_from p c vs
unfolding check_through all_over text_bits
through_one p c [] = unfold check_over in refl
through_one p c (v ∷ vs) =
    through_one p (check_over p c (low_bits 8 v)) vs
    ∙ sym (check_join p c (low_bits 8 v) (text_bits 8 vs))

-- over one polynomial, from a preset in hunt: the check of what entered
pub register_since_preset : (p : ℕ) (vs : List ℕ) (xs : List Doing)
    → entrants_of None (tales (state (searching true) zeros) xs) ≡ all_over p vs
    → (state_behind (state (searching true) zeros) xs).check ≡ check_from p zeros vs
register_since_preset p vs xs e =
    register_is (state (searching true) zeros) xs ∙ ap (check_through zeros) e
    ∙ through_one p zeros vs
