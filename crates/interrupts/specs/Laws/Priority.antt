-- The highest of the six sources is one of them, if there is one, and none stands above it; so an
-- acknowledge may take a source exactly when a pending one lies above all those in service.
-- Assumes nothing.
use Rattle.std.specs.Prelude.{◌≡◌, refl, Bool, true, false, not, ◌&&◌, ◌||◌, ◌≤◌, T, leb, Option, None, Some, MatchOption}
use Rattle.std.proofs.Common.{arith, leb→le, ltb-true, lt-ltb}
use Rattle.common.specs.Tools.{void, and_left, and_right, both_of, both_of→}
use Rattle.interrupts.specs.declared.Source.{Source}
use Rattle.interrupts.specs.declared.Source.TheVariants.{AReceive, ATransmit, AExternal}
use Rattle.interrupts.specs.declared.Source.TheVariants.{BReceive, BTransmit, BExternal}
use Rattle.interrupts.specs.declared.Six.{Six}
use Rattle.interrupts.specs.Interrupts.{sources, six, place, source_named, highest, lies_above, may_take}
use Rattle.interrupts.specs.Priority.{level, source_at, SourceAbove}

-- the number of a source's priority names it again, and that of none names none
pub level_named : (h : Option Source) → source_named (level h) ≡ h
unfolding source_named
level_named None = refl
level_named (Some AReceive) = refl
level_named (Some ATransmit) = refl
level_named (Some AExternal) = refl
level_named (Some BReceive) = refl
level_named (Some BTransmit) = refl
level_named (Some BExternal) = refl

-- What is to be seen of six sources, whichever of them are there

-- the highest, if there is one, is there
abbrev is_there : Six → Option Source → Bool
is_there x None = true
is_there x (Some s) = source_at x s

-- this one is not there, or the highest is it or lies above it
abbrev not_above : Six → Option Source → Source → Bool
not_above x None k = not (source_at x k)
not_above x (Some s) k = not (source_at x k) || leb (place s) (place k)

abbrev of_each : (Source → Bool) → Bool
of_each f =
    f AReceive && (f ATransmit && (f AExternal && (f BReceive && (f BTransmit && f BExternal))))

of_each→ : (f : Source → Bool) → T (of_each f) → (k : Source) → T (f k)
of_each→ f t AReceive = and_left (f AReceive) _ t
of_each→ f t ATransmit = and_left (f ATransmit) _ (and_right (f AReceive) _ t)
of_each→ f t AExternal =
    and_left (f AExternal) _ (and_right (f ATransmit) _ (and_right (f AReceive) _ t))
of_each→ f t BReceive =
    and_left (f BReceive) _
    (and_right (f AExternal) _ (and_right (f ATransmit) _ (and_right (f AReceive) _ t)))
of_each→ f t BTransmit =
    and_left (f BTransmit) _ (and_right (f BReceive) _
    (and_right (f AExternal) _ (and_right (f ATransmit) _ (and_right (f AReceive) _ t))))
of_each→ f t BExternal =
    and_right (f BTransmit) _ (and_right (f BReceive) _
    (and_right (f AExternal) _ (and_right (f ATransmit) _ (and_right (f AReceive) _ t))))

abbrev is_highest : Bool → Bool → Bool → Bool → Bool → Bool → Bool
is_highest p q r s t u =
    let x = six (sources p q r) (sources s t u) in
    is_there x (highest x) && of_each (not_above x (highest x))

abbrev every : (Bool → Bool → Bool → Bool → Bool → Bool → Bool) → Bool
every f =
    both_of (λ p. both_of (λ q. both_of (λ r.
    both_of (λ s. both_of (λ t. both_of (λ u. f p q r s t u))))))

every→ : (f : Bool → Bool → Bool → Bool → Bool → Bool → Bool) → T (every f)
    → (p q r s t u : Bool) → T (f p q r s t u)
every→ f h p q r s t u =
    both_of→ (λ u. f p q r s t u)
    (both_of→ (λ t. both_of (λ u. f p q r s t u))
    (both_of→ (λ s. both_of (λ t. both_of (λ u. f p q r s t u)))
    (both_of→ (λ r. both_of (λ s. both_of (λ t. both_of (λ u. f p q r s t u))))
    (both_of→ (λ q. both_of (λ r. both_of (λ s. both_of (λ t. both_of (λ u. f p q r s t u)))))
    (both_of→
    (λ p. both_of (λ q. both_of (λ r. both_of (λ s. both_of (λ t. both_of (λ u. f p q r s t u))))))
    h p) q) r) s) t) u

every_is_highest : T (every is_highest)
unfolding highest
every_is_highest = tt

holds : (b : Bool) → T b → b ≡ true
holds true t = refl
holds false t = absurd t

implied : (s t : Bool) → T (not s || t) → s ≡ true → T t
implied true t h e = h
implied false t h e = void e

-- The highest source

module _ (x : Six) where
  seen : T (is_highest x.a.receive x.a.transmit x.a.external
      x.b.receive x.b.transmit x.b.external)
  seen =
      every→ is_highest every_is_highest x.a.receive x.a.transmit x.a.external
      x.b.receive x.b.transmit x.b.external

  first : T (is_there x (highest x))
  first = and_left (is_there x (highest x)) _ seen

  rest : (k : Source) → T (not_above x (highest x) k)
  rest =
      of_each→ (not_above x (highest x)) (and_right (is_there x (highest x)) _ seen)

  -- it has one of the six places, or is none
  pub highest_most : level (highest x) ≤ 6
  highest_most = level_most (highest x)
    where
      level_most : (h : Option Source) → level h ≤ 6
      level_most None = omega arith
      level_most (Some AReceive) = omega arith
      level_most (Some ATransmit) = omega arith
      level_most (Some AExternal) = omega arith
      level_most (Some BReceive) = omega arith
      level_most (Some BTransmit) = omega arith
      level_most (Some BExternal) = omega arith

  pub highest_source : (s : Source) → highest x ≡ Some s → source_at x s ≡ true
  highest_source s e = holds (source_at x s) (rw e at first)

  -- where a source is there, so is the highest, which is this one or lies above it
  pub highest_least : (k : Source) → source_at x k ≡ true
      → MatchOption (highest x) ⊥ (λ s. place s ≤ place k)
  highest_least k e = least (highest x) (rest k)
    where
      least : (h : Option Source) → T (not_above x h k) → MatchOption h ⊥ (λ s. place s ≤ place k)
      least None t = rw e at t
      least (Some s) t = leb→le (place s) (place k) (implied (source_at x k) _ t e)

-- 4: "acknowledge with no pending source above all those in service"

pub taken_above : (pending service : Six) → may_take pending service ≡ true
    → SourceAbove pending service
unfolding may_take
taken_above p s e = above (highest p) (highest s) refl refl e
  where
    above : (w v : Option Source) → highest p ≡ w → highest s ≡ v → lies_above w v ≡ true
        → SourceAbove p s
    above None v i j e = void e
    above (Some w) None i j e = record {
      source = w;
      waits = highest_source p w i;
      above = λ k t. absurd (rw j at (highest_least s k t));
    }
    above (Some w) (Some v) i j e = record {
      source = w;
      waits = highest_source p w i;
      above = λ k t.
          let l = ltb-true (place w) (place v) e in
          let m : place v ≤ place k = rw j at (highest_least s k t) in
          omega arith;
    }

pub above_taken : (pending service : Six) → SourceAbove pending service
    → may_take pending service ≡ true
unfolding may_take
above_taken p s h = taken (highest p) (highest s) refl refl
  where
    taken : (w v : Option Source) → highest p ≡ w → highest s ≡ v → lies_above w v ≡ true
    taken None v i j = absurd (rw i at (highest_least p h.source h.waits))
    taken (Some w) None i j = refl
    taken (Some w) (Some v) i j =
        let l : place w ≤ place h.source = rw i at (highest_least p h.source h.waits) in
        let m = h.above v (highest_source s v j) in
        lt-ltb (place w) (place v) (omega arith)
