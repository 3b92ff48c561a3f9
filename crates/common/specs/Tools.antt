-- Tools for proofs: to go by a test, to go by whichever way a choice went, what a test says that
-- came out true, a test over every number below a bound, and a list of length 0. Assumes nothing.
use Rattle.std.specs.Prelude.{◌≡◌, refl, ◌≢◌, Bool, true, false, not, ◌&&◌, List, [], ◌∷◌, ℕ, zero, suc, ◌≤◌, ◌<◌, T, eqb, ltb, length, if◌then◌else◌}
use Rattle.std.proofs.Common.{sym, ap, ◌∙◌, arith, eqb-true, ltb-true, ltb-false, le-leb, le-ltb, lt-ltb, eq-eqb, ne_eqb}
use Rattle.std.specs.Bool.{beq}
use Rattle.std.proofs.lemmas.Bool.{eqb-false, lt-leb}
use Rattle.common.specs.Bit.{placed}

-- what a branch showed, as the value of the test that a definition makes
pub ruleset tests = (le-leb, lt-leb, le-ltb, lt-ltb, eq-eqb, ne_eqb)

-- by a test that stands in the goal: P is the goal with the test's place open
pub eqb_elim : (P : Bool → Type 0) (m n : ℕ) → (m ≡ n → P true) → (m ≢ n → P false) → P (eqb m n)
eqb_elim P m n f g = go (eqb m n) refl
  where
    go : (b : Bool) → eqb m n ≡ b → P b
    go true e = f (eqb-true m n e)
    go false e = g (eqb-false m n e)

pub ltb_elim : (P : Bool → Type 0) (m n : ℕ) → (m < n → P true) → (n ≤ m → P false) → P (ltb m n)
ltb_elim P m n f g = go (ltb m n) refl
  where
    go : (b : Bool) → ltb m n ≡ b → P b
    go true e = f (ltb-true m n e)
    go false e = g (ltb-false m n e)

-- the goal does not hold the test: two ways to the same thing
pub lt_or : {A : Type 0} (m n : ℕ) → (m < n → A) → (n ≤ m → A) → A
lt_or {A} m n f g = ltb_elim (λ b. A) m n f g

pub bool_or : {A : Type 0} (b : Bool) → (b ≡ true → A) → (b ≡ false → A) → A
bool_or true f g = f refl
bool_or false f g = g refl

-- whichever way a choice went
pub if_elim : {A : Type 0} (P : A → Type 0) (b : Bool) {x y : A} → P x → P y
    → P (if b then x else y)
if_elim P true p q = p
if_elim P false p q = q

-- the same, with what the test said
pub by_test : {A : Type 0} (P : A → Type 0) (b : Bool) {x y : A} → (b ≡ true → P x)
    → (b ≡ false → P y) → P (if b then x else y)
by_test P true f g = f refl
by_test P false f g = g refl

-- a number below two, by cases
pub two_cases : (P : ℕ → Type 0) → P 0 → P 1 → (n : ℕ) → n < 2 → P n
two_cases P p0 p1 zero h = p0
two_cases P p0 p1 (suc zero) h = p1
two_cases P p0 p1 (suc (suc n)) h = absurd (omega arith)

-- a false equation of tests gives anything
pub void : {X : Type 0} → false ≡ true → X
void e = absurd (let z : ◌≡◌ {A = ℕ} 0 1 = ap (λ b. placed b 1) e in omega arith)

-- a test that was refused and holds gives anything
pub refused_test : {X : Type 0} {b : Bool} → not b ≡ true → b ≡ true → X
refused_test n e = void (ap not (sym e) ∙ n)

pub and_false : (b : Bool) → b && false ≡ false
and_false true = refl
and_false false = refl

-- what a test says that came out true
pub both_left : (a b : Bool) → a && b ≡ true → a ≡ true
both_left true b e = refl
both_left false b e = void e

pub both_right : (a b : Bool) → a && b ≡ true → b ≡ true
both_right true b e = e
both_right false b e = void e

pub not_true : (b : Bool) → not b ≡ true → b ≡ false
not_true true e = void e
not_true false e = refl

-- the same of a test that is a type
pub and_left : (a b : Bool) → T (a && b) → T a
and_left true b t = tt
and_left false b t = t

pub and_right : (a b : Bool) → T (a && b) → T b
and_right true b t = t
and_right false b t = absurd t

-- a test over both Bools, and over every number below a bound, computed once
abbrev pub both_of : (Bool → Bool) → Bool
both_of f = f true && f false

pub both_of→ : (f : Bool → Bool) → T (both_of f) → (b : Bool) → T (f b)
both_of→ f t true = and_left (f true) (f false) t
both_of→ f t false = and_right (f true) (f false) t

abbrev pub below : (ℕ → Bool) → ℕ → Bool
below f zero = true
below f (suc n) = f n && below f n

pub below→ : (f : ℕ → Bool) (n : ℕ) → T (below f n) → (k : ℕ) → k < n → T (f k)
below→ f zero t k h = absurd (omega arith)
below→ f (suc n) t k h =
    lt_or k n (λ l. below→ f n (and_right (f n) (below f n) t) k l)
    (λ l. let q : n ≡ k = omega arith in rw q at (and_left (f n) (below f n) t))

pub beq→ : (a b : Bool) → T (beq a b) → a ≡ b
beq→ true true t = refl
beq→ true false t = absurd t
beq→ false true t = absurd t
beq→ false false t = refl

-- a list of length 0 is empty
pub no_items : {X : Type 0} (xs : List X) → length xs ≡ 0 → xs ≡ []
no_items [] e = refl
no_items (x ∷ xs) e = absurd (omega arith)
