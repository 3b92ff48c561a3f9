-- 01, Receiving: "a seventh one is an abort (outside hunt): .. the frame is dropped until a flag".
-- Seven ones leave the SDLC receiver deaf, a deaf one hands over nothing up to and including the
-- next flag, and an end mark comes at a flag alone: so no end is told of a frame that was aborted.
-- For any receiver, address search on or off. Assumes nothing.
use Rattle.std.specs.Prelude.{Option, Some, None, option_to_list, ◌≡◌, Bool, not, ◌&&◌, ◌||◌, eqb, ltb, replicate, if◌then◌else◌}
use Rattle.std.proofs.Math.Path.{refl, ap}
use Rattle.std.proofs.Common.{sym, ap₂, ◌∙◌}
use Rattle.std.proofs.Math.Bool.{true, false}
use mathlib.Core.List.{List, [], ◌∷◌, ◌++◌}
use Prim.Native.Nat.{ℕ, zero, suc, ◌+◌, ◌≤◌, ◌<◌}
use native.Mathlib.Omega.{arith}
use borrow.Author.Tests.{ne_eqb, lt-ltb, ltb-true, ltb-false}
use Rattle.common.specs.Tools.{ltb_elim, by_test, if_elim, void, both_left, both_right}
use Rattle.common.specs.Tools.{refused_test}
use Rattle.line.specs.Insertion.{zero_if, stuff}
use Rattle.entry.specs.declared.Entry.{Entry}
use Rattle.sdlc.specs.declared.Addressing.{Addressing}
use Rattle.sdlc.specs.declared.Chars.{Chars}
use Rattle.sdlc.specs.declared.Listener.{Listener}
use Rattle.sdlc.specs.declared.Listened.{Listened}
use Rattle.sdlc.specs.Hearing.{full_delay, ones_counted, last_bit, spilled, oldest_bit, wrong, accept}
use Rattle.sdlc.specs.Hearing.{unmarked, push, deaf, closing, one, zero_bit, hear_sdlc}
use Rattle.sdlc.specs.Within.{ones_after}
use Rattle.whole.specs.Heard.{handed, Final, hear_all, flag_ends, ones_over, flag_free}
use Rattle.whole.specs.Heard.{aborted_line}
use Rattle.whole.specs.Heard.{lead, end_marks}
use Rattle.whole.specs.Laws.Heard.{hear_join}

pub end_marks_join : (xs ys : List Entry) → end_marks (xs ++ ys) ≡ end_marks xs + end_marks ys
end_marks_join [] ys = omega arith
end_marks_join (x ∷ xs) ys = omega (arith, end_marks_join xs ys)

-- One tick

abbrev NoEnd : Listened → Type 0
NoEnd h = end_marks (handed h) ≡ 0

abbrev Nothing : Listened → Type 0
Nothing h = handed h ≡ []

abbrev Deaf : Listener → Type 0
Deaf s = deaf s.content ≡ true

abbrev Counts : ℕ → Listened → Type 0
Counts o h = h.listener.content.ones ≡ o

unmarked_no_end : (h : Option ℕ) → end_marks (option_to_list (unmarked h)) ≡ 0
unmarked_no_end None = refl
unmarked_no_end (Some v) = refl

never_deaf : {X : Type 0} (a b : Bool) → a || b ≡ true → a ≡ false → b ≡ false → X
never_deaf a b d p q = void (sym q ∙ sym (ap (λ (t : Bool). t || b) p) ∙ d)

counted_few : (o : ℕ) → o < 6 → o + 1 ≡ ones_counted o
counted_few o l = rw (lt-ltb o 7 (omega arith))

counted_many : (o : ℕ) → 6 ≤ o → 7 ≡ ones_counted o
counted_many o l = ltb_elim (λ t. 7 ≡ (if t then o + 1 else 7)) o 7 (λ m. omega arith) (λ m. refl)

counted_on : (o k : ℕ) → 6 ≤ o + suc k → 6 ≤ ones_counted o + k
counted_on o k l =
    ltb_elim (λ t. 6 ≤ (if t then o + 1 else 7) + k) o 7 (λ m. omega arith) (λ m. omega arith)

module _ (g : Addressing) (c : Chars) (k : ℕ) where
  accept_no_end : (o : ℕ) (x : Bool) (d : ℕ) (b : Bool) → NoEnd (accept g c k o x d b)
  unfolding accept
  accept_no_end o x d b =
      if_elim NoEnd (ltb c.count last_bit) refl
      (if_elim NoEnd (wrong g c.held _) refl (unmarked_no_end c.held))

  accept_counts : (o : ℕ) (x : Bool) (d : ℕ) (b : Bool) → Counts o (accept g c k o x d b)
  unfolding accept
  accept_counts o x d b =
      if_elim (Counts o) (ltb c.count last_bit) refl
      (if_elim (Counts o) (wrong g c.held _) refl refl)

module _ (g : Addressing) (s : Listener) where
  push_no_end : (o : ℕ) (x b : Bool) → NoEnd (push g s o x b)
  unfolding push
  push_no_end o x b =
      let d = s.content.delay in
      if_elim NoEnd (ltb d full_delay) refl
      (accept_no_end g s.content.chars s.check o x (spilled d b) (oldest_bit d))

  one_no_end : NoEnd (one g s)
  unfolding one
  one_no_end =
      let c = s.content in
      if_elim NoEnd c.hunt refl
      (if_elim NoEnd (ltb c.ones 6)
      (if_elim NoEnd c.skip refl (push_no_end (c.ones + 1) s.broken true)) refl)

  zero_no_end : not (eqb s.content.ones 6) ≡ true → NoEnd (zero_bit g s)
  unfolding zero_bit
  zero_no_end n =
      let c = s.content in
      by_test NoEnd (eqb c.ones 6) (λ t. refused_test n t)
      (λ t. if_elim NoEnd (deaf c) refl
      (if_elim NoEnd (eqb c.ones 5) refl (push_no_end 0 false false)))

  push_counts : (o : ℕ) (x b : Bool) → Counts o (push g s o x b)
  unfolding push
  push_counts o x b =
      let d = s.content.delay in
      if_elim (Counts o) (ltb d full_delay) refl
      (accept_counts g s.content.chars s.check o x (spilled d b) (oldest_bit d))

  one_counts : Counts (ones_counted s.content.ones) (one g s)
  unfolding one
  one_counts =
      let c = s.content in
      let P = Counts (ones_counted c.ones) in
      if_elim P c.hunt refl
      (by_test P (ltb c.ones 6)
      (λ t. let e = counted_few c.ones (ltb-true c.ones 6 t) in
      if_elim P c.skip e (push_counts (c.ones + 1) s.broken true ∙ e))
      (λ t. counted_many c.ones (ltb-false c.ones 6 t)))

  zero_counts : Counts 0 (zero_bit g s)
  unfolding zero_bit
  zero_counts =
      let c = s.content in
      if_elim (Counts 0) (eqb c.ones 6) refl
      (if_elim (Counts 0) (deaf c) refl
      (if_elim (Counts 0) (eqb c.ones 5) refl (push_counts 0 false false)))

  -- deaf: nothing is handed over, at a flag neither
  one_deaf : Deaf s → Nothing (one g s)
  unfolding one
  one_deaf d =
      let c = s.content in
      by_test Nothing c.hunt (λ t. refl)
      (λ t. if_elim Nothing (ltb c.ones 6)
      (by_test Nothing c.skip (λ u. refl) (λ u. never_deaf c.hunt c.skip d t u)) refl)

  zero_deaf : Deaf s → Nothing (zero_bit g s)
  unfolding zero_bit
  zero_deaf d =
      let c = s.content in
      if_elim Nothing (eqb c.ones 6)
      (ap (λ (t : Bool). option_to_list (if t then None else closing c.chars s.check)) d)
      (by_test Nothing (deaf c) (λ t. refl) (λ t. void (sym t ∙ d)))

  -- and only a flag ends it
  one_stays : Deaf s → Deaf (one g s).listener
  unfolding one
  one_stays d =
      let c = s.content in
      let P : Listened → Type 0 = λ h. Deaf h.listener in
      by_test P c.hunt (λ t. d)
      (λ t. if_elim P (ltb c.ones 6)
      (by_test P c.skip (λ u. d) (λ u. never_deaf c.hunt c.skip d t u)) refl)

  zero_stays : Deaf s → not (eqb s.content.ones 6) ≡ true → Deaf (zero_bit g s).listener
  unfolding zero_bit
  zero_stays d n =
      let c = s.content in
      let P : Listened → Type 0 = λ h. Deaf h.listener in
      by_test P (eqb c.ones 6) (λ t. refused_test n t)
      (λ t. by_test P (deaf c) (λ u. d) (λ u. void (sym u ∙ d)))

  -- a seventh one: whoever listened does not any more
  one_deafens : 6 ≤ s.content.ones → Deaf (one g s).listener
  unfolding one
  one_deafens l =
      let c = s.content in
      let P : Listened → Type 0 = λ h. Deaf h.listener in
      by_test P c.hunt (λ t. ap (λ (q : Bool). q || c.skip) t)
      (λ u. by_test P (ltb c.ones 6)
      (λ t. absurd (let m = ltb-true c.ones 6 t in omega arith)) (λ t. refl))

-- A stream

module _ (g : Addressing) where
  -- an end mark is handed over at a flag alone
  pub hear_no_end : (s : Listener) (b : Bool) → not (flag_ends s.content.ones b) ≡ true
      → NoEnd (hear_sdlc g s b)
  unfolding hear_sdlc
  hear_no_end s true f = one_no_end g s
  hear_no_end s false f = zero_no_end g s f

  hear_counts : (s : Listener) (b : Bool) → Counts (ones_after s.content.ones b) (hear_sdlc g s b)
  unfolding hear_sdlc
  hear_counts s true = one_counts g s
  hear_counts s false = zero_counts g s

  pub deaf_silent : (s : Listener) (b : Bool) → Deaf s → handed (hear_sdlc g s b) ≡ []
  unfolding hear_sdlc
  deaf_silent s true d = one_deaf g s d
  deaf_silent s false d = zero_deaf g s d

  pub deaf_stays : (s : Listener) (b : Bool) → Deaf s → not (flag_ends s.content.ones b) ≡ true
      → Deaf (hear_sdlc g s b).listener
  unfolding hear_sdlc
  deaf_stays s true d f = one_stays g s d
  deaf_stays s false d f = zero_stays g s d f

  -- the ones are counted whatever the receiver makes of them
  pub ones_counted_lem : (s : Listener) (bs : List Bool)
      → (hear_all g s bs).listener.content.ones ≡ ones_over s.content.ones bs
  unfolding hear_all ones_over
  ones_counted_lem s [] = refl
  ones_counted_lem s (b ∷ bs) =
      ones_counted_lem (hear_sdlc g s b).listener bs ∙ ap (λ (n : ℕ). ones_over n bs) (hear_counts s b)

  free_on : (s : Listener) (b : Bool) (bs : List Bool) → flag_free s.content.ones (b ∷ bs) ≡ true
      → flag_free (hear_sdlc g s b).listener.content.ones bs ≡ true
  unfolding flag_free
  free_on s b bs f =
      let o = s.content.ones in
      ap (λ (n : ℕ). flag_free n bs) (hear_counts s b)
      ∙ both_right (not (flag_ends o b)) (flag_free (ones_after o b) bs) f

  free_here : (s : Listener) (b : Bool) (bs : List Bool)
      → flag_free s.content.ones (b ∷ bs) ≡ true
      → not (flag_ends s.content.ones b) ≡ true
  unfolding flag_free
  free_here s b bs f =
      let o = s.content.ones in both_left (not (flag_ends o b)) (flag_free (ones_after o b) bs) f

  -- a line without a flag brings no end mark
  pub free_no_end : (s : Listener) (bs : List Bool) → flag_free s.content.ones bs ≡ true
      → end_marks (hear_all g s bs).got ≡ 0
  unfolding hear_all
  free_no_end s [] f = refl
  free_no_end s (b ∷ bs) f =
      let h = hear_sdlc g s b in
      let t = h.listener in
      omega (
        arith,
        end_marks_join (handed h) (hear_all g t bs).got,
        hear_no_end s b (free_here s b bs f),
        free_no_end t bs (free_on s b bs f),
      )

  -- a deaf receiver brings none up to the next flag, nor with the bit that completes it
  pub deaf_no_end : (s : Listener) (zs : List Bool) (b : Bool) → Deaf s
      → flag_free s.content.ones zs ≡ true → end_marks (hear_all g s (zs ++ (b ∷ []))).got ≡ 0
  unfolding hear_all
  deaf_no_end s [] b d f = ap (λ (l : List Entry). end_marks (l ++ [])) (deaf_silent s b d)
  deaf_no_end s (z ∷ zs) b d f =
      let n = free_here s z zs f in
      let h = hear_sdlc g s z in
      let t = h.listener in
      omega (
        arith,
        end_marks_join (handed h) (hear_all g t (zs ++ (b ∷ []))).got,
        hear_no_end s z n,
        deaf_no_end t zs b (deaf_stays s z d n) (free_on s z zs f),
      )

  -- ones enough leave any receiver deaf: seven from wherever it stands
  pub ones_deafen : (k : ℕ) (s : Listener) → 6 ≤ s.content.ones + k
      → Deaf (hear_all g s (replicate (suc k) true)).listener
  unfolding hear_all hear_sdlc
  ones_deafen zero s l = one_deafens g s (omega arith)
  ones_deafen (suc k) s l =
      ones_deafen k (hear_sdlc g s true).listener
      (omega (arith, hear_counts s true, counted_on s.content.ones k l))

  pub seven_deafen : (n : ℕ) (s : Listener) → 7 ≤ n
      → Deaf (hear_all g s (replicate n true)).listener
  seven_deafen zero s l = absurd (omega arith)
  seven_deafen (suc n) s l = ones_deafen n s (omega arith)

-- ones hold no flag, and seven of them count as seven

ones_free : (o n : ℕ) → flag_free o (replicate n true) ≡ true
unfolding flag_free
ones_free o zero = refl
ones_free o (suc n) = ones_free (ones_counted o) n

ones_seven : (n o : ℕ) → 6 ≤ o + n → ones_over o (replicate (suc n) true) ≡ 7
unfolding ones_over
ones_seven zero o l = sym (counted_many o (omega arith))
ones_seven (suc n) o l = ones_seven n (ones_counted o) (counted_on o n l)

seven_counted : (n o : ℕ) → 7 ≤ n → ones_over o (replicate n true) ≡ 7
seven_counted zero o l = absurd (omega arith)
seven_counted (suc n) o l = ones_seven n o (omega arith)

-- THE ABORT, heard

pub abort_no_end : (g : Addressing) (s : Listener) (xs : List Bool) (n : ℕ) (zs : List Bool)
    (b : Bool)
    → 7 ≤ n → flag_free s.content.ones xs ≡ true → flag_free 7 zs ≡ true
    → end_marks (hear_all g s (aborted_line xs n zs b)).got ≡ 0
abort_no_end g s xs n zs b k f h =
    let t = (hear_all g s xs).listener in
    let u = (hear_all g t (replicate n true)).listener in
    let v = zs ++ (b ∷ []) in
    let i : u.content.ones ≡ 7 =
    ones_counted_lem g t (replicate n true) ∙ seven_counted n t.content.ones k in
    let j = ap (λ (y : Final). end_marks y.got) (hear_join g s xs (replicate n true ++ v)) in
    let p = ap (λ (y : Final). end_marks y.got) (hear_join g t (replicate n true) v) in
    omega (
      arith,
      j,
      p,
      end_marks_join (hear_all g s xs).got (hear_all g t (replicate n true ++ v)).got,
      end_marks_join (hear_all g t (replicate n true)).got (hear_all g u v).got,
      free_no_end g s xs f,
      free_no_end g t (replicate n true) (ones_free t.content.ones n),
      deaf_no_end g u zs b (seven_deafen g n t k) (ap (λ (y : ℕ). flag_free y zs) i ∙ h),
    )

-- Which lines hold no flag: content with its inserted zeros and a flag but for its last bit, and
-- every beginning of one without

stuff_free : (r : ℕ) (bs rest : List Bool) → r < 5 → ((q : ℕ) → q < 5 → flag_free q rest ≡ true)
    → flag_free r (stuff r bs ++ rest) ≡ true
unfolding flag_free stuff
stuff_free r [] rest h f = f r h
stuff_free r (false ∷ bs) rest h f =
    rw (ne_eqb r 6 (λ e. omega arith)) (stuff_free 0 bs rest (omega arith) f)
stuff_free r (true ∷ bs) rest h f =
    ltb_elim (λ t. flag_free (if t then r + 1 else 7)
    ((zero_if (not (ltb r 4)) ++ stuff (if ltb r 4 then r + 1 else 0) bs) ++ rest) ≡ true) r 7
    (λ l. ltb_elim
    (λ t. flag_free (r + 1) ((zero_if (not t) ++ stuff (if t then r + 1 else 0) bs) ++ rest)
    ≡ true) r 4
    (λ m. stuff_free (r + 1) bs rest (omega arith) f)
    (λ m. rw (ne_eqb (r + 1) 6 (λ e. omega arith)) (stuff_free 0 bs rest (omega arith) f)))
    (λ l. absurd (omega arith))

lead_free : (q : ℕ) → q < 5 → flag_free q lead ≡ true
unfolding flag_free
lead_free q h = rw (ne_eqb q 6 (λ e. omega arith))

pub content_free : (bs : List Bool) → flag_free 0 (stuff 0 bs ++ lead) ≡ true
content_free bs = stuff_free 0 bs lead (omega arith) lead_free

pub free_front : (o : ℕ) (xs ys : List Bool) → flag_free o (xs ++ ys) ≡ true → flag_free o xs ≡ true
unfolding flag_free
free_front o [] ys f = refl
free_front o (x ∷ xs) ys f =
    let a = not (flag_ends o x) in
    let r = flag_free (ones_after o x) (xs ++ ys) in
    ap₂ (λ (p q : Bool). p && q) (both_left a r f)
    (free_front (ones_after o x) xs ys (both_right a r f))
