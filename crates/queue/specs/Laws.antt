-- Laws of the queue: what a history keeps, and which entries a queue holds. Assumes nothing.
use Rattle.std.specs.Prelude.{◌≡◌, refl, Bool, true, List, [], ◌∷◌, ◌++◌, ℕ, eqb, ltb, length}
use Rattle.std.proofs.Common.{arith, length-set, ltb-true}
use Rattle.common.specs.Tools.{by_test, if_elim, void}
use Rattle.entry.specs.declared.Entry.{Entry}
use Rattle.entry.specs.Entry.{rr1_of}
use Rattle.queue.specs.Queue.{Queue, queue, empty, room, pushed, taken, oldest, waits}
use Rattle.queue.specs.Queue.{error_reset, rr1}
use Rattle.queue.specs.Holding.{SoundQueue, Plain, plain, Holds, h0, h1, h2, h3, entry_if}

-- What a history keeps

pub empty_sound : SoundQueue empty
empty_sound = record { whole = refl; within = omega arith }

pub push_sound : (q : Queue) (e : Entry) → SoundQueue q → SoundQueue (pushed q e)
unfolding pushed
push_sound q e s =
    by_test SoundQueue (eqb q.count 0)
    (λ t. record { whole = simp length-set s.whole; within = omega arith })
    (λ t. by_test SoundQueue (ltb q.count room)
    (λ l.
    let more = ltb-true q.count room l in
    record { whole = simp length-set s.whole; within = omega arith })
    (λ l. record { whole = simp length-set s.whole; within = s.within }))

pub take_sound : (q : Queue) → SoundQueue q → SoundQueue (taken q)
unfolding taken
take_sound q s =
    if_elim SoundQueue (eqb q.count 0) s
    (if_elim SoundQueue (eqb q.count 1)
    (record { whole = refl; within = omega arith })
    (record { whole = refl; within = omega (arith, s.within) }))

pub error_reset_sound : (q : Queue) → SoundQueue q → SoundQueue (error_reset q)
error_reset_sound q s = record { whole = s.whole; within = s.within }

-- Which entries a queue holds

pub push_holds : {p o : Bool} {q : Queue} {es : List Entry} {e : Entry} → Holds p o q es
    → ltb q.count room ≡ true → Plain e → Holds p o (pushed q e) (es ++ (e ∷ []))
unfolding pushed
push_holds h0 l plain = h1 plain
push_holds (h1 a) l e = h2 a e
push_holds (h2 a b) l e = h3 a b e
push_holds (h3 a b c) l e = void l

pub take_holds : {p o : Bool} {q : Queue} {e : Entry} {es : List Entry} → Holds p o q (e ∷ es)
    → Holds p o (taken q) es
unfolding taken
take_holds (h1 a) = h0
take_holds (h2 a plain) = h1 plain
take_holds (h3 a plain c) = h2 plain c

pub oldest_holds : {p o : Bool} {q : Queue} {e : Entry} {es : List Entry} → Holds p o q (e ∷ es)
    → oldest q ≡ e
unfolding oldest
oldest_holds (h1 a) = refl
oldest_holds (h2 a b) = refl
oldest_holds (h3 a b c) = refl

-- a data read takes the oldest, if there is one
pub record Took (p o : Bool) (q : Queue) (es : List Entry) : Type 0 where
  pub rest : List Entry
  pub holds : Holds p o (taken q) rest
  pub split : es ≡ entry_if (waits q) (oldest q) ++ rest

pub read_holds : {p o : Bool} {q : Queue} {es : List Entry} → Holds p o q es → Took p o q es
unfolding taken oldest
read_holds h0 = record { rest = []; holds = h0; split = refl }
read_holds (h1 a) = record { rest = []; holds = take_holds (h1 a); split = refl }
read_holds (h2 {b = b} a k) =
    record { rest = b ∷ []; holds = take_holds (h2 a k); split = refl }
read_holds (h3 {b = b} {c = c} a k l) =
    record { rest = b ∷ c ∷ []; holds = take_holds (h3 a k l); split = refl }

-- nothing waits in a sound queue whose count is 0
pub three_empty : (es : List Entry) (n : ℕ) (p o : Bool) → length es ≡ room → n ≡ 0
    → Holds p o (queue es n p o) []
three_empty [] n p o l e = absurd (omega arith)
three_empty (a ∷ []) n p o l e = absurd (omega arith)
three_empty (a ∷ b ∷ []) n p o l e = absurd (omega arith)
three_empty (a ∷ b ∷ c ∷ []) n p o l e = rw e h0
three_empty (a ∷ b ∷ c ∷ d ∷ es) n p o l e = absurd (omega arith)

-- the latches are as they were, and RR1 shows the oldest
pub latches_holds : {p o : Bool} {q : Queue} {es : List Entry} → Holds p o q es
    → (q.parity ≡ p) × (q.overrun ≡ o)
latches_holds h0 = (refl, refl)
latches_holds (h1 a) = (refl, refl)
latches_holds (h2 a b) = (refl, refl)
latches_holds (h3 a b c) = (refl, refl)

pub rr1_holds : {p o : Bool} {q : Queue} {e : Entry} {es : List Entry} (sent : Bool)
    → Holds p o q (e ∷ es) → rr1 q sent ≡ rr1_of e sent p o
unfolding rr1 oldest
rr1_holds sent (h1 a) = refl
rr1_holds sent (h2 a b) = refl
rr1_holds sent (h3 a b c) = refl

pub none_waits_lem : {X : Type 0} {p o : Bool} {q : Queue} → Holds p o q [] → waits q ≡ true → X
none_waits_lem h0 e = void e
