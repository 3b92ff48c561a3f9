-- What a receiver tells, whatever its queue: no more ends are read or wait than waited before and
-- are handed over. A queue that overflows loses entries and makes none. Assumes nothing.
use Rattle.std.specs.Prelude.{Option, Some, None, option_to_list, ◌≡◌, refl, Bool, false, List, [], ◌∷◌}
use Rattle.std.specs.Prelude.{◌++◌, ℕ, zero, suc, ◌+◌, ◌-◌, ◌≤◌, eqb, ltb, take, set, get_or}
use Rattle.std.proofs.Common.{sym, ap, ◌∙◌, subst, arith, ne_eqb}
use Rattle.std.proofs.Math.Dec.{eqb-suc-zero}
use Rattle.common.specs.Tools.{by_test}
use Rattle.line.specs.Bits.{one_if}
use Rattle.entry.specs.declared.Entry.{Entry}
use Rattle.entry.specs.Entry.{no_entry, overran}
use Rattle.queue.specs.declared.Queue.{Queue}
use Rattle.queue.specs.Queue.{room, newest, queue, moved_up, pushed, taken, oldest, waits}
use Rattle.queue.specs.Holding.{entry_if}
use Rattle.sdlc.specs.Hearing.{hear_sdlc}
use Rattle.channel.specs.Events.{queued}
use Rattle.chip.specs.declared.Chip.{Chip}
use Rattle.chip.specs.Event.{Event}
use Rattle.whole.specs.Heard.{handed, hear_all, end_marks}
use Rattle.whole.specs.Laws.Deaf.{end_marks_join}
use Rattle.stories.specs.Story.{Which, chan, happens, after}
use Rattle.stories.specs.Received.{ToReceiver, Hears, Reads, Else, to_receiver, bit_in, bits_of}
use Rattle.stories.specs.Received.{taking, took_of}
use Rattle.history.specs.Receiving.Side.{Side, side_of}
use Rattle.history.specs.Receiving.Events.{heard_side, read_side, Follows, Hearing, follows}
use Rattle.history.specs.Receiving.Stories.{over, hears, reads, still}
use Rattle.aborts.specs.Statement.{waiting_in, Attends, ends_told}

-- The queue

abbrev marks : Queue → ℕ
marks q = end_marks (waiting_in q)

set_marks : (n i : ℕ) (es : List Entry) (e : Entry)
    → end_marks (take n (set es i e)) ≤ end_marks (take n es) + one_if e.ends
set_marks zero i es e = omega arith
set_marks (suc n) i [] e = omega arith
set_marks (suc n) zero (x ∷ es) e = omega arith
set_marks (suc n) (suc i) (x ∷ es) e = omega (arith, set_marks n i es e)

put_marks : (n : ℕ) (es : List Entry) (e : Entry)
    → end_marks (take (suc n) (set es n e)) ≤ end_marks (take n es) + one_if e.ends
put_marks n [] e = omega arith
put_marks zero (x ∷ es) e = omega arith
put_marks (suc n) (x ∷ es) e = omega (arith, put_marks n es e)

push_marks : (q : Queue) (e : Entry) → marks (pushed q e) ≤ marks q + one_if e.ends
unfolding pushed
push_marks q e =
    by_test (λ (x : Queue). marks x ≤ marks q + one_if e.ends) (eqb q.count 0)
    (λ t. omega (arith, put_marks 0 q.entries e))
    (λ t. by_test (λ (x : Queue). marks x ≤ marks q + one_if e.ends) (ltb q.count room)
    (λ l. let n : q.count + 1 ≡ suc q.count = omega arith in
    rw n (put_marks q.count q.entries e))
    (λ l. set_marks q.count newest q.entries (overran e)))

queued_marks : (q : Queue) (x : Option Entry)
    → marks (queued q x) ≤ marks q + end_marks (option_to_list x)
queued_marks q (Some x) = omega (arith, push_marks q x)
queued_marks q None = omega arith

take_none : (n : ℕ) → take {A = Entry} n [] ≡ []
take_none zero = refl
take_none (suc n) = refl

-- the oldest, and those moved up
moved_marks : (n : ℕ) (es : List Entry)
    → one_if (get_or es 0 no_entry).ends + end_marks (take (suc n) (moved_up es)) ≤ end_marks
    (take (suc (suc n)) es)
moved_marks zero [] = omega arith
moved_marks zero (a ∷ []) = omega arith
moved_marks zero (a ∷ b ∷ es) = omega arith
moved_marks (suc zero) [] = omega arith
moved_marks (suc zero) (a ∷ []) = omega arith
moved_marks (suc zero) (a ∷ b ∷ []) = omega arith
moved_marks (suc zero) (a ∷ b ∷ c ∷ es) = omega arith
moved_marks (suc (suc n)) [] = rw (take_none n) (omega arith)
moved_marks (suc (suc n)) (a ∷ []) = rw (take_none n) (omega arith)
moved_marks (suc (suc n)) (a ∷ b ∷ []) = rw (take_none n) (omega arith)
moved_marks (suc (suc n)) (a ∷ b ∷ c ∷ es) = rw (take_none n) (omega arith)

abbrev Taken : Queue → Type 0
Taken q = end_marks (entry_if (waits q) (oldest q)) + marks (taken q) ≤ marks q

taken_marks : (es : List Entry) (n : ℕ) (p o : Bool) → Taken (queue es n p o)
unfolding taken oldest
taken_marks es zero p o = omega arith
taken_marks [] (suc zero) p o = omega arith
taken_marks (a ∷ es) (suc zero) p o = omega arith
taken_marks es (suc (suc n)) p o =
    let z = eqb-suc-zero (suc n) in
    let y : eqb (suc (suc n)) 1 ≡ false = ne_eqb (suc (suc n)) 1 (λ e. omega arith) in
    let m : suc (suc n) - 1 ≡ suc n = omega arith in
    rw (z, y, m) (omega (arith, moved_marks n es))

take_marks : (q : Queue) → Taken q
take_marks q = taken_marks q.entries q.count q.parity q.overrun

-- The receiving side

abbrev bound : Side → List Bool → ℕ
bound x bits =
    marks x.queue + end_marks (hear_all x.settings.addressing x.listener bits).got

hear_bound : (x : Side) (b : Bool) (bits : List Bool)
    → bound (heard_side b x) bits ≤ bound x (b ∷ bits)
unfolding hear_all
hear_bound x b bits =
    let h = hear_sdlc x.settings.addressing x.listener b in
    omega (
      arith,
      queued_marks x.queue h.entry,
      end_marks_join (handed h) (hear_all x.settings.addressing h.listener bits).got,
    )

read_bound : (x : Side) (bits : List Bool)
    → end_marks (entry_if (waits x.queue) (oldest x.queue)) + bound
    (read_side x) bits ≤ bound x bits
read_bound x bits = omega (arith, take_marks x.queue)

-- The story

took_more : (u : Which) (r : Chip) (x : Event) (st : List Event)
    → end_marks (took_of u r (x ∷ st))
    ≡ end_marks (entry_if (taking u r (to_receiver u x)) (oldest (chan u r).queue)) + end_marks
    (took_of u (happens r x).chip st)
unfolding took_of
took_more u r x st =
    end_marks_join (entry_if (taking u r (to_receiver u x)) (oldest (chan u r).queue))
    (took_of u (happens r x).chip st)

pub told_few : (u : Which) {r : Chip} {rs : List Event} → Attends u r rs
    → Hearing (side_of u r).settings
    → ends_told u r rs ≤ bound (side_of u r) (bits_of u rs)
unfolding after bits_of
told_few u {r} over h = unfold took_of hear_all in (omega arith)
told_few u (hears {c = r} {e = x} {st = st} {b = b} p m a) h =
    let d = (happens r x).chip in
    let f : side_of u d ≡ heard_side b (side_of u r) = subst (Follows u r d) p (follows u r x h) in
    let i = told_few u a (subst Hearing (sym (ap (λ (y : Side). y.settings) f)) h) in
    let q : bound (side_of u d) (bits_of u st) ≡ bound (heard_side b (side_of u r)) (bits_of u st) =
    ap (λ (y : Side). bound y (bits_of u st)) f in
    let m : end_marks (entry_if (taking u r (to_receiver u x)) (oldest (chan u r).queue)) ≡ 0 =
    ap (λ (y : ToReceiver). end_marks (entry_if (taking u r y) (oldest (chan u r).queue))) p in
    let s : bound (side_of u r) (bit_in (to_receiver u x) ++ bits_of u st)
    ≡ bound (side_of u r) (b ∷ bits_of u st) =
    ap (λ (y : ToReceiver). bound (side_of u r) (bit_in y ++ bits_of u st)) p in
    omega (arith, i, q, m, s, took_more u r x st, hear_bound (side_of u r) b (bits_of u st))
told_few u (reads {c = r} {e = x} {st = st} p a) h =
    let d = (happens r x).chip in
    let f : side_of u d ≡ read_side (side_of u r) = subst (Follows u r d) p (follows u r x h) in
    let i = told_few u a (subst Hearing (sym (ap (λ (y : Side). y.settings) f)) h) in
    let q : bound (side_of u d) (bits_of u st) ≡ bound (read_side (side_of u r)) (bits_of u st) =
    ap (λ (y : Side). bound y (bits_of u st)) f in
    let m : end_marks (entry_if (taking u r (to_receiver u x)) (oldest (chan u r).queue))
    ≡ end_marks (entry_if (waits (chan u r).queue) (oldest (chan u r).queue)) =
    ap (λ (y : ToReceiver). end_marks (entry_if (taking u r y) (oldest (chan u r).queue))) p in
    let s : bound (side_of u r) (bit_in (to_receiver u x) ++ bits_of u st)
    ≡ bound (side_of u r) (bits_of u st) =
    ap (λ (y : ToReceiver). bound (side_of u r) (bit_in y ++ bits_of u st)) p in
    omega (arith, i, q, m, s, took_more u r x st, read_bound (side_of u r) (bits_of u st))
told_few u (still {c = r} {e = x} {st = st} p k a) h =
    let d = (happens r x).chip in
    let i = told_few u a (subst Hearing (sym (ap (λ (y : Side). y.settings) k)) h) in
    let q : bound (side_of u d) (bits_of u st) ≡ bound (side_of u r) (bits_of u st) =
    ap (λ (y : Side). bound y (bits_of u st)) k in
    let m : end_marks (entry_if (taking u r (to_receiver u x)) (oldest (chan u r).queue)) ≡ 0 =
    ap (λ (y : ToReceiver). end_marks (entry_if (taking u r y) (oldest (chan u r).queue))) p in
    let s : bound (side_of u r) (bit_in (to_receiver u x) ++ bits_of u st)
    ≡ bound (side_of u r) (bits_of u st) =
    ap (λ (y : ToReceiver). bound (side_of u r) (bit_in y ++ bits_of u st)) p in
    omega (arith, i, q, m, s, took_more u r x st)

-- where a story leaves what the receiver is
pub record Behind (u : Which) (r : Chip) (qs : List Event) : Type 0 where
  pub listener : (side_of u (after r qs)).listener
      ≡ (hear_all (side_of u r).settings.addressing (side_of u r).listener (bits_of u qs)).listener
  pub settings : (side_of u (after r qs)).settings ≡ (side_of u r).settings

-- one event more, of this role, which leaves the side so
behind_more : (u : Which) (r : Chip) (x : Event) (qs : List Event) (y : Side) (t : ToReceiver)
    → side_of u (happens r x).chip ≡ y → to_receiver u x ≡ t
    → y.settings ≡ (side_of u r).settings
    → (hear_all y.settings.addressing y.listener (bits_of u qs)).listener
    ≡ (hear_all (side_of u r).settings.addressing (side_of u r).listener (bit_in t ++ bits_of u qs)
    ).listener
    → Behind u (happens r x).chip qs → Behind u r (x ∷ qs)
unfolding after bits_of
behind_more u r x qs y t f p s e i = record {
  listener =
      i.listener
      ∙ ap (λ (z : Side). (hear_all z.settings.addressing z.listener (bits_of u qs)).listener) f
      ∙ e
      ∙ ap (λ (z : ToReceiver). (hear_all (side_of u r).settings.addressing (side_of u r).listener
      (bit_in z ++ bits_of u qs)).listener) (sym p);
  settings = i.settings ∙ ap (λ (z : Side). z.settings) f ∙ s;
}

pub attends_front : (u : Which) {r : Chip} (qs : List Event) {rs : List Event}
    → Attends u r (qs ++ rs) → Hearing (side_of u r).settings
    → Behind u r qs × Attends u (after r qs) rs
unfolding after bits_of hear_all
attends_front u [] a h = (record { listener = refl; settings = refl }, a)
attends_front u {r} (x ∷ qs) (hears {b = b} p m a) h =
    let d = (happens r x).chip in
    let y = heard_side b (side_of u r) in
    let f : side_of u d ≡ y = subst (Follows u r d) p (follows u r x h) in
    let i = attends_front u {r = (happens r x).chip} qs a (subst Hearing (sym (ap (λ (z : Side). z.settings) f)) h) in
    (behind_more u r x qs y (Hears b) f p refl refl i.0, i.1)
attends_front u {r} (x ∷ qs) (reads p a) h =
    let d = (happens r x).chip in
    let y = read_side (side_of u r) in
    let f : side_of u d ≡ y = subst (Follows u r d) p (follows u r x h) in
    let i = attends_front u {r = (happens r x).chip} qs a (subst Hearing (sym (ap (λ (z : Side). z.settings) f)) h) in
    (behind_more u r x qs y Reads f p refl refl i.0, i.1)
attends_front u {r} (x ∷ qs) (still p k a) h =
    let i = attends_front u {r = (happens r x).chip} qs a (subst Hearing (sym (ap (λ (z : Side). z.settings) k)) h) in
    (behind_more u r x qs (side_of u r) Else k p refl refl i.0, i.1)
