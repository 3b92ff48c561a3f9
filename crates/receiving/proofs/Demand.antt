-- Demand 2, proved: at the end of a story, at every moment of it, for several notes, and RR1 as it
-- is read. Assumes nothing.
use Rattle.std.specs.Prelude.{◌≡◌, refl, Bool, true, false, not, ◌&&◌, ◌||◌, List, [], ◌∷◌, ◌++◌, ℕ, suc, ◌+◌, eqb, length, if◌then◌else◌}
use Rattle.std.proofs.Common.{sym, ap, ◌∙◌, subst, append_assoc, append-nil, arith, length-append, eq-eqb, ne_eqb}
use Rattle.common.specs.declared.Mode.{Mode}
use Rattle.common.specs.declared.Mode.TheVariants.{Sdlc}
use Rattle.common.specs.Mode.{in_blocks, synchronous}
use Rattle.shared.specs.Shared.{full}
use Rattle.entry.specs.declared.Entry.{Entry}
use Rattle.queue.specs.declared.Queue.{Queue}
use Rattle.entry.specs.Entry.{plain_entry, rr1_of}
use Rattle.queue.specs.Queue.{room, waits, rr1, rr1_told}
use Rattle.bytesync.specs.Hearing.{wrong}
use Rattle.queue.specs.Laws.{three_empty, latches_holds, rr1_holds, none_waits_lem}
use Rattle.queue.specs.Holding.{Holds, h0, h1, h2, h3}
use Rattle.asynchronous.specs.Sending.{under_way}
use Rattle.sdlc.specs.declared.Addressing.{Addressing}
use Rattle.sdlc.specs.declared.Listener.{Listener}
use Rattle.sdlc.specs.Hearing.{past_flag}
use Rattle.whole.specs.Heard.{Final, final, before, hear_all, past_flag_lem}
use Rattle.whole.specs.Frames.{ended, all_ended}
use Rattle.line.specs.Frame.{with_check}
use Rattle.whole.specs.Laws.Bytes.{with_check_length}
use Rattle.whole.specs.Laws.Frames.{unaddressed, frame_heard, notes_heard}
use Rattle.settings.specs.Settings.{sending_of, receiving_of}
use Rattle.channel.specs.declared.Channel.{Channel}
use Rattle.channel.specs.declared.Answer.TheVariants.{Gave}
use Rattle.channel.specs.Control.{rr1_now, read_register}
use Rattle.chip.specs.declared.Chip.{Chip}
use Rattle.chip.specs.Interrupts.{any_pending, rr2}
use Rattle.chip.specs.Chip.{control_read_call}
use Rattle.chip.specs.Event.{Event, ControlRead}
use Rattle.stories.specs.Story.{Which, A, B, number, chan, happens, after}
use Rattle.stories.specs.Received.{to_receiver, bit_in, bits_of, values_of, took_of, bytes_of}
use Rattle.stories.specs.Received.{good_end, no_end}
use Rattle.history.specs.Receiving.Side.{Heeded, Side, side_of}
use Rattle.history.specs.Receiving.Stories.{over, hears, reads, still}
use Rattle.receiving.specs.Statement.{Listening, Fed, Received}
use Rattle.receiving.specs.Statement.{Demand2, Moment, Always2, Mark2, Notes2}
use Rattle.history.specs.Receiving.Events.{Hearing, bytes_append, values_are}
use Rattle.receiving.specs.Conserved.{Conserved, conserved}

-- SDLC and on; address search off
hearing : (x : Side) → Listening x → Hearing x.settings
hearing x l = record { mode = l.mode; on = l.on }

abbrev pub address_of : Side → ℕ
address_of x = x.settings.addressing.address

addressing_is : (x : Side) → Listening x → unaddressed (address_of x) ≡ x.settings.addressing
addressing_is x l = λ i. record { search = sym l.search i; address = address_of x }

-- A story in which the receiver, as it is set, would hear these entries out of the story's bits and
-- the rest
module _ (w : Which) (c : Chip) (st : List Event) (rest : List Bool) (es : List Entry)
    (l : Listening (side_of w c)) (f : Fed w c st)
    (e : hear_all (unaddressed (address_of (side_of w c))) (side_of w c).listener (bits_of w st ++ rest)
    ≡ final past_flag es) where
  abbrev x : Side
  x = side_of w c

  abbrev g : Addressing
  g = x.settings.addressing

  kept : Conserved w c st x.listener x.settings [] x.queue.parity x.queue.overrun
  kept =
      let q = x.queue in
      conserved w f x.listener q x.settings [] (hearing x l) refl
      (three_empty q.entries q.count q.parity q.overrun l.three l.empty)

  whole : final past_flag es ≡ before (took_of w c st ++ kept.waiting) (hear_all g kept.last rest)
  whole =
      sym e
      ∙ ap (λ (a : Addressing). hear_all a x.listener (bits_of w st ++ rest)) (addressing_is x l)
      ∙ kept.whole rest

  held : Holds x.queue.parity x.queue.overrun (chan w (after c st)).queue kept.waiting
  held = rw (ap (λ (y : Side). y.queue) kept.there) kept.holds

  moment : Moment w c st es
  moment = record {
    waiting = kept.waiting;
    later = (hear_all g kept.last rest).got;
    holds = held;
    marks = sym (append_assoc (took_of w c st) kept.waiting (hear_all g kept.last rest).got)
        ∙ sym (ap (λ (y : Final). y.got) whole);
    stays = ap (λ (y : Side). y.settings) kept.there;
  }

pub received_all : (w : Which) (c : Chip) (st : List Event) (es : List Entry)
    → Listening (side_of w c)
    → Fed w c st
    → hear_all (unaddressed (address_of (side_of w c))) (side_of w c).listener (bits_of w st)
    ≡ final past_flag es
    → Received w c st (bytes_of es) es
unfolding hear_all
received_all w c st es l f h =
    let g = unaddressed (address_of (side_of w c)) in
    let e = ap (hear_all g (side_of w c).listener) (append-nil (bits_of w st)) ∙ h in
    let k = kept w c st [] es l f e in
    let all = whole w c st [] es l f e in
    let m : took_of w c st ++ k.waiting ≡ es =
    sym (append-nil (took_of w c st ++ k.waiting)) ∙ sym (ap (λ (y : Final). y.got) all) in
    record {
      waiting = k.waiting;
      holds = held w c st [] es l f e;
      values = ap (λ (y : List ℕ). y ++ bytes_of k.waiting) (sym (values_are w c st))
          ∙ sym (bytes_append (took_of w c st) k.waiting) ∙ ap bytes_of m;
      marks = m;
      ready = ap (λ (y : Side). y.listener) k.there ∙ sym (ap (λ (y : Final). y.listener) all);
      stays = ap (λ (y : Side). y.settings) k.there;
    }

ended_bytes : (bad : Bool) (vs : List ℕ) → bytes_of (ended bad vs) ≡ vs
unfolding bytes_of ended
ended_bytes bad [] = refl
ended_bytes bad (v ∷ []) = refl
ended_bytes bad (v ∷ x ∷ vs) = ap (λ (l : List ℕ). v ∷ l) (ended_bytes bad (x ∷ vs))

-- the same where the entries are those of some bytes
pub received_bytes : (w : Which) (c : Chip) (st : List Event) (bad : Bool) (bytes : List ℕ)
    → Listening (side_of w c) → Fed w c st
    → hear_all (unaddressed (address_of (side_of w c))) (side_of w c).listener (bits_of w st)
    ≡ final past_flag (ended bad bytes) → Received w c st bytes (ended bad bytes)
received_bytes w c st bad bytes l f h =
    subst (λ (vs : List ℕ). Received w c st vs (ended bad bytes)) (ended_bytes bad bytes)
    (received_all w c st (ended bad bytes) l f h)

-- DEMAND 2
pub demand2 : Demand2
demand2 w c st note l n b f e =
    let a = address_of (side_of w c) in
    let s = (side_of w c).listener in
    received_bytes w c st false (with_check note) l f
    (ap (hear_all (unaddressed a) s) e ∙ frame_heard a s note n l.start b)

-- once all is read the channel listens as it did: the next frame may follow
holds_three : {p o : Bool} {q : Queue} {es : List Entry} → Holds p o q es
    → length q.entries ≡ room
holds_three h0 = refl
holds_three (h1 a) = refl
holds_three (h2 a b) = refl
holds_three (h3 a b c) = refl

pub listens_again : (w : Which) (c : Chip) (st : List Event) (bytes : List ℕ) (es : List Entry)
    → Listening (side_of w c) → Received w c st bytes es
    → (chan w (after c st)).queue.count ≡ 0 → Listening (side_of w (after c st))
listens_again w c st bytes es l r n = record {
  mode = ap (λ (g : Heeded). g.mode) r.stays ∙ l.mode;
  on = ap (λ (g : Heeded). g.on) r.stays ∙ l.on;
  search = ap (λ (g : Heeded). g.addressing.search) r.stays ∙ l.search;
  empty = n;
  three = holds_three r.holds;
  start =
      past_flag_lem (ap (λ (s : Listener). s.content) r.ready)
      (ap (λ (s : Listener). s.check) r.ready);
}

-- several notes
pub notes2 : Notes2
notes2 w c st ns l n f e =
    let a = address_of (side_of w c) in
    let s = (side_of w c).listener in
    received_all w c st (all_ended ns) l f
    (ap (hear_all (unaddressed a) s) e ∙ notes_heard a s l.start n)

-- Every moment

fed_front : (w : Which) {c : Chip} (xs ys : List Event) → Fed w c (xs ++ ys) → Fed w c xs
fed_front w [] ys f = over
fed_front w {c = c} (x ∷ xs) ys (hears r k f) = hears r k (fed_front w {c = (happens c x).chip} xs ys f)
fed_front w {c = c} (x ∷ xs) ys (reads r f) = reads r (fed_front w {c = (happens c x).chip} xs ys f)
fed_front w {c = c} (x ∷ xs) ys (still r k f) =
    still r k (fed_front w {c = (happens c x).chip} xs ys f)

bits_join : (w : Which) (xs ys : List Event) → bits_of w (xs ++ ys) ≡ bits_of w xs ++ bits_of w ys
unfolding bits_of
bits_join w [] ys = refl
bits_join w (x ∷ xs) ys =
    ap (λ (l : List Bool). bit_in (to_receiver w x) ++ l) (bits_join w xs ys)
    ∙ sym (append_assoc (bit_in (to_receiver w x)) (bits_of w xs) (bits_of w ys))

pub always2 : Always2
always2 w c xs ys note l n b f e =
    let a = address_of (side_of w c) in
    let s = (side_of w c).listener in
    moment w c xs (bits_of w ys) (ended false (with_check note)) l (fed_front w xs ys f)
    (ap (hear_all (unaddressed a) s) (sym (bits_join w xs ys) ∙ e)
    ∙ frame_heard a s note n l.start b)

-- the overrun latch is as it was: no overrun was marked
pub overrun_kept : (w : Which) (c : Chip) (st : List Event) (es : List Entry) → Moment w c st es
    → (chan w (after c st)).queue.overrun ≡ (chan w c).queue.overrun
overrun_kept w c st es m = (latches_holds m.holds).1

-- RR1

-- the oldest entry's marks: the end mark exactly if nothing comes behind it
abbrev is_nil : List Entry → Bool
is_nil [] = true
is_nil (e ∷ es) = false

own : (x : Entry) (v : ℕ) (e b : Bool) → x ≡ plain_entry v e b → x ≡ plain_entry x.byte e b
own x v e b p = p ∙ ap (λ (n : ℕ). plain_entry n e b) (sym (ap (λ (y : Entry). y.byte) p))

mark_at : (took : List Entry) (x : Entry) (more : List Entry) (vs : List ℕ)
    → took ++ (x ∷ more) ≡ ended false vs → x ≡ plain_entry x.byte (is_nil more) false
unfolding ended
mark_at [] x more [] e = absurd (omega (arith, ap length e))
mark_at [] x [] (v ∷ []) e = own x v true false (cc)
mark_at [] x (y ∷ more) (v ∷ []) e = absurd (omega (arith, ap length e))
mark_at [] x [] (v ∷ u ∷ []) e = absurd (omega (arith, ap length e))
mark_at [] x [] (v ∷ u ∷ z ∷ vs) e = absurd (omega (arith, ap length e))
mark_at [] x (y ∷ more) (v ∷ u ∷ vs) e = own x v false false (cc)
mark_at (t ∷ took) x more [] e = absurd (omega (arith, ap length e))
mark_at (t ∷ took) x more (v ∷ []) e =
    absurd (omega (arith, ap length e, length-append took (x ∷ more)))
mark_at (t ∷ took) x more (v ∷ u ∷ vs) e = mark_at took x more (u ∷ vs) (cc)

ended_length : (bad : Bool) (vs : List ℕ) → length (ended bad vs) ≡ length vs
unfolding ended
ended_length bad [] = refl
ended_length bad (v ∷ []) = refl
ended_length bad (v ∷ x ∷ vs) = ap suc (ended_length bad (x ∷ vs))

bytes_length : (es : List Entry) → length (bytes_of es) ≡ length es
unfolding bytes_of
bytes_length [] = refl
bytes_length (e ∷ es) = ap suc (bytes_length es)

abbrev shown_at : ℕ → ℕ → ℕ
shown_at taken all = if eqb (taken + 1) all then good_end else no_end

rr1_shows : (w : Which) (c : Chip) (st : List Event) (vs : List ℕ) → (chan w c).queue.parity ≡ false
    → (chan w c).queue.overrun ≡ false → Moment w c st (ended false vs)
    → waits (chan w (after c st)).queue ≡ true
    → rr1 (chan w (after c st)).queue true ≡ shown_at (length (values_of w c st)) (length vs)
rr1_shows w c st vs p o m t = go m.waiting m.holds m.marks
  where
    shown : (x : Entry) (more : List Entry) → x ≡ plain_entry x.byte (is_nil more) false
        → length (took_of w c st) + suc (length more) ≡ length vs
        → rr1_of x true (chan w c).queue.parity (chan w c).queue.overrun
        ≡ shown_at (length (values_of w c st)) (length vs)
    shown x [] e n =
        rw (
          e,
          p,
          o,
          eq-eqb (length (values_of w c st) + 1) (length vs)
              (omega (arith, bytes_length (took_of w c st), ap length (values_are w c st))),
        )
    shown x (y ∷ more) e n =
        rw (
          e,
          p,
          o,
          ne_eqb (length (values_of w c st) + 1) (length vs)
              (λ k. omega (arith, bytes_length (took_of w c st), ap length (values_are w c st))),
        )

    go : (ws : List Entry)
        → Holds (chan w c).queue.parity (chan w c).queue.overrun (chan w (after c st)).queue ws
        → took_of w c st ++ (ws ++ m.later) ≡ ended false vs
        → rr1 (chan w (after c st)).queue true ≡ shown_at (length (values_of w c st)) (length vs)
    go [] h e = none_waits_lem h t
    go (x ∷ ws) h e =
        rr1_holds true h
        ∙ shown x (ws ++ m.later) (mark_at (took_of w c st) x (ws ++ m.later) vs e)
        (omega (
          arith,
          length-append (took_of w c st) (x ∷ (ws ++ m.later)),
          ap length e,
          ended_length false vs,
        ))

-- "D0 all sent (1 in SDLC)": a control read at pointer 1 answers RR1
rr1_in : (c : Channel) (pending : Bool) (vector : ℕ) → c.pointer ≡ 1
    → (receiving_of c.registers c.lines).mode ≡ Sdlc
    → read_register c pending vector ≡ rr1 c.queue true
unfolding read_register rr1_now receiving_of sending_of
rr1_in c pending vector p d =
    let idle = not (under_way c.sender.character) && not (full c.sender.shared) in
    rw p (ap (λ (k : Mode). if in_blocks k then rr1_told c.queue (synchronous k || idle)
    (wrong c.receiver.check)
    else rr1 c.queue (synchronous k || idle)) d)

rr1_read : (w : Which) (c : Chip) → (chan w c).pointer ≡ 1 → (side_of w c).settings.mode ≡ Sdlc
    → (happens c (ControlRead (number w))).answer ≡ Gave (rr1 (chan w c).queue true)
unfolding control_read_call
rr1_read A c p d = ap Gave (rr1_in c.a (any_pending c) 0 p d)
rr1_read B c p d = ap Gave (rr1_in c.b false (rr2 c) p d)

-- DEMAND 2, the mark
pub mark2 : Mark2
mark2 w c xs ys note l n b f e p o t k =
    let m = always2 w c xs ys note l n b f e in
    rr1_read w (after c xs) k (ap (λ (g : Heeded). g.mode) m.stays ∙ l.mode)
    ∙ ap Gave (rr1_shows w c xs (with_check note) p o m t
    ∙ ap (shown_at (length (values_of w c xs))) (with_check_length note))
