-- Conservation, for any ticks: what was read, then what waits, is what waited before, then what was
-- handed over. Assumes nothing.
use Rattle.std.specs.Prelude.{◌≡◌, refl, Bool, true, ◌&&◌, List, ◌∷◌, ◌++◌, ℕ}
use Rattle.std.proofs.Common.{sym, ap, ap₂, ◌∙◌, subst, append_assoc}
use Rattle.entry.specs.declared.Entry.{Entry}
use Rattle.queue.specs.declared.Queue.{Queue}
use Rattle.queue.specs.Queue.{taken, oldest, waits}
use Rattle.queue.specs.Laws.{read_holds}
use Rattle.queue.specs.Holding.{Holds, entry_if}
use Rattle.bytesync.specs.declared.Reception.{Reception}
use Rattle.bytesync.specs.Hearing.{hear_block}
use Rattle.bytesync.specs.Laws.Plain.{hear_plain}
use Rattle.blocks.specs.Heard.{Moment, heeding, Final, final, handed, before, hear_all}
use Rattle.channel.specs.Events.{queued}
use Rattle.chip.specs.declared.Chip.{Chip}
use Rattle.chip.specs.Event.{Event}
use Rattle.stories.specs.Story.{Which, chan, happens, after}
use Rattle.stories.specs.Received.{ToReceiver, is_read, taking, took_of}
use Rattle.terminals.specs.Side.{Heeded, Side, side, side_of, checking_of, moment_in}
use Rattle.terminals.specs.Side.{moments_of}
use Rattle.history.specs.Receiving.Events.{room_if, queue_takes}
use Rattle.history.specs.Receiving.Stories.{over, hears, reads, still}
use Rattle.terminals.specs.Events.{heard_side, read_side, Follows}
use Rattle.terminals.specs.Events.{Hearing, follows}
use Rattle.terminals.specs.Statement.{roomy, Fed}

before_join : (xs ys : List Entry) (f : Final) → before xs (before ys f) ≡ before (xs ++ ys) f
before_join xs ys f =
    ap (final f.reception f.check) (sym (append_assoc xs ys f.got))

-- at the end of a story: the side, and, whatever ticks follow, the whole of what is handed over
pub record Conserved (w : Which) (c : Chip) (st : List Event) (r : Reception) (k : ℕ) (h : Heeded)
    (es : List Entry) (p o : Bool) : Type 0 where
  pub last : Reception
  pub check : ℕ
  pub queue : Queue
  pub waiting : List Entry
  pub there : side_of w (after c st) ≡ side last check queue h
  pub holds : Holds p o queue waiting
  pub whole : (rest : List Moment)
      → before es (hear_all h.matching r k (moments_of w c st ++ rest))
      ≡ before (took_of w c st ++ waiting) (hear_all h.matching last check rest)

-- an event before a story: the end is that of the story
carried : {w : Which} {c : Chip} {x : Event} {st : List Event} {r t : Reception} {k l : ℕ}
    {h : Heeded} {es ds : List Entry} {p o : Bool}
    (n : Conserved w (happens c x).chip st t l h ds p o)
    → ((rest : List Moment)
    → before es (hear_all h.matching r k (moments_of w c (x ∷ st) ++ rest))
    ≡ before (took_of w c (x ∷ st) ++ n.waiting)
    (hear_all h.matching n.last n.check rest))
    → Conserved w c (x ∷ st) r k h es p o
unfolding after
carried n whole =
    record {
      last = n.last;
      check = n.check;
      queue = n.queue;
      waiting = n.waiting;
      there = n.there;
      holds = n.holds;
      whole = whole;
    }

pub conserved : (w : Which) {c : Chip} {st : List Event} {p o : Bool} → Fed w c st
    → (r : Reception) (k : ℕ) (q : Queue) (h : Heeded) (es : List Entry) → Hearing h
    → side_of w c ≡ side r k q h → Holds p o q es → Conserved w c st r k h es p o
unfolding after moments_of took_of hear_all
conserved w over r k q h es d e m =
    record {
      last = r;
      check = k;
      queue = q;
      waiting = es;
      there = e;
      holds = m;
      whole = λ rest. refl;
    }
conserved w (still {c = c} {e = x} {st = st} z s i) r k q h es d e m =
    let n = conserved w i r k q h es d (s ∙ e) m in
    let g = h.matching in
    carried n λ rest.
    ap (λ (y : ToReceiver). before es (hear_all g r k
    ((moment_in (checking_of w c) y ++ moments_of w (happens c x).chip st) ++ rest))) z
    ∙ n.whole rest
    ∙ ap (λ (y : ToReceiver). before
    ((entry_if (taking w c y) (oldest (chan w c).queue) ++ took_of w (happens c x).chip st)
    ++ n.waiting) (hear_all g n.last n.check rest)) (sym z)
conserved w (reads {c = c} {e = x} {st = st} z i) r k q h es d e m =
    let t = read_holds m in
    let g = h.matching in
    let f : side_of w (happens c x).chip ≡ read_side (side_of w c) =
    subst (Follows w c (happens c x).chip) z
    (follows w c x (subst Hearing (sym (ap (λ (y : Side). y.heeds) e)) d)) in
    let n = conserved w i r k (taken q) h t.rest d (f ∙ ap read_side e) t.holds in
    let took = entry_if (waits q) (oldest q) in
    let more = took_of w (happens c x).chip st in
    let ts = moments_of w (happens c x).chip st in
    carried n λ rest.
    ap (λ (y : ToReceiver).
    before es (hear_all g r k ((moment_in (checking_of w c) y ++ ts) ++ rest))) z
    ∙ ap (λ (l : List Entry). before l (hear_all g r k (ts ++ rest))) t.split
    ∙ sym (before_join took t.rest (hear_all g r k (ts ++ rest)))
    ∙ ap (before took) (n.whole rest)
    ∙ before_join took (more ++ n.waiting) (hear_all g n.last n.check rest)
    ∙ ap (λ (l : List Entry). before l (hear_all g n.last n.check rest))
    (sym (append_assoc took more n.waiting))
    ∙ ap₂ (λ (y : ToReceiver) (u : Side). before
    ((entry_if (is_read y && waits u.queue) (oldest u.queue) ++ more) ++ n.waiting)
    (hear_all g n.last n.check rest)) (sym z) (sym e)
conserved w (hears {c = c} {e = x} {st = st} {b = b} z s i) r k q h es d e m =
    let g = h.matching in
    let j = checking_of w c in
    let u = hear_block (heeding g j) r k b in
    let f : side_of w (happens c x).chip ≡ heard_side j b (side_of w c) =
    subst (Follows w c (happens c x).chip) z
    (follows w c x (subst Hearing (sym (ap (λ (y : Side). y.heeds) e)) d)) in
    let space : room_if u.entry q ≡ true = ap (λ (y : Side). roomy y j b) (sym e) ∙ s in
    let n = conserved w i u.reception u.check (queued q u.entry) h
    (es ++ handed u) d (f ∙ ap (heard_side j b) e)
    (queue_takes u.entry m space (hear_plain (heeding g j) r k b)) in
    let ts = moments_of w (happens c x).chip st in
    carried n λ rest.
    ap (λ (y : ToReceiver). before es (hear_all g r k ((moment_in j y ++ ts) ++ rest))) z
    ∙ before_join es (handed u) (hear_all g u.reception u.check (ts ++ rest))
    ∙ n.whole rest
    ∙ ap (λ (y : ToReceiver). before
    ((entry_if (taking w c y) (oldest (chan w c).queue) ++ took_of w (happens c x).chip st)
    ++ n.waiting) (hear_all g n.last n.check rest)) (sym z)
