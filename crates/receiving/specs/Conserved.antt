-- Conservation, for any bits on the line: what was read, then what waits, is what waited before,
-- then what was handed over. Assumes nothing.
use Rattle.std.specs.Prelude.{◌≡◌, refl, Bool, true, ◌&&◌, List, ◌∷◌, ◌++◌}
use Rattle.std.proofs.Common.{sym, ap, ap₂, ◌∙◌, subst, append_assoc}
use Rattle.entry.specs.declared.Entry.{Entry}
use Rattle.queue.specs.declared.Queue.{Queue}
use Rattle.queue.specs.Queue.{taken, oldest, waits}
use Rattle.queue.specs.Laws.{read_holds}
use Rattle.queue.specs.Holding.{Holds, entry_if}
use Rattle.sdlc.specs.declared.Listener.{Listener}
use Rattle.sdlc.specs.Hearing.{hear_sdlc}
use Rattle.sdlc.specs.Laws.Plain.{hear_plain}
use Rattle.whole.specs.Heard.{handed, before, hear_all}
use Rattle.whole.specs.Laws.Heard.{before_join}
use Rattle.channel.specs.Events.{queued}
use Rattle.chip.specs.declared.Chip.{Chip}
use Rattle.chip.specs.Event.{Event}
use Rattle.stories.specs.Story.{Which, chan, happens, after}
use Rattle.stories.specs.Received.{ToReceiver, bit_in, bits_of, is_read, taking, took_of}
use Rattle.history.specs.Receiving.Side.{Heeded, Side, side, side_of}
use Rattle.history.specs.Receiving.Stories.{over, hears, reads, still}
use Rattle.receiving.specs.Statement.{roomy, Fed}
use Rattle.history.specs.Receiving.Events.{room_if, queue_takes, heard_side, read_side}
use Rattle.history.specs.Receiving.Events.{Follows, Hearing, follows}

-- at the end of a story: the side, and, whatever bits follow, the whole of what is handed over
pub record Conserved (w : Which) (c : Chip) (st : List Event) (s : Listener) (g : Heeded)
    (es : List Entry) (p o : Bool) : Type 0 where
  pub last : Listener
  pub queue : Queue
  pub waiting : List Entry
  pub there : side_of w (after c st) ≡ side last queue g
  pub holds : Holds p o queue waiting
  pub whole : (rest : List Bool)
      → before es (hear_all g.addressing s (bits_of w st ++ rest))
      ≡ before (took_of w c st ++ waiting) (hear_all g.addressing last rest)

-- an event before a story: the end is that of the story
carried : {w : Which} {c : Chip} {x : Event} {st : List Event} {s t : Listener} {g : Heeded}
    {es ds : List Entry} {p o : Bool} (m : Conserved w (happens c x).chip st t g ds p o)
    → ((rest : List Bool)
    → before es (hear_all g.addressing s (bits_of w (x ∷ st) ++ rest))
    ≡ before (took_of w c (x ∷ st) ++ m.waiting) (hear_all g.addressing m.last rest))
    → Conserved w c (x ∷ st) s g es p o
unfolding after
carried m whole =
    record {
      last = m.last;
      queue = m.queue;
      waiting = m.waiting;
      there = m.there;
      holds = m.holds;
      whole = whole;
    }

pub conserved : (w : Which) {c : Chip} {st : List Event} {p o : Bool} → Fed w c st
    → (s : Listener) (q : Queue) (g : Heeded) (es : List Entry)
    → Hearing g → side_of w c ≡ side s q g → Holds p o q es → Conserved w c st s g es p o
unfolding after bits_of took_of hear_all
conserved w over s q g es d e h =
    record { last = s; queue = q; waiting = es; there = e; holds = h; whole = λ rest. refl }
conserved w (still {c = c} {e = x} {st = st} r k i) s q g es d e h =
    let m = conserved w i s q g es d (k ∙ e) h in
    carried m λ rest.
    ap (λ (r : ToReceiver). before es
    (hear_all g.addressing s ((bit_in r ++ bits_of w st) ++ rest))) r
    ∙ m.whole rest
    ∙ ap (λ (r : ToReceiver). before
    ((entry_if (taking w c r) (oldest (chan w c).queue) ++ took_of w (happens c x).chip st)
    ++ m.waiting) (hear_all g.addressing m.last rest)) (sym r)
conserved w (reads {c = c} {e = x} {st = st} r i) s q g es d e h =
    let t = read_holds h in
    let f : side_of w (happens c x).chip ≡ read_side (side_of w c) =
    subst (Follows w c (happens c x).chip) r
    (follows w c x (subst Hearing (sym (ap (λ (y : Side). y.settings) e)) d)) in
    let m = conserved w i s (taken q) g t.rest d (f ∙ ap read_side e) t.holds in
    let n = entry_if (waits q) (oldest q) in
    let more = took_of w (happens c x).chip st in
    carried m λ rest.
    ap (λ (r : ToReceiver). before es
    (hear_all g.addressing s ((bit_in r ++ bits_of w st) ++ rest))) r
    ∙ ap (λ (l : List Entry). before l (hear_all g.addressing s (bits_of w st ++ rest)))
    t.split
    ∙ sym (before_join n t.rest (hear_all g.addressing s (bits_of w st ++ rest)))
    ∙ ap (before n) (m.whole rest)
    ∙ before_join n (more ++ m.waiting) (hear_all g.addressing m.last rest)
    ∙ ap (λ (l : List Entry). before l (hear_all g.addressing m.last rest))
    (sym (append_assoc n more m.waiting))
    ∙ ap₂ (λ (r : ToReceiver) (y : Side). before
    ((entry_if (is_read r && waits y.queue) (oldest y.queue) ++ more) ++ m.waiting)
    (hear_all g.addressing m.last rest))
    (sym r) (sym e)
conserved w (hears {c = c} {e = x} {st = st} {b = b} r k i) s q g es d e h =
    let H = hear_sdlc g.addressing s b in
    let f : side_of w (happens c x).chip ≡ heard_side b (side_of w c) =
    subst (Follows w c (happens c x).chip) r
    (follows w c x (subst Hearing (sym (ap (λ (y : Side). y.settings) e)) d)) in
    let space : room_if H.entry q ≡ true = ap (λ (y : Side). roomy y b) (sym e) ∙ k in
    let m =
    conserved w i H.listener (queued q H.entry) g (es ++ handed H) d
    (f ∙ ap (heard_side b) e)
    (queue_takes H.entry h space (hear_plain g.addressing s b)) in
    carried m λ rest.
    ap (λ (r : ToReceiver). before es
    (hear_all g.addressing s ((bit_in r ++ bits_of w st) ++ rest))) r
    ∙ before_join es (handed H) (hear_all g.addressing H.listener (bits_of w st ++ rest))
    ∙ m.whole rest
    ∙ ap (λ (r : ToReceiver). before
    ((entry_if (taking w c r) (oldest (chan w c).queue) ++ took_of w (happens c x).chip st)
    ++ m.waiting) (hear_all g.addressing m.last rest)) (sym r)
