-- Demand 3's frame: what was sent, followed by what is to come, is the frame at every moment. One
-- induction over the story. Assumes nothing.
use Rattle.std.specs.Prelude.{◌≡◌, refl, Bool, true, false, List, [], ◌∷◌, ◌++◌, ℕ, ◌+◌, ◌-◌, ◌≤◌, length, take}
use Rattle.std.proofs.Common.{sym, ap, ap₂, ◌∙◌, append_assoc, append-nil, arith, length-append, take_at}
use Rattle.common.specs.Tools.{no_items}
use Rattle.line.specs.Frame.{frame}
use Rattle.line.specs.Laws.Frame.{ticks_are}
use Rattle.shared.specs.Shared.{full}
use Rattle.sdlc.specs.declared.Framer.{Framer}
use Rattle.sdlc.specs.declared.Framed.{Framed}
use Rattle.sdlc.specs.Sending.{tick_sdlc}
use Rattle.chip.specs.declared.Chip.{Chip}
use Rattle.chip.specs.Event.{Event, DataWrite, Transmit}
use Rattle.whole.specs.Come.{to_come, filled_with}
use Rattle.whole.specs.Stage.{since_after, in_time, Stage}
use Rattle.whole.specs.Start.{started, flag_head}
use Rattle.whole.specs.Laws.Come.{Takes, takes, moves, later}
use Rattle.whole.specs.Laws.Start.{head_length, at_start, start_stage}
use Rattle.stories.specs.Story.{Which, number, chan, happens, after}
use Rattle.stories.specs.Sent.{ticks_by, is_tick, line_of, ticks}
use Rattle.history.specs.Sending.Side.{good, SenderSide, side, side_of, full_of}
use Rattle.timely.specs.Start.{Start, start_side}
use Rattle.timely.specs.InTime.{InTime, over, still, writes, next_frame_lem, ticking}
use Rattle.sending.specs.Statement.{FrameSent, FrameBegun, ZerosFew}
use Rattle.history.specs.Sending.Events.{ticked_of, tick_side, tick_bit, tick_counts, write_side}
use Rattle.history.specs.Sending.Events.{write_no_tick, skip_line, skip_ticks, line_length}
use Rattle.line.specs.Laws.Frame as laws
use Rattle.whole.specs.Come as come

-- The law of a story in time

-- at its end: what was sent and what is to come are what was to come
pub record Conserved (a : Bool) (w : Which) (c : Chip) (st : List Event) (s : Framer)
    (rest left : List ℕ) : Type 0 where
  pub last : Framer
  pub since : ℕ
  pub there : side_of w (after c st) ≡ side last good
  pub stage : Stage a last since left
  pub whole : line_of w c st ++ to_come last left ≡ to_come s rest

-- a story that begins with an event that is no tick, from what is so behind it
skip : {a : Bool} (w : Which) (c : Chip) (x : Event) (st : List Event) (s t : Framer)
    (rest more left : List ℕ) → is_tick w x ≡ false
    → to_come s rest ≡ to_come t more → Conserved a w (happens c x).chip st t more left
    → Conserved a w c (x ∷ st) s rest left
unfolding after
skip w c x st s t rest more left z e k = record {
  last = k.last;
  since = k.since;
  there = k.there;
  stage = k.stage;
  whole =
      ap (λ (l : List Bool). l ++ to_come k.last left) (skip_line w c x st z) ∙ k.whole ∙ sym e;
}

-- and one that begins with a tick
ticks_on : {a : Bool} (w : Which) (c : Chip) (st : List Event) (s t : Framer) (bit : Bool)
    (rest left : List ℕ) → (side_of w c).heeds ≡ good → (ticked_of w c).bit ≡ bit
    → to_come s rest ≡ bit ∷ to_come t rest
    → Conserved a w (happens c (Transmit (number w))).chip st t rest left
    → Conserved a w c (Transmit (number w) ∷ st) s rest left
unfolding line_of after
ticks_on w c st s t bit rest left h z e k = record {
  last = k.last;
  since = k.since;
  there = k.there;
  stage = k.stage;
  whole =
      let more = line_of w (happens c (Transmit (number w))).chip st in
      ap (λ (b : List Bool). (b ++ more) ++ to_come k.last left)
      (tick_bit w c h ∙ ap (λ (b : Bool). b ∷ []) z)
      ∙ ap (λ (b : List Bool). bit ∷ b) k.whole ∙ sym e;
}

-- a tick in time, on the chip: the sender behind it, and its stage
pub record TickTaken (a : Bool) (w : Which) (c : Chip) (s : Framer) (n : ℕ)
    (rest : List ℕ) : Type 0 where
  pub timely : in_time (full s.shared) n rest ≡ true
  pub took : Takes a s n rest
  pub there : side_of w (happens c (Transmit (number w))).chip ≡ side took.next good
  pub stage : let d = (happens c (Transmit (number w))).chip in
      Stage a took.next (since_after (full_of w c) (full_of w d) n) rest

pub tick_taken : {a : Bool} (w : Which) (c : Chip) (s : Framer) (n : ℕ) (rest : List ℕ)
    → side_of w c ≡ side s good → Stage a s n rest → in_time (full_of w c) n rest ≡ true
    → 1 ≤ length (to_come s rest) → TickTaken a w c s n rest
tick_taken w c s n rest e g f l =
    let timely = ap (λ (x : SenderSide). in_time (full x.sender.shared) n rest) (sym e) ∙ f in
    let t = takes g timely l in
    let d = (happens c (Transmit (number w))).chip in
    let y : side_of w d ≡ side t.next good =
    tick_side w c (ap (λ (x : SenderSide). x.heeds) e)
    ∙ ap (λ (x : Framed). side x.framer good)
    (ap (λ (x : SenderSide). tick_sdlc come.good x.sender) e ∙ t.ticks) in
    let q : since_after (full s.shared) (full t.next.shared) n
    ≡ since_after (full_of w c) (full_of w d) n =
    ap₂ (λ (x y : SenderSide). since_after (full x.sender.shared) (full y.sender.shared) n)
    (sym e) (sym y) in
    record { timely = timely; took = t; there = y; stage = rw q at t.stage }

pub conserved : {a : Bool}
    (w : Which) {left : List ℕ} {c : Chip} {n : ℕ} {rest : List ℕ} {st : List Event}
    → InTime w left c n rest st
    → (s : Framer) → side_of w c ≡ side s good → Stage a s n rest
    → ticks w st ≤ length (to_come s rest) → Conserved a w c st s rest left
unfolding line_of ticks after
conserved w (over {n = n}) s e g l =
    record { last = s; since = n; there = e; stage = g; whole = refl }
conserved w {left} (still {c = c} {rest = rest} {e = x} {st = st} r k i) s e g l =
    let z = ap ticks_by r in
    skip w c x st s s rest rest left z refl
    (conserved w i s (k ∙ e) g (omega (arith, skip_ticks w x st z)))
conserved w {left} (writes {c = c} {v = v} {rest = rest} {st = st} f i) s e g l =
    let m = moves g (sym (ap (λ (x : SenderSide). full x.sender.shared) e) ∙ f) in
    let z = write_no_tick w v in
    skip w c (DataWrite (number w) v) st s (filled_with s v) (v ∷ rest) rest left z m.0
    (conserved w i (filled_with s v)
    (write_side w c v ∙ ap (λ (x : SenderSide). side (filled_with x.sender v) x.heeds) e)
    m.1
    (omega (arith, ap length m.0, skip_ticks w (DataWrite (number w) v) st z)))
conserved w {left} (next_frame_lem {c = c} {v = v} {st = st} f i) s e g l =
    let m = later v g (sym (ap (λ (x : SenderSide). x.sender.shared.latch) e) ∙ f) in
    let z = write_no_tick w v in
    skip w c (DataWrite (number w) v) st s (filled_with s v) [] [] left z m.0
    (conserved w i (filled_with s v)
    (write_side w c v ∙ ap (λ (x : SenderSide). side (filled_with x.sender v) x.heeds) e)
    m.1
    (omega (arith, ap length m.0, skip_ticks w (DataWrite (number w) v) st z)))
conserved w {left} (ticking {c = c} {n = n} {rest = rest} {st = st} f i) s e g l =
    let o = rw (tick_counts w) at l in
    let k = tick_taken w c s n rest e g f (omega arith) in
    let t = k.took in
    ticks_on w c st s t.next t.sent rest left (ap (λ (x : SenderSide). x.heeds) e)
    (ap (λ (x : SenderSide). (tick_sdlc come.good x.sender).bit) e
    ∙ ap (λ (x : Framed). x.bit) t.ticks)
    t.head
    (conserved w i t.next k.there k.stage (omega (arith, ap length t.head)))

-- Demand 3

-- what was sent and what is to come are the frame
pub frame_kept : (w : Which) (c : Chip) (p v : ℕ) (vs left : List ℕ) (st : List Event) → Start w c p
    → InTime w left c (p - 1) (v ∷ vs) st
    → p + ticks w st ≤ length (frame (v ∷ vs))
    → (k : Conserved false w c st (started p) (v ∷ vs) left)
    × (flag_head p ++ (line_of w c st ++ to_come k.last left) ≡ frame (v ∷ vs))
frame_kept w c p v vs left st s i n =
    let x = started p in
    let a = at_start p (v ∷ vs) s.some s.inside in
    let k = conserved w i x (start_side w c p s) (start_stage p v vs s.some s.inside)
    (omega (
      arith,
      head_length p s.inside,
      length-append (flag_head p) (to_come x (v ∷ vs)),
      ap length a,
    )) in
    (k, ap (λ (l : List Bool). flag_head p ++ l) k.whole ∙ a)

pub sent_length : (w : Which) (c : Chip) (p : ℕ) (st : List Event) → p ≤ 8
    → length (flag_head p ++ line_of w c st) ≡ p + ticks w st
sent_length w c p st l =
    omega (arith, length-append (flag_head p) (line_of w c st), head_length p l, line_length w c st)

pub frame_begun : FrameBegun
frame_begun w c p v vs left st s i n =
    let k = frame_kept w c p v vs left st s i (omega (arith, ticks_are (v ∷ vs))) in
    let sent = flag_head p ++ line_of w c st in
    sym (take_at sent (to_come k.0.last left) (p + ticks w st)
    (sent_length w c p st s.inside))
    ∙ ap (take (p + ticks w st))
    (append_assoc (flag_head p) (line_of w c st) (to_come k.0.last left) ∙ k.1)

pub demand3 : FrameSent
demand3 w c p v vs st s i n =
    let m = ticks_are (v ∷ vs) in
    let k = frame_kept w c p v vs [] st s i (omega arith) in
    let t = to_come k.0.last [] in
    let sent = flag_head p ++ line_of w c st in
    let q : sent ++ t ≡ frame (v ∷ vs) = append_assoc (flag_head p) (line_of w c st) t ∙ k.1 in
    let z : t ≡ [] =
    no_items t (omega
    (arith, ap length q, length-append sent t, sent_length w c p st s.inside)) in
    sym (ap (λ (l : List Bool). sent ++ l) z ∙ append-nil sent) ∙ q

pub zeros_few : ZerosFew
zeros_few = laws.zeros_few
