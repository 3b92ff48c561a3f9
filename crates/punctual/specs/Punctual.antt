-- In time by the eight-tick rule means that what is loaded is what was written. Assumes nothing.
use Rattle.std.specs.Prelude.{◌≡◌, refl, Bool, true, false, List, [], ◌∷◌, ◌++◌, ℕ, zero, suc, ◌+◌, ◌≤◌, length, Some, None}
use Rattle.std.proofs.Common.{sym, ap, ◌∙◌, append_assoc, append-nil, arith, length-append}
use Rattle.std.proofs.Math.Dec.{eqb-suc-zero}
use Rattle.common.specs.Tools.{bool_or, void}
use Rattle.line.specs.Frame.{frame}
use Rattle.line.specs.Laws.Frame.{ticks_are}
use Rattle.shared.specs.Shared.{full}
use Rattle.sdlc.specs.declared.Framer.{Framer}
use Rattle.sdlc.specs.declared.Framed.{Framed}
use Rattle.chip.specs.declared.Chip.{Chip}
use Rattle.chip.specs.Event.{Event, DataWrite, Transmit}
use Rattle.whole.specs.Come.{to_come, filled_with}
use Rattle.whole.specs.Stage.{in_time, Stage, opening, in_byte, in_check, closing}
use Rattle.whole.specs.Start.{started, flag_head, frame_ended}
use Rattle.whole.specs.Laws.Come.{moves, later, too_late}
use Rattle.whole.specs.Laws.Start.{head_length, at_start, start_stage, ended_none, unended_some}
use Rattle.stories.specs.Story.{Which, number, chan, happens, after}
use Rattle.stories.specs.Sent.{ticks_by, is_tick, ticks}
use Rattle.history.specs.Sending.Side.{good, SenderSide, side, side_of}
use Rattle.history.specs.Sending.Events.{tick_more, write_side, write_no_tick}
use Rattle.history.specs.Sending.Events.{skip_ticks}
use Rattle.timely.specs.Start.{start_side}
use Rattle.timely.specs.InTime.{InTime, over, still, writes, next_frame_lem, ticking}
use Rattle.sending.specs.Frame.{tick_taken}
use Rattle.hosts.specs.Loaded.{sender_of, leaves, loaded, idles, on_more, passed, Host}
use Rattle.history.specs.Sending.Stories as hosts
use Rattle.hosts.proofs.Steps.{Going, meant, steps}
use Rattle.hosts.proofs.Steps as steps
use Rattle.punctual.specs.Statement.{InTimeLoads}
use Rattle.hosts.proofs.Line.{skip_loaded, skip_passed, tick_loaded, tick_passed}

stage_going : {s : Framer} {n : ℕ} {rest : List ℕ} → Stage false s n rest → Going s
stage_going (opening k b c n rest m p) = steps.opening k b c
stage_going (in_byte k v r o b c n rest m) = steps.in_byte k v r o b c
stage_going (in_check k v r o b c n) = steps.in_check k v r o b c
stage_going (closing k b c n) = steps.closing k b c

-- once the latch is set nothing is left to write
latched_none : {s : Framer} {n : ℕ} {rest : List ℕ} → Stage false s n rest → s.shared.latch ≡ true
    → rest ≡ []
latched_none (opening k b c n rest m p) e = void e
latched_none (in_byte k v r o b c n rest m) e = void e
latched_none (in_check k v r o b c n) e = refl
latched_none (closing k b c n) e = refl

-- no flag passes in time
not_idle : {s : Framer} {n : ℕ} {rest : List ℕ} → Stage false s n rest
    → in_time (full s.shared) n rest ≡ true
    → idles s ≡ false
not_idle (opening k (Some b) c n rest m p) t = refl
not_idle (opening (suc k) None c n rest m p) t = eqb-suc-zero k
not_idle (opening zero None c n [] m p) t = absurd p
not_idle (opening zero None c n (v ∷ rest) m p) t = absurd (too_late n t (omega arith))
not_idle (in_byte k v r o (Some b) c n rest m) t = refl
not_idle (in_byte k v r o None c n rest m) t = refl
not_idle (in_check k v r o b c n) t = refl
not_idle (closing k b c n) t = refl

-- a write in time is meant for this frame, one behind the latch is not
write_meant : {s : Framer} {n v : ℕ} {rest : List ℕ} → Stage false s n (v ∷ rest)
    → full s.shared ≡ false
    → meant (filled_with s v) rest ≡ meant s (v ∷ rest)
write_meant (opening k (Some b) c n rest m p) e = void (sym e)
write_meant (opening k None c n rest m p) e = refl
write_meant (in_byte k x r o (Some b) c n rest m) e = void (sym e)
write_meant (in_byte k x r o None c n rest m) e = refl

later_meant : {s : Framer} {n : ℕ} (v : ℕ) → Stage false s n [] → s.shared.latch ≡ true
    → meant (filled_with s v) [] ≡ meant s []
later_meant v (opening k b c n rest m p) e = void e
later_meant v (in_byte k x r o b c n rest m) e = void e
later_meant v (in_check k x r o b c n) e = refl
later_meant v (closing k b c n) e = refl

-- at the end of a story in time: what was loaded and what is still meant are what was meant
record Loads (w : Which) (c : Chip) (st : List Event) (s : Framer)
    (rest left : List ℕ) : Type 0 where
  pub last : Framer
  pub since : ℕ
  pub there : side_of w (after c st) ≡ side last good
  pub stage : Stage false last since left
  pub host : Host w c st
  pub none : passed w c st ≡ 0
  pub bytes : loaded w c st ++ meant last left ≡ meant s rest
  pub short : ticks w st + length (to_come last left) ≡ length (to_come s rest)

-- a write fills the buffer
write_there : (w : Which) (c : Chip) (v : ℕ) (s : Framer) → side_of w c ≡ side s good
    → side_of w (happens c (DataWrite (number w) v)).chip ≡ side (filled_with s v) good
write_there w c v s e =
    write_side w c v ∙ ap (λ (x : SenderSide). side (filled_with x.sender v) x.heeds) e

-- an event that is no tick
skip_loads : (w : Which) (c : Chip) (x : Event) (st : List Event) (s t : Framer)
    (rest more left : List ℕ) → is_tick w x ≡ false
    → (Host w (happens c x).chip st → Host w c (x ∷ st))
    → to_come s rest ≡ to_come t more → meant t more ≡ meant s rest
    → Loads w (happens c x).chip st t more left → Loads w c (x ∷ st) s rest left
unfolding after
skip_loads w c x st s t rest more left z h y k m = record {
  last = m.last;
  since = m.since;
  there = m.there;
  stage = m.stage;
  host = h m.host;
  none = skip_passed w c x st z ∙ m.none;
  bytes =
      ap (λ (b : List ℕ). b ++ meant m.last left) (skip_loaded w c x st z) ∙ m.bytes ∙ k;
  short = omega (arith, skip_ticks w x st z, m.short, ap length y);
}

loads : (w : Which) {left : List ℕ} {c : Chip} {n : ℕ} {rest : List ℕ} {st : List Event}
    → InTime w left c n rest st
    → (s : Framer) → side_of w c ≡ side s good → Stage false s n rest
    → ticks w st ≤ length (to_come s rest)
    → Loads w c st s rest left
unfolding ticks after loaded passed
loads w (over {n = n}) s e g l = record {
  last = s;
  since = n;
  there = e;
  stage = g;
  host = hosts.ended;
  none = refl;
  bytes = refl;
  short = omega arith;
}
loads w {left} (still {c = c} {rest = rest} {e = x} {st = st} r k i) s e g l =
    let z = ap ticks_by r in
    skip_loads w c x st s s rest rest left z (hosts.still r k) refl refl
    (loads w i s (k ∙ e) g (omega (arith, skip_ticks w x st z)))
loads w {left} (writes {c = c} {v = v} {rest = rest} {st = st} f i) s e g l =
    let q = sym (ap (λ (x : SenderSide). full x.sender.shared) e) ∙ f in
    let y = moves g q in
    let z = write_no_tick w v in
    let x = DataWrite (number w) v in
    skip_loads w c x st s (filled_with s v) (v ∷ rest) rest left z hosts.writes y.0
    (write_meant g q)
    (loads w i (filled_with s v) (write_there w c v s e) y.1
    (omega (arith, ap length y.0, skip_ticks w x st z)))
loads w {left} (next_frame_lem {c = c} {v = v} {st = st} f i) s e g l =
    let q = sym (ap (λ (x : SenderSide). x.sender.shared.latch) e) ∙ f in
    let y = later v g q in
    let z = write_no_tick w v in
    let x = DataWrite (number w) v in
    skip_loads w c x st s (filled_with s v) [] [] left z hosts.writes y.0 (later_meant v g q)
    (loads w i (filled_with s v) (write_there w c v s e) y.1
    (omega (arith, ap length y.0, skip_ticks w x st z)))
loads w {left} (ticking {c = c} {n = n} {rest = rest} {st = st} f i) s e g l =
    let o = tick_more w st in
    let was : sender_of w c ≡ s = ap (λ (x : SenderSide). x.sender) e in
    let taken = tick_taken w c s n rest e g f (omega arith) in
    let t = taken.took in
    let open-yet : frame_ended s ≡ false =
    bool_or (frame_ended s) (λ z. absurd (omega (arith, ended_none g z))) (λ z. z) in
    let u = steps (stage_going g) open-yet in
    let d = (happens c (Transmit (number w))).chip in
    let same : t.next ≡ u.next = ap (λ (x : Framed). x.framer) (sym t.ticks ∙ u.ticks) in
    let there = taken.there in
    let stage = taken.stage in
    let m = loads w i t.next there stage (omega (arith, ap length t.head)) in
    let next : sender_of w d ≡ t.next = ap (λ (x : SenderSide). x.sender) there in
    let kept : leaves s t.next ++ meant t.next rest ≡ meant s rest =
    ap (λ (x : Framer). leaves s x ++ meant x rest) same
    ∙ u.kept rest (λ a b. latched_none stage (ap (λ (x : Framer). x.shared.latch) same ∙ a)) in
    record {
      last = m.last;
      since = m.since;
      there = m.there;
      stage = m.stage;
      host = hosts.ticking (ap frame_ended was ∙ open-yet) m.host;
      none =
          tick_passed w c st s was
          ∙ ap (λ (b : Bool). on_more b (passed w d st)) (not_idle g taken.timely)
          ∙ m.none;
      bytes =
          ap (λ (b : List ℕ). b ++ meant m.last left) (tick_loaded w c st s t.next was next)
          ∙ append_assoc (leaves s t.next) (loaded w d st) (meant m.last left)
          ∙ ap (λ (b : List ℕ). leaves s t.next ++ b) m.bytes
          ∙ kept;
      short = omega (arith, tick_more w st, m.short, ap length t.head);
    }

-- nothing is meant any more once nothing is to come
ended_meant : {s : Framer} {n : ℕ} → Stage false s n [] → length (to_come s []) ≡ 0
    → (meant s [] ≡ []) × (frame_ended s ≡ true)
ended_meant {s} g z =
    go g z (bool_or (frame_ended s) (λ e. e) (λ e. absurd (omega (arith, unended_some g e))))
  where
    go : {s : Framer} {n : ℕ} → Stage false s n [] → length (to_come s []) ≡ 0 → frame_ended s ≡ true
        → (meant s [] ≡ []) × (frame_ended s ≡ true)
    go (opening k b c n _ m p) z e = void e
    go (in_byte k x r o b c n _ m) z e = void e
    go (in_check k x r o b c n) z e = void e
    go (closing k b c n) z e = (refl, e)

pub in_time_loads : InTimeLoads
in_time_loads w c p v vs st s i n =
    let x = started p in
    let a = at_start p (v ∷ vs) s.some s.inside in
    let size : p + length (to_come x (v ∷ vs)) ≡ length (frame (v ∷ vs)) =
    omega (
      arith,
      head_length p s.inside,
      length-append (flag_head p) (to_come x (v ∷ vs)),
      ap length a,
    ) in
    let k =
    loads w i x (start_side w c p s) (start_stage p v vs s.some s.inside)
    (omega (arith, size, ticks_are (v ∷ vs))) in
    let z = ended_meant k.stage (omega (arith, size, ticks_are (v ∷ vs), k.short)) in
    record {
      host = k.host;
      bytes =
          sym (append-nil (loaded w c st)) ∙ ap (λ (b : List ℕ). loaded w c st ++ b) (sym z.0)
          ∙ k.bytes;
      none = k.none;
      ended = ap (λ (x : SenderSide). frame_ended x.sender) k.there ∙ z.1;
    }
