-- Every host's line: what was sent and what would come, if nothing more were loaded, are the frame
-- of the bytes loaded, at every moment. One induction over the story. Assumes nothing.
use Rattle.std.specs.Prelude.{◌≡◌, refl, Bool, true, false, ◌&&◌, ℕ, zero, suc, ◌+◌, ◌-◌, ◌*◌, ◌≤◌, length, take, Some, None}
use Rattle.std.proofs.Common.{sym, ap, ap₂, ◌∙◌, subst, arith, length-append, take_at}
use mathlib.Core.List.{List, [], ◌∷◌, ◌++◌, append_assoc, append-nil}
use Rattle.std.proofs.Math.Dec.{eqb-suc-zero}
use Rattle.common.specs.Tools.{bool_or, void}
use Rattle.line.specs.Bits.{low_bits}
use Rattle.line.specs.Check.{ones, top_bits}
use Rattle.line.specs.Insertion.{zero_if, stuff}
use Rattle.line.specs.Frame.{flag_bits, frame}
use Rattle.sdlc.specs.declared.Framer.{Framer}
use Rattle.sdlc.specs.declared.Framed.{Framed}
use Rattle.sdlc.specs.Sending.{tick_sdlc, aborting}
use Rattle.chip.specs.declared.Chip.{Chip}
use Rattle.chip.specs.Event.{Event, DataWrite, Transmit}
use Rattle.whole.specs.Come.{flag_tail, filled_with}
use Rattle.whole.specs.Come as come
use Rattle.whole.specs.Start.{started, flag_head, frame_ended}
use Rattle.whole.specs.Laws.Start.{head_tail, closed_some}
use Rattle.stories.specs.Story.{Which, number, chan, happens, after}
use Rattle.stories.specs.Sent.{ticks_by, is_tick, line_of, ticks}
use Rattle.history.specs.Sending.Side.{good, SenderSide, side, side_of}
use Rattle.history.specs.Sending.Events.{ticked_of, tick_side, tick_bit, tick_counts, tick_more}
use Rattle.history.specs.Sending.Events.{write_side}
use Rattle.history.specs.Sending.Events.{write_no_tick, skip_line, skip_ticks}
use Rattle.timely.specs.Start.{start_side}
use Rattle.sending.specs.Frame.{sent_length}
use Rattle.hosts.specs.Loaded.{sender_of, leaves, loads, loaded, idles, on_more, passed, flags}
use Rattle.hosts.specs.Loaded.{closed}
use Rattle.hosts.specs.Loaded.{Host}
use Rattle.history.specs.Sending.Stories.{ended, still, writes, ticking}
use Rattle.hosts.proofs.Steps.{Going, opening, in_byte, in_check, closing, ahead, May, unopened}
use Rattle.hosts.proofs.Steps.{flag_left}
use Rattle.hosts.proofs.Steps.{steps}
use Rattle.hosts.specs.Statement.{EveryHost, Front, HostFront}

-- What an event adds to what is loaded and to the flags that pass

pub skip_loaded : (w : Which) (c : Chip) (x : Event) (st : List Event) → is_tick w x ≡ false
    → loaded w c (x ∷ st) ≡ loaded w (happens c x).chip st
unfolding loaded
skip_loaded w c x st z =
    let d = (happens c x).chip in
    ap (λ (t : Bool). loads t (sender_of w c) (sender_of w d) ++ loaded w d st) z

pub skip_passed : (w : Which) (c : Chip) (x : Event) (st : List Event) → is_tick w x ≡ false
    → passed w c (x ∷ st) ≡ passed w (happens c x).chip st
unfolding passed
skip_passed w c x st z =
    ap (λ (t : Bool). on_more (t && idles (sender_of w c)) (passed w (happens c x).chip st)) z

pub tick_loaded : (w : Which) (c : Chip) (st : List Event) (s t : Framer) → sender_of w c ≡ s
    → sender_of w (happens c (Transmit (number w))).chip ≡ t
    → loaded w c (Transmit (number w) ∷ st)
    ≡ leaves s t ++ loaded w (happens c (Transmit (number w))).chip st
unfolding loaded
tick_loaded w c st s t e f =
    let d = (happens c (Transmit (number w))).chip in
    ap (λ (b : Bool). loads b (sender_of w c) (sender_of w d) ++ loaded w d st) (tick_counts w)
    ∙ ap₂ (λ (x y : Framer). leaves x y ++ loaded w d st) e f

pub tick_passed : (w : Which) (c : Chip) (st : List Event) (s : Framer) → sender_of w c ≡ s
    → passed w c (Transmit (number w) ∷ st)
    ≡ on_more (idles s) (passed w (happens c (Transmit (number w))).chip st)
unfolding passed
tick_passed w c st s e =
    let d = (happens c (Transmit (number w))).chip in
    ap (λ (b : Bool). on_more (b && idles (sender_of w c)) (passed w d st)) (tick_counts w)
    ∙ ap (λ (x : Framer). on_more (idles x) (passed w d st)) e

-- The law of a host's story

pub record Kept (w : Which) (c : Chip) (st : List Event) (s : Framer) : Type 0 where
  pub last : Framer
  pub there : side_of w (after c st) ≡ side last good
  pub going : Going last
  pub may_be : May s (passed w c st) (loaded w c st)
  pub whole : line_of w c st ++ ahead last 0 [] ≡ ahead s (passed w c st) (loaded w c st)
  pub some : unopened s ≡ true → unopened last ≡ false → 1 ≤ length (loaded w c st)
  pub few : flag_left s.unit ≤ 7 → 8 * passed w c st + flag_left s.unit ≤ ticks w st + 7

going_filled : {s : Framer} (v : ℕ) → Going s → Going (filled_with s v)
going_filled v (opening k b c) = opening k (Some v) c
going_filled v (in_byte k x r o b c) = in_byte k x r o (Some v) c
going_filled v (in_check k x r o b c) = in_check k x r o (Some v) c
going_filled v (closing k b c) = closing k (Some v) c

none_yet : {s : Framer} → Going s → May s 0 []
none_yet (opening k b c) = tt
none_yet (in_byte k x r o b c) = refl
none_yet (in_check k x r o b c) = (refl, refl)
none_yet (closing k b c) = (refl, refl)

-- an event that is no tick, from what is so behind it; it changes no more of the sender than its
-- buffer
skip : (w : Which) (c : Chip) (x : Event) (st : List Event) (s t : Framer) → is_tick w x ≡ false
    → ((n : ℕ) (bytes : List ℕ) → May t n bytes → May s n bytes)
    → ((n : ℕ) (bytes : List ℕ) → ahead t n bytes ≡ ahead s n bytes) → (unopened s ≡ unopened t)
    → (flag_left s.unit ≡ flag_left t.unit)
    → Kept w (happens c x).chip st t → Kept w c (x ∷ st) s
unfolding after
skip w c x st s t z m a u f k =
    let l = sym (skip_loaded w c x st z) in
    let p = sym (skip_passed w c x st z) in
    record {
      last = k.last;
      there = k.there;
      going = k.going;
      may_be =
          subst (May s (passed w c (x ∷ st))) l
          (subst (λ (n : ℕ). May s n (loaded w (happens c x).chip st)) p (m _ _ k.may_be));
      whole =
          ap (λ (b : List Bool). b ++ ahead k.last 0 []) (skip_line w c x st z) ∙ k.whole
          ∙ a _ _ ∙ ap₂ (ahead s) p l;
      some = λ o v. subst (λ (b : List ℕ). 1 ≤ length b) l (k.some (sym u ∙ o) v);
      few =
          λ h. omega (
            arith,
            skip_ticks w x st z,
            ap (λ (n : ℕ). 8 * n) p,
            f,
            k.few (subst (λ (n : ℕ). n ≤ 7) f h),
          );
    }

pub kept : (w : Which) {c : Chip} {st : List Event} → Host w c st → (s : Framer)
    → side_of w c ≡ side s good → Going s → Kept w c st s
unfolding line_of after loaded passed ticks
kept w ended s e g = record {
  last = s;
  there = e;
  going = g;
  may_be = none_yet g;
  whole = refl;
  some = λ o u. void (sym u ∙ o);
  few = λ h. omega arith;
}
kept w (still {c = c} {e = x} {st = st} r k h) s e g =
    skip w c x st s s (ap ticks_by r) (λ n bytes m. m) (λ n bytes. refl) refl refl
    (kept w h s (k ∙ e) g)
kept w (writes {c = c} {v = v} {st = st} h) s e g =
    skip w c (DataWrite (number w) v) st s (filled_with s v) (write_no_tick w v) (λ n bytes m. m)
    (λ n bytes. refl) refl refl
    (kept w h (filled_with s v)
    (write_side w c v ∙ ap (λ (x : SenderSide). side (filled_with x.sender v) x.heeds) e)
    (going_filled v g))
kept w (ticking {c = c} {st = st} f h) s e g =
    let d = (happens c (Transmit (number w))).chip in
    let was : sender_of w c ≡ s = ap (λ (x : SenderSide). x.sender) e in
    let heeds = ap (λ (x : SenderSide). x.heeds) e in
    let t = steps g (ap frame_ended (sym was) ∙ f) in
    let same : ticked_of w c ≡ _ = ap (tick_sdlc come.good) was ∙ t.ticks in
    let y : side_of w d ≡ side t.next good =
    tick_side w c heeds ∙ ap (λ (x : Framed). side x.framer good) same in
    let k = kept w h t.next y t.going in
    let p = sym (tick_passed w c st s was) in
    let l = sym (tick_loaded w c st s t.next was (ap (λ (x : SenderSide). x.sender) y)) in
    let n = on_more (idles s) (passed w d st) in
    let bytes = leaves s t.next ++ loaded w d st in
    record {
      last = k.last;
      there = k.there;
      going = k.going;
      may_be = subst (May s (passed w c (Transmit (number w) ∷ st))) l
          (subst (λ (j : ℕ). May s j bytes) p
          (t.may_be (passed w d st) (loaded w d st) k.may_be));
      whole =
          ap (λ (b : List Bool). (b ++ line_of w d st) ++ ahead k.last 0 [])
          (tick_bit w c heeds ∙ ap (λ (x : Framed). x.bit ∷ []) same)
          ∙ ap (λ (b : List Bool). t.sent ∷ b) k.whole
          ∙ sym (t.head (passed w d st) (loaded w d st) k.may_be)
          ∙ ap₂ (ahead s) p l;
      some = λ o u. subst (λ (b : List ℕ). 1 ≤ length b) l
          (bool_or (unopened t.next)
          (λ i. omega (arith, k.some i u, length-append (leaves s t.next) (loaded w d st)))
          (λ i. omega (
            arith,
            ap length (t.first o i),
            length-append (leaves s t.next) (loaded w d st),
          )));
      few = λ i. omega (
        arith,
        tick_more w st,
        ap (λ (j : ℕ). 8 * j) p,
        t.few (passed w d st) (ticks w st) (loaded w d st) k.may_be (k.few (t.inside i)) i,
      );
    }

-- The theorem

pub flags_swap : (n : ℕ) (xs : List Bool)
    → flag_bits ++ (flags n ++ xs) ≡ flags n ++ (flag_bits ++ xs)
unfolding flags
flags_swap zero xs = refl
flags_swap (suc n) xs = ap (λ (l : List Bool). flag_bits ++ l) (flags_swap n xs)

-- what comes at the start is the frame less the bits that are sent
at_start : (p n : ℕ) (bytes : List ℕ) → 1 ≤ p → p ≤ 8
    → flag_head p ++ ahead (started p) n bytes ≡ flags n ++ frame bytes
unfolding come.closed
at_start p n bytes h l =
    let rest = flags n ++ come.closed 0 ones [] bytes in
    sym (append_assoc (flag_head p) (flag_tail (8 - p)) rest)
    ∙ ap (λ (x : List Bool). x ++ rest) (head_tail p h l)
    ∙ flags_swap n (come.closed 0 ones [] bytes)

-- nothing comes behind the closing flag
pub ended_none : {s : Framer} → Going s → frame_ended s ≡ true
    → (ahead s 0 [] ≡ []) × (unopened s ≡ false)
ended_none (opening k b c) e = void e
ended_none (in_byte k x r o b c) e = void e
ended_none (in_check k x r o b c) e = void e
ended_none (closing zero b c) e = (refl, refl)
ended_none (closing (suc k) b c) e = void (sym (eqb-suc-zero k) ∙ e)

not_aborting : {s : Framer} → Going s → aborting s.unit ≡ false
not_aborting (opening k b c) = refl
not_aborting (in_byte k x r o b c) = refl
not_aborting (in_check k x r o b c) = refl
not_aborting (closing k b c) = refl

-- and something before its end
unended_some : {s : Framer} → Going s → frame_ended s ≡ false → 1 ≤ length (ahead s 0 [])
unended_some (opening zero b c) e = unfold flags in (omega (arith, closed_some 0 c [] []))
unended_some (opening (suc k) b c) e = omega arith
unended_some (in_byte k v r o b c) e =
    let bits = come.closed r c (low_bits k v) [] in
    omega (arith, length-append (zero_if o) bits, closed_some r c (low_bits k v) [])
unended_some (in_check k v r o b c) e =
    let bits = stuff r (top_bits k v) in
    omega (arith, length-append (zero_if o) (bits ++ flag_bits), length-append bits flag_bits)
unended_some (closing (suc k) b c) e = omega arith
unended_some (closing zero b c) e = void (sym e)

pub every_host : EveryHost
every_host w c p st s h =
    let k = kept w h (started p) (start_side w c p s) (opening (8 - p) None ones) in
    let sent = flag_head p ++ line_of w c st in
    let rest = ahead k.last 0 [] in
    let q : sent ++ rest ≡ flags (passed w c st) ++ frame (loaded w c st) =
    append_assoc (flag_head p) (line_of w c st) rest
    ∙ ap (λ (l : List Bool). flag_head p ++ l) k.whole
    ∙ at_start p (passed w c st) (loaded w c st) s.some s.inside in
    let there = ap (λ (x : SenderSide). frame_ended x.sender) k.there in
    record {
      begun =
          sym (take_at sent rest (p + ticks w st) (sent_length w c p st s.inside))
          ∙ ap (take (p + ticks w st)) q;
      whole =
          λ e. sym (ap (λ (l : List Bool). sent ++ l) (ended_none k.going (sym there ∙ e)).0
          ∙ append-nil sent) ∙ q;
      some = λ e. k.some refl (ended_none k.going (sym there ∙ e)).1;
      unfinished =
          λ e. omega (
            arith,
            unended_some k.going (sym there ∙ e),
            ap length q,
            length-append sent rest,
            sent_length w c p st s.inside,
          );
      begins = omega (arith, k.few (omega (arith, s.some)), s.inside, s.some);
      heeds = ap (λ (x : SenderSide). x.heeds) k.there;
      uncut =
          ap (λ (x : SenderSide). aborting x.sender.unit) k.there ∙ not_aborting k.going;
    }

-- A free host's story begins with one of these

-- one event more in front
front_more : (w : Which) (c : Chip) (x : Event) (st : List Event)
    (i : Front w (happens c x).chip st)
    → Host w c (x ∷ i.front) → Front w c (x ∷ st)
unfolding after
front_more w c x st i h = record {
  front = x ∷ i.front;
  behind = i.behind;
  joined = ap (λ (l : List Event). x ∷ l) i.joined;
  host = h;
  ended = i.ended;
}

pub host_front : HostFront
unfolding after
host_front w c _ ended =
    record { front = []; behind = []; joined = refl; host = ended; ended = λ e. refl }
host_front w c _ (still {e = x} {st = st} r k f) =
    let i = host_front w (happens c x).chip st f in front_more w c x st i (still r k i.host)
host_front w c _ (writes {v = v} {st = st} f) =
    let x = DataWrite (number w) v in
    let i = host_front w (happens c x).chip st f in
    front_more w c x st i (writes i.host)
host_front w c _ (ticking {st = st} m f) =
    let x = Transmit (number w) in
    bool_or (closed w c)
    (λ z. record {
      front = [];
      behind = x ∷ st;
      joined = refl;
      host = ended;
      ended = λ e. void
          (sym e ∙ z);
    })
    (λ z. let i = host_front w (happens c x).chip st f in front_more w c x st i
    (ticking z i.host))
