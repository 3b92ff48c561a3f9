-- Behind an abort, a preset and a clear, the bytes loaded are the frame that follows. Assumes
-- nothing.
use Rattle.std.specs.Prelude.{◌≡◌, refl, Bool, true, false, List, [], ◌∷◌, ◌++◌, ℕ, zero, suc, take, replicate, Option, Some, is_some, unwrap_or}
use Rattle.std.proofs.Common.{sym, ap, ◌∙◌, append-nil, take_at}
use Rattle.common.specs.Tools.{void}
use Rattle.common.specs.declared.Mode.TheVariants.{Sdlc}
use Rattle.line.specs.Check.{ones}
use Rattle.line.specs.Frame.{flag_bits, frame}
use Rattle.shared.specs.Preset.{preset_for}
use Rattle.shared.specs.Shared.{shared}
use Rattle.sdlc.specs.declared.LineUnit.TheVariants.{Flag, Abort}
use Rattle.sdlc.specs.declared.Framer.{Framer}
use Rattle.sdlc.specs.declared.Framed.{Framed}
use Rattle.sdlc.specs.Sending.{insertion, not_counted, framer, sent_bit, tick_sdlc}
use Rattle.sdlc.specs.Laws.Tick.{tick_abort, tick_chooses, next_abort}
use Rattle.sender.specs.Sender.{framer_of, check_preset, latch_cleared}
use Rattle.settings.specs.Settings.{mode_in}
use Rattle.settings.specs.Bytes.{preset_sent, clear_underrun}
use Rattle.chip.specs.declared.Chip.{Chip}
use Rattle.chip.specs.Event.{Event, ControlWrite, DataWrite, Transmit}
use Rattle.whole.specs.Come as come
use Rattle.whole.specs.Start.{frame_ended}
use Rattle.stories.specs.Story.{Which, number, chan, happens, after}
use Rattle.stories.specs.Sent.{ticks_by, is_tick, line_of, ticks}
use Rattle.history.specs.Sending.Side.{heeded, good, good_of, SenderSide, side, sending_in, side_of}
use Rattle.history.specs.Sending.Events.{ticked_of, tick_side, tick_bit, skip_line, write_side}
use Rattle.history.specs.Sending.Events.{write_no_tick, line_length}
use Rattle.history.specs.Sending.Anew.{write_preset, write_clear}
use Rattle.sending.specs.Chain.{mode_in_lem}
use Rattle.hosts.specs.Loaded.{sender_of, loaded, on_more, passed, flags, closed, Host}
use Rattle.history.specs.Sending.Stories.{ended, still, writes, ticking}
use Rattle.hosts.proofs.Steps.{ahead, none_leaves, none_passes, opening}
use Rattle.hosts.proofs.Line.{skip_loaded, skip_passed, tick_loaded, tick_passed, kept, ended_none}
use Rattle.hosts.proofs.Line.{flags_swap}
use Rattle.hosts.proofs.Line.{every_host}
use Rattle.aborts.specs.Statement.{Followed, AbortFollowed}
use Rattle.aborts.proofs.Abort.{cut}

abbrev frame_ahead : Which → Chip → List Event → List Bool
frame_ahead w c ys = flags (passed w c ys) ++ frame (loaded w c ys)

-- k ones are left, the check is preset and the latch cleared
abbrev cut_off : ℕ → ℕ → Option ℕ → Framer
cut_off k r b = framer (Abort k) (insertion r false) (shared b false ones)

record Rest (w : Which) (c : Chip) (ys : List Event) (k : ℕ) : Type 0 where
  pub rest : List Bool
  pub whole : line_of w c ys ++ rest ≡ replicate k true ++ frame_ahead w c ys
  pub none : closed w (after c ys) ≡ true → rest ≡ []

skip_ahead : (w : Which) (c : Chip) (x : Event) (ys : List Event)
    → (passed w c (x ∷ ys) ≡ passed w (happens c x).chip ys)
    → (loaded w c (x ∷ ys) ≡ loaded w (happens c x).chip ys)
    → frame_ahead w c (x ∷ ys) ≡ frame_ahead w (happens c x).chip ys
skip_ahead w c x ys p l = λ i. flags (p i) ++ frame (l i)

frame_is : (bytes : List ℕ) → flag_bits ++ come.closed 0 ones [] bytes ≡ frame bytes
unfolding come.closed
frame_is bytes = refl

-- an event that is no tick adds nothing
past : (w : Which) (c : Chip) (x : Event) (ys : List Event) (k : ℕ) → is_tick w x ≡ false
    → Rest w (happens c x).chip ys k → Rest w c (x ∷ ys) k
unfolding after
past w c x ys k z i = record {
  rest = i.rest;
  whole = ap (λ (l : List Bool). l ++ i.rest) (skip_line w c x ys z) ∙ i.whole
      ∙ ap (λ (l : List Bool). replicate k true ++ l)
      (sym (skip_ahead w c x ys (skip_passed w c x ys z) (skip_loaded w c x ys z)));
  none = i.none;
}

follow : (w : Which) {c : Chip} {ys : List Event} → Host w c ys → (k r : ℕ) (b : Option ℕ)
    → side_of w c ≡ side (cut_off k r b) good → Rest w c ys k
unfolding line_of after loaded passed flags
follow w ended k r b e = record {
  rest = replicate k true ++ frame [];
  whole = refl;
  none = λ z. void (sym (ap (λ (x : SenderSide). frame_ended x.sender) e) ∙ z);
}
follow w (still {c = c} {e = x} {st = st} q t h) k r b e =
    past w c x st k (ap ticks_by q) (follow w h k r b (t ∙ e))
follow w (writes {c = c} {v = v} {st = st} h) k r b e =
    past w c (DataWrite (number w) v) st k (write_no_tick w v)
    (follow w h k r (Some v)
    (write_side w c v
    ∙ ap (λ (y : SenderSide). side (come.filled_with y.sender v) y.heeds) e))
follow w (ticking {c = c} {st = st} z h) (suc j) r b e =
    let d = (happens c (Transmit (number w))).chip in
    let x = shared b false ones in
    let was : sender_of w c ≡ cut_off (suc j) r b = ap (λ (y : SenderSide). y.sender) e in
    let heeds = ap (λ (y : SenderSide). y.heeds) e in
    let t : ticked_of w c ≡ sent_bit true (Abort j) not_counted x =
    ap (tick_sdlc come.good) was ∙ tick_abort come.good x j r in
    let y : side_of w d ≡ side (cut_off j 0 b) good =
    tick_side w c heeds ∙ ap (λ (q : Framed). side q.framer good) t in
    let is : sender_of w d ≡ cut_off j 0 b = ap (λ (q : SenderSide). q.sender) y in
    let i = follow w h j 0 b y in
    let p =
    tick_passed w c st (cut_off (suc j) r b) was
    ∙ ap (λ (q : Bool). on_more q (passed w d st))
    (none_passes false (is_some b) false (λ l. refl)) in
    let l = tick_loaded w c st (cut_off (suc j) r b) (cut_off j 0 b) was is
    ∙ ap (λ (q : List ℕ). q ++ loaded w d st) (none_leaves (is_some b) (unwrap_or b 0)) in
    record {
      rest = i.rest;
      whole =
          ap (λ (q : List Bool). (q ++ line_of w d st) ++ i.rest)
          (tick_bit w c heeds ∙ ap (λ (q : Framed). q.bit ∷ []) t)
          ∙ ap (λ (q : List Bool). true ∷ q)
          (i.whole ∙ ap (λ (q : List Bool). replicate j true ++ q)
          (sym (skip_ahead w c (Transmit (number w)) st p l)));
      none = i.none;
    }
follow w (ticking {c = c} {st = st} z h) zero r b e =
    let d = (happens c (Transmit (number w))).chip in
    let x = shared b false ones in
    let was : sender_of w c ≡ cut_off 0 r b = ap (λ (y : SenderSide). y.sender) e in
    let heeds = ap (λ (y : SenderSide). y.heeds) e in
    let t : ticked_of w c ≡ sent_bit false (Flag 7) not_counted x =
    ap (tick_sdlc come.good) was ∙ tick_chooses come.good r x (Abort 0) refl
    ∙ next_abort come.good r x refl 0 in
    let flag = framer (Flag 7) not_counted x in
    let y : side_of w d ≡ side flag good =
    tick_side w c heeds ∙ ap (λ (q : Framed). side q.framer good) t in
    let is : sender_of w d ≡ flag = ap (λ (q : SenderSide). q.sender) y in
    let i = kept w h flag y (opening 7 b ones) in
    let p =
    tick_passed w c st (cut_off 0 r b) was
    ∙ ap (λ (q : Bool). on_more q (passed w d st))
    (none_passes false (is_some b) false (λ l. refl)) in
    let l =
    tick_loaded w c st (cut_off 0 r b) flag was is
    ∙ ap (λ (q : List ℕ). q ++ loaded w d st) (none_leaves (is_some b) (unwrap_or b 0)) in
    let more = ahead i.last 0 [] in
    record {
      rest = more;
      whole =
          ap (λ (q : List Bool). (q ++ line_of w d st) ++ more)
          (tick_bit w c heeds ∙ ap (λ (q : Framed). q.bit ∷ []) t)
          ∙ ap (λ (q : List Bool). false ∷ q) i.whole
          ∙ flags_swap (passed w d st) (come.closed 0 ones [] (loaded w d st))
          ∙ ap (λ (q : List Bool). flags (passed w d st) ++ q) (frame_is (loaded w d st))
          ∙ sym (skip_ahead w c (Transmit (number w)) st p l);
      none =
          λ q. (ended_none i.going
          (sym (ap (λ (y : SenderSide). frame_ended y.sender) i.there) ∙ q)).0;
    }

-- a chip whose abort has k ones left, with the check preset and the latch cleared
pub followed : (w : Which) (c : Chip) (k r : ℕ) (b : Option ℕ) (ys : List Event)
    → side_of w c ≡ side (cut_off k r b) good
    → Host w c ys → Followed w c k ys
followed w c k r b ys e h =
    let i = follow w h k r b e in
    record {
      begun =
          sym (take_at (line_of w c ys) i.rest (ticks w ys) (line_length w c ys))
          ∙ ap (take (ticks w ys)) i.whole;
      whole =
          λ z. sym (ap (λ (l : List Bool). line_of w c ys ++ l) (i.none z)
          ∙ append-nil (line_of w c ys)) ∙ i.whole;
    }

pub after_abort : AbortFollowed
unfolding after
after_abort w c p xs ys v k q h =
    let d = (happens (after c xs) (ControlWrite (number w) v)).chip in
    let m = (happens d (ControlWrite (number w) preset_sent)).chip in
    let n = (happens m (ControlWrite (number w) clear_underrun)).chip in
    let x = write_preset w d q in
    let y = write_clear w m x.pointer in
    let o = every_host w c p xs k.start k.host in
    let a = cut w c p xs v k in
    let was = (chan w d).sender in
    let mode : mode_in (chan w d).registers ≡ Sdlc =
    mode_in_lem (chan w d) (good_of (sending_in (chan w d)) (a.2 ∙ o.heeds)) in
    let preset = check_preset (mode_in (chan w d).registers) was in
    let s : (chan w n).sender ≡ latch_cleared preset = y.sender ∙ ap latch_cleared x.sender in
    let g : heeded (sending_in (chan w n)) ≡ good =
    ap heeded (y.settings ∙ x.settings) ∙ a.2 ∙ o.heeds in
    let set : framer_of (latch_cleared preset)
    ≡ cut_off 8 was.insertion.run was.shared.buffer =
    λ i. framer (a.0 i) (insertion was.insertion.run (a.1 i))
    (shared was.shared.buffer false (preset_for (mode i))) in
    followed w n 8 was.insertion.run was.shared.buffer ys
    (λ i. side ((ap framer_of s ∙ set) i) (g i)) h
