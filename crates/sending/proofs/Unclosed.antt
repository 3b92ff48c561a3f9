-- Whoever sees a whole frame on the line reads D6 as 1: while the latch is clear the line holds no
-- closed frame. Assumes nothing.
use Rattle.std.specs.Prelude.{◌≡◌, Bool, true, false, List, [], ◌∷◌, ◌++◌, ℕ, ◌-◌, ◌≤◌, None}
use Rattle.std.proofs.Math.Path.{refl}
use Rattle.std.proofs.Common.{sym, ap, ◌∙◌, append_assoc, arith}
use Rattle.std.proofs.lemmas.List.{append_cancel_left}
use Rattle.common.specs.Tools.{bool_or, void}
use Rattle.line.specs.Check.{ones}
use Rattle.line.specs.Insertion.{stuff}
use Rattle.line.specs.Frame.{flag_bits, content_of, frame}
use Rattle.sdlc.specs.declared.Framer.{Framer}
use Rattle.sdlc.specs.declared.Framed.{Framed}
use Rattle.sdlc.specs.Sending.{framed, tick_sdlc}
use Rattle.chip.specs.declared.Chip.{Chip}
use Rattle.chip.specs.Event.{Event, DataWrite, Transmit}
use Rattle.whole.specs.Come.{flag_tail, filled_with, opens}
use Rattle.whole.specs.Start.{started, flag_head}
use Rattle.whole.specs.Laws.Start.{head_tail}
use Rattle.whole.specs.Laws.Unclosed.{unclosed, frame_closed, ones_in, bits_in, Opened, in_flag, Goes}
use Rattle.whole.specs.Laws.Unclosed.{goes, shuts, tick_goes, opened_filled, tail_passes}
use Rattle.stories.specs.Story.{Which, number, chan, happens, after}
use Rattle.stories.specs.Sent.{ticks_by, line_of, d6}
use Rattle.history.specs.Sending.Side.{good, good_heeded, SenderSide, side, sending_in, side_of}
use Rattle.history.specs.Sending.Side.{latch_of}
use Rattle.timely.specs.Start.{Start, start_side}
use Rattle.sending.specs.Statement.{Watched, FrameSeen}
use Rattle.history.specs.Sending.Events.{ticked_of, tick_side, tick_bit, write_side, write_no_tick}
use Rattle.history.specs.Sending.Events.{skip_line}
use Rattle.shown.specs.Shown.{shows_read}
use Rattle.sending.proofs.Underrun.{heeds_of, tick_heeds, write_heeds, tick_latch, write_latch}
use Rattle.sending.proofs.Underrun.{Seen, watched_seen, shown}
use Rattle.whole.specs.Come as come
use Rattle.history.specs.Sending.Stories as hosts
use Rattle.sending.proofs.Underrun as underruns

-- the latch, once set, is set at the end
stays_set : (w : Which) {c : Chip} {st : List Event} → Watched w c st → heeds_of w c ≡ good
    → latch_of w c ≡ true → latch_of w (after c st) ≡ true
unfolding after
stays_set w hosts.ended e l = l
stays_set w (hosts.still r k f) e l =
    stays_set w f (ap (λ (x : SenderSide). x.heeds) k ∙ e)
    (ap (λ (x : SenderSide). x.sender.shared.latch) k ∙ l)
stays_set w (hosts.writes {c = c} {v = v} f) e l = stays_set w f (write_heeds w c v e)
    (write_latch w c v ∙ l)
stays_set w (hosts.ticking {c = c} u f) e l = stays_set w f (tick_heeds w c e) (tick_latch w c e l)

-- a tick, from what is so behind it
tick_unclosed : (w : Which) (c : Chip) (st : List Event) (s : Framer) (o g : ℕ)
    → side_of w c ≡ side s good → Goes s o g
    → let d = (happens c (Transmit (number w))).chip in
    ((t : Framer) (p q : ℕ) → side_of w d ≡ side t good → Opened t p q
    → unclosed p q (line_of w d st) ≡ true)
    → (latch_of w d ≡ true → ⊥) → unclosed o g (line_of w c (Transmit (number w) ∷ st)) ≡ true
unfolding line_of
tick_unclosed w c st s o g e (goes bit loaded t p q a m n) i z =
    let h = ap (λ (x : SenderSide). x.heeds) e in
    let d = (happens c (Transmit (number w))).chip in
    let r : ticked_of w c ≡ framed bit loaded t =
    ap (λ (x : SenderSide). tick_sdlc come.good x.sender) e ∙ a in
    ap (λ (b : List Bool). unclosed o g (b ++ line_of w d st))
    (tick_bit w c h ∙ ap (λ (x : Framed). x.bit ∷ []) r)
    ∙ n (line_of w d st)
    ∙ i t p q (tick_side w c h ∙ ap (λ (x : Framed). side x.framer good) r) m
tick_unclosed w c st s o g e (shuts l) i z =
    absurd (z (ap (λ (x : SenderSide). x.sender.shared.latch)
    (tick_side w c (ap (λ (x : SenderSide). x.heeds) e))
    ∙ ap (λ (x : SenderSide). (tick_sdlc come.good x.sender).framer.shared.latch) e ∙ l))

-- a story that ends with the latch clear closes no frame
story_unclosed : (w : Which) {c : Chip} {st : List Event} → Watched w c st → (s : Framer) (o g : ℕ)
    → side_of w c ≡ side s good → Opened s o g
    → latch_of w (after c st) ≡ false → unclosed o g (line_of w c st) ≡ true
unfolding after line_of
story_unclosed w hosts.ended s o g e k z = unfold unclosed in refl
story_unclosed w (hosts.still {c = c} {e = x} {st = st} r q f) s o g e k z =
    ap (unclosed o g) (skip_line w c x st (ap ticks_by r)) ∙ story_unclosed w f s o g (q ∙ e) k z
story_unclosed w (hosts.writes {c = c} {v = v} {st = st} f) s o g e k z =
    ap (unclosed o g) (skip_line w c (DataWrite (number w) v) st (write_no_tick w v))
    ∙ story_unclosed w f (filled_with s v) o g
    (write_side w c v ∙ ap (λ (x : SenderSide). side (filled_with x.sender v) x.heeds) e)
    (opened_filled v k) z
story_unclosed w (hosts.ticking {c = c} {st = st} u f) s o g e k z =
    let h : heeds_of w c ≡ good = ap (λ (x : SenderSide). x.heeds) e in
    tick_unclosed w c st s o g e (tick_goes k) (λ t p q a m. story_unclosed w f t p q a m z)
    (λ l. void (sym z ∙ stays_set w f (tick_heeds w c h) l))

-- The line that is a frame

latch_set : (w : Which) (c : Chip) (p : ℕ) (st : List Event) (note : List ℕ) → Start w c p
    → Watched w c st → flag_head p ++ line_of w c st ≡ frame note
    → latch_of w (after c st) ≡ true
latch_set w c p st note s f e =
    bool_or (latch_of w (after c st)) (λ l. l)
    (λ z.
    let n = 8 - p in
    let rest = stuff 0 (content_of note) ++ flag_bits in
    let cut : line_of w c st ≡ flag_tail n ++ rest =
    append_cancel_left (flag_head p) (line_of w c st) (flag_tail n ++ rest)
    (e ∙ ap (λ (x : List Bool). x ++ rest) (sym (head_tail p s.some s.inside))
    ∙ append_assoc (flag_head p) (flag_tail n) rest) in
    let l : n ≤ 7 = omega (arith, s.some) in
    let open-line =
    story_unclosed w f (started p) (ones_in n) (bits_in n) (start_side w c p s)
    (in_flag n None ones l) z in
    void (sym (frame_closed note) ∙ sym (tail_passes n l rest)
    ∙ ap (unclosed (ones_in n) (bits_in n)) (sym cut) ∙ open-line))

pub frame_seen : FrameSeen
frame_seen w c p st note s f q e =
    go (watched_seen w f (good_heeded (sending_in (chan w c)) s.settings)
    (underruns.unclosed (s.cleared, ap opens s.flag)))
  where
    go : Seen w (after c st) → d6 w (after c st) ≡ true
    go (underruns.unclosed n) = void (sym n.0 ∙ latch_set w c p st note s f e)
    go (shown l h) = shows_read w (after c st) q l h
