-- What the three kinds of event are to the sender's side, and to its line: a tick, a data write,
-- and anything else. Assumes nothing.
use Rattle.std.specs.Prelude.{◌≡◌, Bool, true, false, List, [], ◌∷◌, ◌++◌, ℕ, suc, length}
use Rattle.std.proofs.Math.Path.{refl}
use Rattle.std.proofs.Common.{sym, ap, ◌∙◌, append_assoc, arith, length-append}
use Rattle.line.specs.Bits.{one_if}
use Rattle.sdlc.specs.declared.Framed.{Framed}
use Rattle.sdlc.specs.Sending.{tick_sdlc}
use Rattle.sender.specs.declared.Sender.{Sender}
use Rattle.sender.specs.declared.Sending.{Sending}
use Rattle.sender.specs.declared.Ticked.{Ticked}
use Rattle.sender.specs.Sender.{framer_of, by_framer, with_break, tick, written}
use Rattle.sender.specs.Laws.Tick.{tick_sdlc_lem}
use Rattle.channel.specs.Channel.{settled}
use Rattle.channel.specs.Events.{transmit_tick}
use Rattle.chip.specs.declared.Chip.{Chip}
use Rattle.chip.specs.Chip.{on_level, data_write_call, transmit_call}
use Rattle.chip.specs.Event.{Event, DataWrite, Transmit}
use Rattle.whole.specs.Come.{filled_with}
use Rattle.stories.specs.Story.{Which, A, B, number, chan, happens, after}
use Rattle.stories.specs.Sent.{ToSender, ticks_by, is_tick, line_bit, line_of, ticks}
use Rattle.history.specs.Quiet.{part_in}
use Rattle.history.specs.Sending.Side.{Heeded, good, side, sending_in, part, side_of}
use Rattle.history.specs.Sending.Side.{View, its_tick, its_write, other, view}
use Rattle.history.specs.Sending.Quiet.{sent_part}
use Rattle.whole.specs.Come as come

-- what a tick makes of SDLC's part
abbrev pub ticked_of : Which → Chip → Framed
ticked_of w c = tick_sdlc come.good (side_of w c).sender

tick_frames : (w : Which) (c : Chip) → (side_of w c).heeds ≡ good
    → tick (sending_in (chan w c)) (chan w c).sender ≡ by_framer (chan w c).sender (ticked_of w c)
tick_frames w c e =
    let g = sending_in (chan w c) in
    let s = (chan w c).sender in
    tick_sdlc_lem g s (ap (λ (h : Heeded). h.mode) e)
    ∙ ap (λ (h : Heeded). with_break h.broken (by_framer s (tick_sdlc h.framing (framer_of s)))) e

-- a tick, for every part that the sender and what it is told say
abbrev pub ticks_to : {X : Type 0} → (Sending → Sender → X) → Which → Chip → Ticked → X
ticks_to f w c t = f (sending_in (chan w c)) t.sender

pub ticks_to_lem : {X : Type 0} (f : Sending → Sender → X) (w : Which) (c : Chip)
    → part_in (sent_part f) (chan w (happens c (Transmit (number w))).chip)
    ≡ ticks_to f w c (tick (sending_in (chan w c)) (chan w c).sender)
unfolding transmit_call transmit_tick settled
ticks_to_lem f A c = refl
ticks_to_lem f B c = refl

pub tick_pointer : (w : Which) (c : Chip)
    → (chan w (happens c (Transmit (number w))).chip).pointer ≡ (chan w c).pointer
unfolding transmit_call transmit_tick settled
tick_pointer A c = refl
tick_pointer B c = refl

pub tick_side : (w : Which) (c : Chip) → (side_of w c).heeds ≡ good
    → side_of w (happens c (Transmit (number w))).chip ≡ side (ticked_of w c).framer good
tick_side w c e =
    ticks_to_lem part w c ∙ ap (ticks_to part w c) (tick_frames w c e)
    ∙ ap (side (ticked_of w c).framer) e

level_bit : (b : Bool) → on_level (one_if b) ≡ b
level_bit true = refl
level_bit false = refl

pub tick_gives : (w : Which) (c : Chip)
    → line_bit (is_tick w (Transmit (number w))) (happens c (Transmit (number w))).answer
    ≡ (tick (sending_in (chan w c)) (chan w c).sender).bit ∷ []
unfolding transmit_call transmit_tick
tick_gives A c =
    ap (λ (b : Bool). b ∷ []) (level_bit (tick (sending_in c.a) c.a.sender).bit)
tick_gives B c =
    ap (λ (b : Bool). b ∷ []) (level_bit (tick (sending_in c.b) c.b.sender).bit)

pub tick_bit : (w : Which) (c : Chip) → (side_of w c).heeds ≡ good
    → line_bit (is_tick w (Transmit (number w))) (happens c (Transmit (number w))).answer
    ≡ (ticked_of w c).bit ∷ []
tick_bit w c e = tick_gives w c ∙ ap (λ (t : Ticked). t.bit ∷ []) (tick_frames w c e)

pub tick_counts : (w : Which) → is_tick w (Transmit (number w)) ≡ true
tick_counts A = refl
tick_counts B = refl

pub tick_more : (w : Which) (st : List Event)
    → ticks w (Transmit (number w) ∷ st) ≡ suc (ticks w st)
unfolding ticks
tick_more w st = rw (tick_counts w) (omega arith)

-- a write, likewise
pub writes_to : {X : Type 0} (f : Sending → Sender → X) (w : Which) (c : Chip) (v : ℕ)
    → part_in (sent_part f) (chan w (happens c (DataWrite (number w) v)).chip)
    ≡ f (sending_in (chan w c)) (written (chan w c).sender v)
unfolding data_write_call
writes_to f A c v = refl
writes_to f B c v = refl

pub write_side : (w : Which) (c : Chip) (v : ℕ)
    → side_of w (happens c (DataWrite (number w) v)).chip
    ≡ side (filled_with (side_of w c).sender v) (side_of w c).heeds
write_side w c v = writes_to part w c v

pub write_no_tick : (w : Which) (v : ℕ) → is_tick w (DataWrite (number w) v) ≡ false
write_no_tick A v = refl
write_no_tick B v = refl

-- an event that is no tick gives no bit and counts for none
pub skip_line : (w : Which) (c : Chip) (x : Event) (st : List Event) → is_tick w x ≡ false
    → line_of w c (x ∷ st) ≡ line_of w (happens c x).chip st
unfolding line_of
skip_line w c x st z =
    ap (λ (t : Bool). line_bit t (happens c x).answer ++ line_of w (happens c x).chip st) z

pub skip_ticks : (w : Which) (x : Event) (st : List Event) → is_tick w x ≡ false
    → ticks w (x ∷ st) ≡ ticks w st
unfolding ticks
skip_ticks w x st z = let h : one_if (is_tick w x) ≡ 0 = ap one_if z in omega arith

-- Lengths and joins

-- a story has as many line bits as ticks
bit_length : (w : Which) (c : Chip) (e : Event)
    → length (line_bit (is_tick w e) (happens c e).answer) ≡ one_if (is_tick w e)
bit_length w c e = go w (view w e)
  where
    go : (w : Which) {e : Event} {r : ToSender} → View w e r
        → length (line_bit (ticks_by r) (happens c e).answer) ≡ one_if (ticks_by r)
    go A its_tick = unfold transmit_call transmit_tick in refl
    go B its_tick = unfold transmit_call transmit_tick in refl
    go w its_write = refl
    go w other = refl

pub line_length : (w : Which) (c : Chip) (st : List Event) → length (line_of w c st) ≡ ticks w st
unfolding line_of ticks
line_length w c [] = refl
line_length w c (e ∷ st) =
    omega (
      arith,
      length-append (line_bit (is_tick w e) (happens c e).answer)
          (line_of w (happens c e).chip st),
      bit_length w c e,
      line_length w (happens c e).chip st,
    )

pub line_join : (w : Which) (c : Chip) (xs ys : List Event)
    → line_of w c (xs ++ ys) ≡ line_of w c xs ++ line_of w (after c xs) ys
unfolding line_of after
line_join w c [] ys = refl
line_join w c (x ∷ xs) ys =
    ap (λ (l : List Bool). line_bit (is_tick w x) (happens c x).answer ++ l)
    (line_join w (happens c x).chip xs ys)
    ∙ sym (append_assoc (line_bit (is_tick w x) (happens c x).answer)
    (line_of w (happens c x).chip xs) (line_of w (after (happens c x).chip xs) ys))
