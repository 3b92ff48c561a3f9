-- Most ticks, in a form of their own: inside a byte of SDLC, Monosync or Bisync a transmit tick
-- changes nothing but the sender, and inside a character a receive tick nothing but the receiver.
-- Assumes nothing.
use Rattle.std.specs.Prelude.{◌≡◌, refl, Bool, true, false, not, ◌&&◌, ◌||◌}
use Rattle.std.proofs.Common.{sym, ap, ◌∙◌}
use Rattle.common.specs.Mode.{in_sdlc, in_blocks}
use Rattle.common.specs.Tools.{both_left, both_right, not_true}
use Rattle.line.specs.Bits.{one_if}
use Rattle.bytesync.specs.Sending.{tick_block}
use Rattle.bytesync.specs.Within as blocks
use Rattle.bytesync.specs.Laws.Within as blocks-laws
use Rattle.sdlc.specs.declared.Listened.{Listened}
use Rattle.sdlc.specs.Sending.{tick_sdlc}
use Rattle.sdlc.specs.Within.{within, tick_within, hears_on, moved_on}
use Rattle.sdlc.specs.Laws.Within.{sdlc_within, within_loaded, within_latch, inside, hear_within}
use Rattle.sender.specs.declared.Sender.{Sender}
use Rattle.sender.specs.declared.Sending.{Sending}
use Rattle.sender.specs.declared.Ticked.{Ticked}
use Rattle.sender.specs.Sender.{framer_of, by_framer, by_syncing, with_break, tick}
use Rattle.sender.specs.Laws.Tick.{tick_sdlc_lem, tick_blocks}
use Rattle.receiver.specs.declared.Heard.{Heard}
use Rattle.receiver.specs.Receiver.{listener_of, listener_in, reception_in, silent, by_listener}
use Rattle.receiver.specs.Receiver.{by_matched}
use Rattle.receiver.specs.Laws.Tick.{hear_sdlc_lem, hear_blocks}
use Rattle.settings.specs.Settings.{transmit_on, breaks, mode_in, receiving_of, sending_of}
use Rattle.channel.specs.declared.Channel.{Channel}
use Rattle.channel.specs.declared.Answer.TheVariants.{Gave}
use Rattle.channel.specs.declared.Answered.{Answered}
use Rattle.channel.specs.Channel.{with_sender, with_transmit, answered, settled}
use Rattle.channel.specs.Events.{transmitted, transmit_tick, heard_by, receive_tick}
use Rattle.channel.specs.Laws.Still.{tick_still, hear_still, in_sdlc_lem}
use Rattle.ticking.specs.Within.{sends_within, within_byte, ticked_within, hears_within}
use Rattle.ticking.specs.Within.{heard_within, sends_block, within_block}
use Rattle.ticking.specs.Within.{ticked_block, hears_block, heard_block}

or_none : (a b : Bool) → (a || (false && b)) ≡ a
or_none true b = refl
or_none false b = refl

-- Sending

-- a tick that loads nothing and leaves the latch changes the sender alone
sent_still : (c : Channel) (t : Ticked) → t.loaded ≡ false
    → t.sender.shared.latch ≡ c.sender.shared.latch
    → transmitted c t ≡ answered (Gave (one_if t.bit)) (with_sender c t.sender)
sent_still c t l e =
    let on = transmit_on c.registers.wr1 in
    ap (answered (Gave (one_if t.bit))) (tick_still c t e)
    ∙ ap (λ (b : Bool). there (c.transmit || (b && on))) l
    ∙ ap there (or_none c.transmit on)
  where
    there : Bool → Answered
    there m = answered (Gave (one_if t.bit)) (with_transmit (with_sender c t.sender) m)

-- what the test says

tick_within_lem : (g : Sending) (s : Sender) → sends_within g s ≡ true
    → tick g s ≡ by_framer s (tick_within (framer_of s))
tick_within_lem g s w =
    let x = within (framer_of s) in
    let sdlc = in_sdlc g.mode in
    let rest = both_right x (not g.broken && sdlc) w in
    let off = not_true g.broken (both_left (not g.broken) sdlc rest) in
    tick_sdlc_lem g s (in_sdlc_lem g.mode (both_right (not g.broken) sdlc rest))
    ∙ ap (λ (b : Bool). with_break b (by_framer s (tick_sdlc g.framing (framer_of s)))) off
    ∙ ap (by_framer s)
    (sdlc_within g.framing (framer_of s) (both_left x (not g.broken && sdlc) w))

-- the test as the code makes it
pub inside_is : (c : Channel) → within (framer_of c.sender) ≡ true
    → (not (breaks c.registers.wr5) && in_sdlc (mode_in c.registers)) ≡ within_byte c
unfolding within_byte sending_of
inside_is c e = rw e

pub outside_is : (c : Channel) → within (framer_of c.sender) ≡ false → false ≡ within_byte c
unfolding within_byte
outside_is c e = rw e

pub within_tick : (c : Channel) → within_byte c ≡ true → transmit_tick c ≡ ticked_within c
unfolding within_byte transmit_tick ticked_within
within_tick c w =
    let s = framer_of c.sender in
    ap (transmitted c) (tick_within_lem (sending_of c.registers c.lines) c.sender w)
    ∙ sent_still c (by_framer c.sender (tick_within s)) (within_loaded s) (within_latch s)

-- the same in Monosync and Bisync
tick_block_lem : (g : Sending) (s : Sender) → sends_block g s ≡ true
    → tick g s ≡ by_syncing s (blocks.tick_within s.block s.shared)
tick_block_lem g s w =
    let x = blocks.within s.block in
    let mode = in_blocks g.mode in
    let rest = both_right x (not g.broken && mode) w in
    let off = not_true g.broken (both_left (not g.broken) mode rest) in
    tick_blocks g s (both_right (not g.broken) mode rest)
    ∙ ap (λ (b : Bool). with_break b
    (by_syncing s (tick_block g.syncing s.block s.shared))) off
    ∙ ap (by_syncing s) (blocks-laws.block_within g.syncing s.block s.shared
    (both_left x (not g.broken && mode) w))

-- the test as the code makes it
pub inside_block : (c : Channel) → blocks.within c.sender.block ≡ true
    → (not (breaks c.registers.wr5) && in_blocks (mode_in c.registers)) ≡ within_block c
unfolding within_block sending_of
inside_block c e = rw e

pub outside_block : (c : Channel) → blocks.within c.sender.block ≡ false
    → false ≡ within_block c
unfolding within_block
outside_block c e = rw e

pub block_tick : (c : Channel) → within_block c ≡ true → transmit_tick c ≡ ticked_block c
unfolding within_block transmit_tick ticked_block
block_tick c w =
    let u = c.sender.block in
    let k = c.sender.shared in
    ap (transmitted c) (tick_block_lem (sending_of c.registers c.lines) c.sender w)
    ∙ sent_still c (by_syncing c.sender (blocks.tick_within u k)) (blocks-laws.within_loaded u k)
    (blocks-laws.within_latch u k)

-- Receiving

pub receive_within : (c : Channel) (b : Bool) → hears_within c b ≡ true
    → receive_tick c b ≡ heard_within c b
unfolding hears_within receive_tick moved_on
receive_within c b w =
    let g = receiving_of c.registers c.lines in
    let s = listener_of c.receiver in
    let x = hears_on s b in
    let rest = both_right (in_sdlc g.mode) (g.on && x) w in
    let mode = in_sdlc_lem g.mode (both_left (in_sdlc g.mode) (g.on && x) w) in
    let facts = inside s b (both_right g.on x rest) in
    ap (λ (h : Heard). settled c (heard_by c h))
    (hear_sdlc_lem g c.receiver b mode (both_left g.on x rest))
    ∙ ap (λ (h : Listened). settled c (heard_by c (by_listener c.receiver h)))
    (hear_within g.addressing s b facts)
    ∙ hear_still c (silent (listener_in c.receiver (moved_on s b))) refl (sym facts.found) refl

pub block_hear : (c : Channel) (b : Bool) → hears_block c ≡ true
    → receive_tick c b ≡ heard_block c b
unfolding hears_block receive_tick
block_hear c b w =
    let g = receiving_of c.registers c.lines in
    let v = c.receiver in
    let r = v.reception in
    let x = blocks.hears_on r in
    let mode = in_blocks g.mode in
    let rest = both_right mode (g.on && x) w in
    let inside = both_right g.on x rest in
    ap (λ (h : Heard). settled c (heard_by c h))
    (hear_blocks g v b (both_left mode (g.on && x) w) (both_left g.on x rest)
    ∙ ap (by_matched v) (blocks-laws.hear_within g.matching r v.check b inside))
    ∙ hear_still c (silent (reception_in v (blocks.moved_on r b))) refl refl
    (blocks-laws.moved_hunt r b ∙ sym (blocks-laws.hears_found r inside))
