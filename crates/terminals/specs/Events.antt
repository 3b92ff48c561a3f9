-- The chip meets the receiving side: what a receive tick and a data read of a channel do to it.
-- Assumes nothing.
use Rattle.std.specs.Prelude.{◌≡◌, Bool, true, false, List, [], ◌∷◌, ◌++◌, if◌then◌else◌}
use Rattle.std.proofs.Math.Path.{refl}
use Rattle.std.proofs.Common.{ap, ◌∙◌}
use Rattle.common.specs.Mode.{in_blocks}
use Rattle.queue.specs.Queue.{taken}
use Rattle.bytesync.specs.declared.Matched.{Matched}
use Rattle.bytesync.specs.Hearing.{hear_block}
use Rattle.blocks.specs.Heard.{Moment, heeding}
use Rattle.blocks.specs.Characters as characters
use Rattle.receiver.specs.declared.Receiving.{Receiving}
use Rattle.receiver.specs.declared.Receiver.{Receiver}
use Rattle.receiver.specs.declared.Heard.{Heard}
use Rattle.receiver.specs.Receiver.{silent, by_matched, dropped, hear}
use Rattle.receiver.specs.Laws.Tick.{blocks_heard, hear_blocks}
use Rattle.channel.specs.declared.Channel.{Channel}
use Rattle.channel.specs.Channel.{settled}
use Rattle.channel.specs.Events.{queued, receive_tick}
use Rattle.chip.specs.declared.Chip.{Chip}
use Rattle.chip.specs.Event.{Event}
use Rattle.stories.specs.Story.{Which, chan, happens}
use Rattle.stories.specs.Received.{ToReceiver, Hears, Reads, Else, to_receiver, bit_in, bits_of}
use Rattle.history.specs.Receiving.Events.{FollowsIn, follows_in}
use Rattle.history.specs.Receiving.Side.{receiving_in}
use Rattle.terminals.specs.Side.{Heeded, heeded, Side, side, part, side_in, side_of}
use Rattle.terminals.specs.Side.{checking_of, moment_in, moments_of}

-- off: the receiver is dropped
pub hear_off : (g : Receiving) (s : Receiver) (b : Bool) → in_blocks g.mode ≡ true → g.on ≡ false
    → hear g s b ≡ silent (dropped s true false)
hear_off g s b e o =
    blocks_heard g s b e
    ∙ ap (λ (x : Bool). if x then by_matched s (hear_block g.matching s.reception s.check b)
    else silent (dropped s true false)) o

abbrev pub matched_by : Bool → Bool → Side → Matched
matched_by i b x = hear_block (heeding x.heeds.matching i) x.reception x.check b

abbrev pub heard_side : Bool → Bool → Side → Side
heard_side i b x =
    let h = matched_by i b x in
    side h.reception h.check (queued x.queue h.entry) x.heeds

abbrev pub read_side : Side → Side
read_side x = side x.reception x.check (taken x.queue) x.heeds

-- what an event's role says of the side behind it
abbrev pub Follows : Which → Chip → Chip → ToReceiver → Type 0
Follows w c d r =
    FollowsIn part (λ b. heard_side (checking_of w c) b (side_of w c)) (chan w c) (chan w d) r

-- Monosync or Bisync, and on
pub record Hearing (h : Heeded) : Type 0 where
  pub mode : in_blocks h.mode ≡ true
  pub on : h.on ≡ true

heard_in_lem : (c : Channel) (b : Bool) → Hearing (side_in c).heeds
    → side_in (receive_tick c b) ≡ heard_side (receiving_in c).matching.checking b (side_in c)
unfolding receive_tick settled
heard_in_lem c b h =
    let g = receiving_in c in
    ap (λ (x : Heard).
    side x.receiver.reception x.receiver.check (queued c.queue x.entry) (heeded g))
    (hear_blocks g c.receiver b h.mode h.on)

pub follows : (w : Which) (c : Chip) (e : Event) → Hearing (side_of w c).heeds
    → Follows w c (happens c e).chip (to_receiver w e)
follows w c e h =
    follows_in part (λ b. heard_side (checking_of w c) b (side_of w c)) w c
    (λ b. heard_in_lem (chan w c) b h) e

-- a story's moments have its bits
moment_bits : (i : Bool) (r : ToReceiver) (ts : List Moment) (bs : List Bool)
    → characters.bits_of ts ≡ bs → characters.bits_of (moment_in i r ++ ts) ≡ bit_in r ++ bs
unfolding characters.bits_of
moment_bits i (Hears b) ts bs e = ap (λ (l : List Bool). b ∷ l) e
moment_bits i Reads ts bs e = e
moment_bits i Else ts bs e = e

pub moments_bits : (w : Which) (c : Chip) (st : List Event)
    → characters.bits_of (moments_of w c st) ≡ bits_of w st
unfolding bits_of moments_of
moments_bits w c [] = unfold characters.bits_of in refl
moments_bits w c (e ∷ st) =
    let d = (happens c e).chip in
    moment_bits (checking_of w c) (to_receiver w e) (moments_of w d st) (bits_of w st)
    (moments_bits w d st)
