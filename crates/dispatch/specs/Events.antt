-- What a tick and a data write do to the sender's side, and which bit a tick gives. Assumes
-- nothing.
use Rattle.std.specs.Prelude.{◌≡◌, Bool, [], ◌∷◌, ℕ}
use Rattle.std.proofs.Common.{ap, ◌∙◌}
use Rattle.bytesync.specs.declared.Synced.{Synced}
use Rattle.bytesync.specs.Sending.{tick_block}
use Rattle.blocks.specs.Come.{ticked, filled_with}
use Rattle.sender.specs.declared.Ticked.{Ticked}
use Rattle.sender.specs.Sender.{by_syncing, with_break, tick}
use Rattle.sender.specs.Laws.Tick.{tick_blocks}
use Rattle.chip.specs.declared.Chip.{Chip}
use Rattle.chip.specs.Event.{DataWrite, Transmit}
use Rattle.stories.specs.Story.{Which, number, chan, happens}
use Rattle.stories.specs.Sent.{is_tick, line_bit}
use Rattle.history.specs.Sending.Side.{sending_in}
use Rattle.history.specs.Sending.Events.{ticks_to_lem, ticks_to, tick_gives, writes_to}
use Rattle.dispatch.specs.Side.{Good, side, part, side_of}

-- what a tick makes of the modes' part
abbrev pub ticked_of : Which → Chip → Synced
ticked_of w c =
    let x = side_of w c in tick_block x.heeds.syncing x.sender.unit x.sender.shared

tick_syncs : (w : Which) (c : Chip) → Good (side_of w c).heeds
    → tick (sending_in (chan w c)) (chan w c).sender ≡ by_syncing (chan w c).sender (ticked_of w c)
tick_syncs w c h =
    let s = (chan w c).sender in
    tick_blocks (sending_in (chan w c)) s h.mode
    ∙ ap (λ (b : Bool). with_break b (by_syncing s (ticked_of w c))) h.no_break

pub tick_side : (w : Which) (c : Chip) → Good (side_of w c).heeds
    → let x = side_of w c in
    side_of w (happens c (Transmit (number w))).chip
    ≡ side (ticked x.heeds.syncing x.sender) x.heeds
tick_side w c h = ticks_to_lem part w c ∙ ap (ticks_to part w c) (tick_syncs w c h)

pub tick_bit : (w : Which) (c : Chip) → Good (side_of w c).heeds
    → line_bit (is_tick w (Transmit (number w))) (happens c (Transmit (number w))).answer
    ≡ (ticked_of w c).bit ∷ []
tick_bit w c h = tick_gives w c ∙ ap (λ (t : Ticked). t.bit ∷ []) (tick_syncs w c h)

pub write_side : (w : Which) (c : Chip) (v : ℕ)
    → side_of w (happens c (DataWrite (number w) v)).chip
    ≡ side (filled_with (side_of w c).sender v) (side_of w c).heeds
write_side w c v = writes_to part w c v
