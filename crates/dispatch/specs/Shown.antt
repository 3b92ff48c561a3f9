-- The tick that finds the line dry sends the check's first bit and sets the latch, and RR0 D6 shows
-- it. Assumes nothing.
use Rattle.std.specs.Prelude.{◌≡◌, Bool, true, false, List, [], ◌∷◌, ◌++◌, is_some, None}
use Rattle.std.proofs.Common.{ap, ◌∙◌}
use Rattle.shared.specs.Shared.{shared}
use Rattle.shared.specs.Laws.Buffer.{buffer_empty}
use Rattle.bytesync.specs.declared.BlockUnit.TheVariants.{Byte}
use Rattle.bytesync.specs.declared.Synced.{Synced}
use Rattle.bytesync.specs.Sending.{start_check, tick_block}
use Rattle.blocks.specs.Come.{Sends, sends}
use Rattle.blocks.proofs.Laws.Come.{check_begins}
use Rattle.chip.specs.declared.Chip.{Chip}
use Rattle.chip.specs.Event.{Transmit}
use Rattle.stories.specs.Story.{Which, number, chan, happens}
use Rattle.stories.specs.Sent.{line_of}
use Rattle.shown.specs.Shown.{unlatched_shows, tick_shown, shows_read}
use Rattle.history.specs.Sending.Events.{tick_pointer}
use Rattle.dispatch.specs.Side.{SenderSide, side_of}
use Rattle.dispatch.specs.Events.{ticked_of, tick_side, tick_bit}
use Rattle.dispatch.specs.Statement.{RunsDry, LatchShown}

dry_side : (w : Which) (c : Chip) (r : RunsDry w c)
    → let k = (chan w c).sender.shared in
    (side_of w c).sender ≡ sends (Byte 0 r.last) (shared None false k.check)
dry_side w c r =
    let k = (chan w c).sender.shared in
    λ i. sends (r.byte i) (shared (buffer_empty k r.empty i) (r.cleared i) k.check)

dry_tick : (w : Which) (c : Chip) → RunsDry w c
    → let k = (chan w c).sender.shared in
    ticked_of w c ≡ start_check (shared None true k.check)
dry_tick w c r =
    let k = (chan w c).sender.shared in
    let g = (side_of w c).heeds.syncing in
    ap (λ (s : Sends). tick_block g s.unit s.shared) (dry_side w c r)
    ∙ check_begins g r.settings.syncing k.check r.last

pub latch_shown : LatchShown
unfolding line_of
latch_shown w c r =
    let t = dry_tick w c r in
    let e = tick_side w c r.settings in
    let set = ap (λ (x : SenderSide). x.sender.shared.latch) e
    ∙ ap (λ (x : Synced). x.shared.latch) t in
    record {
      line =
          ap (λ (l : List Bool). l ++ [])
          (tick_bit w c r.settings ∙ ap (λ (x : Synced). x.bit ∷ []) t);
      unit = ap (λ (x : SenderSide). x.sender.unit) e ∙ ap (λ (x : Synced). x.unit) t;
      set = set;
      shown = λ n p.
          let d = (happens c (Transmit (number w))).chip in
          shows_read w d (tick_pointer w c ∙ p) set
          (tick_shown w c (unlatched_shows (chan w c).status (ap is_some n)) set);
    }
