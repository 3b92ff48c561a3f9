-- The sender's side of a channel in Monosync and Bisync: its part of the sender, and what the two
-- modes heed of its settings. Assumes nothing.
use Rattle.std.specs.Prelude.{◌≡◌, Bool, true, false}
use Rattle.common.specs.Mode.{in_blocks}
use Rattle.common.specs.declared.Mode.{Mode}
use Rattle.bytesync.specs.declared.Syncing.{Syncing}
use Rattle.blocks.specs.Come.{Sends, sends}
use Rattle.blocks.specs.Come as come
use Rattle.sender.specs.declared.Sender.{Sender}
use Rattle.sender.specs.declared.Sending.{Sending}
use Rattle.channel.specs.declared.Channel.{Channel}
use Rattle.chip.specs.declared.Chip.{Chip}
use Rattle.stories.specs.Story.{Which, chan}
use Rattle.history.specs.Sending.Side.{sending_in}

pub record Heeded : Type 0 where
  pub mode : Mode
  pub broken : Bool
  pub syncing : Syncing

abbrev pub heeded : Sending → Heeded
heeded g = record { mode = g.mode; broken = g.broken; syncing = g.syncing }

-- Monosync or Bisync, the sender on, the check included, no break
pub record Good (h : Heeded) : Type 0 where
  pub mode : in_blocks h.mode ≡ true
  pub no_break : h.broken ≡ false
  pub syncing : come.Good h.syncing

pub record SenderSide : Type 0 where
  pub sender : Sends
  pub heeds : Heeded

abbrev pub side : Sends → Heeded → SenderSide
side s h = record { sender = s; heeds = h }

abbrev pub part : Sending → Sender → SenderSide
part g s = side (sends s.block s.shared) (heeded g)

abbrev pub side_in : Channel → SenderSide
side_in c = part (sending_in c) c.sender

abbrev pub side_of : Which → Chip → SenderSide
side_of w c = side_in (chan w c)

abbrev pub syncing_of : Which → Chip → Syncing
syncing_of w c = (side_of w c).heeds.syncing
