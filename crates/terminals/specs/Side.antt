-- The receiving side of a channel in Monosync and Bisync: its part of the receiver, the check, the
-- queue, and what registers and lines say to it, WR3 D3 apart, which the host may change from tick
-- to tick. Assumes nothing.
use Rattle.std.specs.Prelude.{Bool, false, List, [], ◌∷◌, ◌++◌, ℕ}
use Rattle.common.specs.declared.Mode.{Mode}
use Rattle.queue.specs.declared.Queue.{Queue}
use Rattle.bytesync.specs.declared.Matching.{Matching}
use Rattle.bytesync.specs.declared.Reception.{Reception}
use Rattle.blocks.specs.Heard.{Moment, moment, heeding}
use Rattle.receiver.specs.declared.Receiver.{Receiver}
use Rattle.receiver.specs.declared.Receiving.{Receiving}
use Rattle.channel.specs.declared.Channel.{Channel}
use Rattle.chip.specs.declared.Chip.{Chip}
use Rattle.chip.specs.Event.{Event}
use Rattle.stories.specs.Story.{Which, chan, happens}
use Rattle.stories.specs.Received.{ToReceiver, Hears, Reads, Else, to_receiver}
use Rattle.history.specs.Receiving.Side.{receiving_in}

-- what the two modes heed of the settings; WR3 D3 stands as clear
pub record Heeded : Type 0 where
  pub mode : Mode
  pub on : Bool
  pub matching : Matching

abbrev pub heeded : Receiving → Heeded
heeded g = record { mode = g.mode; on = g.on; matching = heeding g.matching false }

pub record Side : Type 0 where
  pub reception : Reception
  pub check : ℕ
  pub queue : Queue
  pub heeds : Heeded

abbrev pub side : Reception → ℕ → Queue → Heeded → Side
side r k q h = record { reception = r; check = k; queue = q; heeds = h }

abbrev pub part : Receiving → Receiver → Queue → Side
part g v q = side v.reception v.check q (heeded g)

abbrev pub side_in : Channel → Side
side_in c = part (receiving_in c) c.receiver c.queue

abbrev pub side_of : Which → Chip → Side
side_of w c = side_in (chan w c)

-- WR3 D3
abbrev pub checking_of : Which → Chip → Bool
checking_of w c = (receiving_in (chan w c)).matching.checking

-- the receive ticks of a story, each with WR3 D3 as it is then
abbrev pub moment_in : Bool → ToReceiver → List Moment
moment_in i (Hears b) = moment i b ∷ []
moment_in i Reads = []
moment_in i Else = []

unfoldable pub moments_of : Which → Chip → List Event → List Moment
moments_of w c [] = []
moments_of w c (e ∷ st) =
    moment_in (checking_of w c) (to_receiver w e) ++ moments_of w (happens c e).chip st
