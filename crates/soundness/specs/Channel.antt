-- What only a channel with a history has: its parts are such as a history gives them, and the
-- pointer names one of eight registers. Assumes nothing.
use Rattle.std.specs.Prelude.{ℕ, ◌≤◌}
use Rattle.queue.specs.declared.Queue.{Queue}
use Rattle.queue.specs.Holding.{SoundQueue}
use Rattle.sender.specs.declared.Sender.{Sender}
use Rattle.sender.specs.Sound.{SoundSender}
use Rattle.receiver.specs.declared.Receiver.{Receiver}
use Rattle.receiver.specs.Sound.{SoundReceiver}
use Rattle.channel.specs.declared.Channel.{Channel}

pub record SoundParts (s : Sender) (r : Receiver) (q : Queue) (named : ℕ) : Type 0 where
  pub sender : SoundSender s
  pub receiver : SoundReceiver r
  pub queue : SoundQueue q
  pub pointer : named ≤ 7

abbrev pub SoundChannel : Channel → Type 0
SoundChannel c = SoundParts c.sender c.receiver c.queue c.pointer
