-- 01, Registers: "An accepted WR4 that changes the mode idles the sender as after a mark, keeps
-- buffer and queue, clears D7, drops the half-received character and frame, and starts hunt in
-- SDLC.", in Monosync and in Bisync. Word by word, and what no word names is kept. Assumes nothing.
use Rattle.std.specs.Prelude.{◌≡◌, false, ℕ}
use Rattle.common.specs.Mode.{synchronous}
use Rattle.shared.specs.Shared.{full}
use Rattle.asynchronous.specs.Sending.{no_character}
use Rattle.asynchronous.specs.Hearing.{no_assembly}
use Rattle.bytesync.specs.declared.BlockUnit.TheVariants as blocks
use Rattle.bytesync.specs.Hearing.{searching}
use Rattle.sdlc.specs.declared.LineUnit.TheVariants.{Mark}
use Rattle.sdlc.specs.Sending.{not_counted}
use Rattle.sdlc.specs.Hearing.{content_at}
use Rattle.settings.specs.Settings.{store4, mode_of}
use Rattle.channel.specs.declared.Channel.{Channel}

-- WR4 is v, and the mode another than it was
pub record ModeChanged (v : ℕ) (was is : Channel) : Type 0 where
  pub registers : is.registers ≡ store4 was.registers v
  -- "idles the sender as after a mark"
  pub unit : is.sender.unit ≡ Mark
  pub nothing_owed : is.sender.insertion ≡ not_counted
  pub no_character_lem : is.sender.character ≡ no_character
  pub block : is.sender.block ≡ blocks.Mark
  -- "keeps buffer and queue", and with the queue RR1 D4 and D5
  pub buffer : is.sender.shared.buffer ≡ was.sender.shared.buffer
  pub full : full is.sender.shared ≡ full was.sender.shared
  pub queue : is.queue ≡ was.queue
  -- "clears D7"
  pub d7 : is.receiver.broken ≡ false
  -- "drops the half-received character and frame, and starts hunt in SDLC"
  pub character : is.receiver.assembly ≡ no_assembly false
  pub frame : is.receiver.content ≡ content_at (synchronous (mode_of v)) false 0
  pub block_heard : is.receiver.reception ≡ searching (synchronous (mode_of v))
  -- kept: D6, both checks, the armed flag, the source pending by a load, the lines
  pub d6 : is.sender.shared.latch ≡ was.sender.shared.latch
  pub sent : is.sender.shared.check ≡ was.sender.shared.check
  pub heard : is.receiver.check ≡ was.receiver.check
  pub armed : is.armed ≡ was.armed
  pub transmit : is.transmit ≡ was.transmit
  pub lines : is.lines ≡ was.lines

-- WR4 is v, and the mode the same: nothing is cut short or dropped
pub record ModeKept (v : ℕ) (was is : Channel) : Type 0 where
  pub registers : is.registers ≡ store4 was.registers v
  pub sender : is.sender ≡ was.sender
  pub receiver : is.receiver ≡ was.receiver
  pub queue : is.queue ≡ was.queue
  pub armed : is.armed ≡ was.armed
  pub transmit : is.transmit ≡ was.transmit
  pub lines : is.lines ≡ was.lines
