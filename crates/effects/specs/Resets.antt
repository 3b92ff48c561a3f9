-- 01, Registers: "A channel reset zeroes the WRs, empties buffer and queue, leaves no mode, sets
-- D6, clears D7 and RR1 D4 and D5, arms the first-character interrupt, presets both checks to
-- ones, ends that channel's pending and in-service sources and unlatches external status." Word
-- by word, and what is kept. Assumes nothing.
use Rattle.std.specs.Prelude.{◌≡◌, true, false, None}
use Rattle.common.specs.declared.Mode.TheVariants.{NoMode}
use Rattle.line.specs.Check.{ones}
use Rattle.shared.specs.Shared.{full}
use Rattle.queue.specs.Queue.{waits}
use Rattle.interrupts.specs.declared.Sources.{Sources}
use Rattle.interrupts.specs.Interrupts.{no_sources}
use Rattle.settings.specs.declared.Lines.{Lines}
use Rattle.settings.specs.Settings.{mode_in}
use Rattle.channel.specs.declared.Channel.{Channel}
use Rattle.channel.specs.Channel.{no_registers, live_of}
use Rattle.channel.specs.Control.{rr1_now}
use Rattle.channel.specs.Events.{pending_in}

-- a channel just reset, its lines being these, with its sources in service
pub record ResetChannel (lines : Lines) (is : Channel) (served : Sources) : Type 0 where
  -- "zeroes the WRs"
  pub registers : is.registers ≡ no_registers
  -- "empties buffer and queue"
  pub buffer : full is.sender.shared ≡ false
  pub queue : waits is.queue ≡ false
  -- "leaves no mode"
  pub mode : mode_in is.registers ≡ NoMode
  -- "sets D6, clears D7 and RR1 D4 and D5": RR1 reads 1, for all is sent
  pub d6 : (live_of is).underrun ≡ true
  pub d7 : (live_of is).abort ≡ false
  pub rr1 : rr1_now is ≡ 1
  -- "arms the first-character interrupt"
  pub armed : is.armed ≡ true
  -- "presets both checks to ones"
  pub sent : is.sender.shared.check ≡ ones
  pub heard : is.receiver.check ≡ ones
  -- "ends that channel's pending and in-service sources"
  pub pending : pending_in is ≡ no_sources
  pub service : served ≡ no_sources
  -- "unlatches external status"
  pub unlatched : is.status.latched ≡ None
  -- "Channel Reset ignores the other fields."
  pub pointer : is.pointer ≡ 0
  -- DCD and CTS are the world's
  pub kept : is.lines ≡ lines
