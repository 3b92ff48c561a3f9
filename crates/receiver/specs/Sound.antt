-- What only a receiver with a history has: its modes' parts are such as a history leaves them.
-- Assumes nothing.
use Rattle.asynchronous.specs.Sound.{SoundAssembly}
use Rattle.bytesync.specs.Sound.{SoundReception}
use Rattle.sdlc.specs.Sound.{SoundContent}
use Rattle.receiver.specs.declared.Receiver.{Receiver}

pub record SoundReceiver (s : Receiver) : Type 0 where
  pub content : SoundContent s.content
  pub assembly : SoundAssembly s.assembly
  pub reception : SoundReception s.reception
