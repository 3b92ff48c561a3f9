-- What only a sender with a history has: SDLC's unit and zero insertion, the asynchronous
-- character, and the unit of Monosync and Bisync are such as a history leaves them. Assumes
-- nothing.
use Rattle.asynchronous.specs.Sound.{SoundCharacter}
use Rattle.bytesync.specs.Sound.{SoundBlockUnit}
use Rattle.sdlc.specs.Sound.{SoundUnit}
use Rattle.sender.specs.declared.Sender.{Sender}

pub record SoundSender (s : Sender) : Type 0 where
  pub unit : SoundUnit s.unit s.insertion
  pub character : SoundCharacter s.character
  pub block : SoundBlockUnit s.block
