-- What only a chip with a history has: both channels are such as a history gives them. Assumes
-- nothing.
use Rattle.soundness.specs.Channel.{SoundChannel}
use Rattle.chip.specs.declared.Chip.{Chip}

abbrev pub SoundChip : Chip → Type 0
SoundChip c = SoundChannel c.a × SoundChannel c.b
