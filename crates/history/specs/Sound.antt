-- What only chips with a history have: a story keeps it, every chip behind a hard reset has it, and
-- it is what the premises of demands 2 and 3 ask beyond the demands' own words. Assumes nothing.
use Rattle.std.specs.Prelude.{◌≡◌, List, [], ◌∷◌, length}
use Rattle.queue.specs.Queue.{room}
use Rattle.sdlc.specs.Sound.{SoundUnit}
use Rattle.chip.specs.declared.Chip.{Chip}
use Rattle.chip.specs.Chip.{hard_reset}
use Rattle.chip.specs.Event.{Event}
use Rattle.soundness.specs.Chip.{SoundChip}
use Rattle.soundness.specs.Laws.Chip.{hard_reset_sound, step_sound}
use Rattle.stories.specs.Story.{Which, A, B, chan, happens, after}

pub after_sound : (c : Chip) (st : List Event) → SoundChip c → SoundChip (after c st)
unfolding after
after_sound c [] h = h
after_sound c (e ∷ st) h = after_sound (happens c e).chip st (step_sound c e h)

pub reset_sound : (st : List Event) → SoundChip (after hard_reset st)
reset_sound st = after_sound hard_reset st hard_reset_sound

-- `history` of demand 3's start
pub unit_sound : (w : Which) (c : Chip) → SoundChip c
    → SoundUnit (chan w c).sender.unit (chan w c).sender.insertion
unit_sound A c h = h.0.sender.unit
unit_sound B c h = h.1.sender.unit

-- `three` of demand 2's start
pub queue_three : (w : Which) (c : Chip) → SoundChip c → length (chan w c).queue.entries ≡ room
queue_three A c h = h.0.queue.whole
queue_three B c h = h.1.queue.whole
