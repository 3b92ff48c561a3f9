-- A reset sender has what a history gives, and every event keeps it. Assumes nothing.
use Rattle.std.specs.Prelude.{refl, Bool, true, false, ℕ}
use Rattle.std.proofs.Common.{arith}
use Rattle.common.specs.Mode.{in_sdlc}
use Rattle.common.specs.Tools.{if_elim}
use Rattle.common.specs.declared.Mode.{Mode}
use Rattle.common.specs.declared.Mode.TheVariants.{NoMode, Asynchronous, Monosync, Bisync, Sdlc}
use Rattle.asynchronous.specs.Laws.Sound as characters
use Rattle.bytesync.specs.Laws.Sound as blocks
use Rattle.sdlc.specs.Laws.Sound as frames
use Rattle.sender.specs.declared.Sender.{Sender}
use Rattle.sender.specs.declared.Sending.{Sending}
use Rattle.sender.specs.declared.Ticked.{Ticked}
use Rattle.sender.specs.Sender.{framer_of, with_break, tick_in_blocks, tick_in, tick, written}
use Rattle.sender.specs.Sender.{aborted, check_preset}
use Rattle.sender.specs.Sender.{latch_cleared, idled, at_reset}
use Rattle.sender.specs.Sound.{SoundSender}

break_sound : (b : Bool) (t : Ticked) → SoundSender t.sender
    → SoundSender (with_break b t).sender
break_sound true t h = h
break_sound false t h = h

module _ (g : Sending) (s : Sender) (h : SoundSender s) where
  in_blocks_sound : SoundSender (tick_in_blocks g s).sender
  in_blocks_sound = break_sound g.broken _ (record {
    unit = h.unit;
    character = h.character;
    block = blocks.tick_sound g.syncing s.shared s.block h.block;
  })

  in_sound : (m : Mode) → SoundSender (tick_in m g s).sender
  in_sound NoMode = h
  in_sound Asynchronous = break_sound g.broken _ (record {
    unit = h.unit;
    character = characters.tick_sound g.typing s.character s.shared h.character;
    block = h.block;
  })
  in_sound Monosync = in_blocks_sound
  in_sound Bisync = in_blocks_sound
  in_sound Sdlc = break_sound g.broken _ (record {
    unit = frames.tick_sound g.framing (framer_of s) h.unit;
    character = h.character;
    block = h.block;
  })

  pub tick_sound : SoundSender (tick g s).sender
  unfolding tick
  tick_sound = in_sound g.mode

  pub abort_sound : SoundSender (aborted g s)
  abort_sound =
      if_elim SoundSender (in_sdlc g.mode)
      (record {
        unit = frames.abort_sound g.framing (framer_of s) h.unit;
        character = h.character;
        block = h.block;
      })
      h

pub reset_sound : SoundSender at_reset
reset_sound = record { unit = (refl, refl); character = omega arith; block = tt }

pub write_sound : (s : Sender) (v : ℕ) → SoundSender s → SoundSender (written s v)
write_sound s v h = record { unit = h.unit; character = h.character; block = h.block }

pub preset_sound : (m : Mode) (s : Sender) → SoundSender s → SoundSender (check_preset m s)
preset_sound m s h = record { unit = h.unit; character = h.character; block = h.block }

pub clear_sound : (s : Sender) → SoundSender s → SoundSender (latch_cleared s)
clear_sound s h = record { unit = h.unit; character = h.character; block = h.block }

pub idle_sound : (s : Sender) → SoundSender (idled s)
idle_sound s = record { unit = (refl, refl); character = omega arith; block = tt }
