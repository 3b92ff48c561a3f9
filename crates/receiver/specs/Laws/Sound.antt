-- A reset receiver has what a history gives, and every event keeps it. Assumes nothing.
use Rattle.std.specs.Prelude.{Bool, true, false}
use Rattle.std.proofs.Common.{arith}
use Rattle.common.specs.Tools.{if_elim}
use Rattle.common.specs.declared.Mode.{Mode}
use Rattle.common.specs.declared.Mode.TheVariants.{NoMode, Asynchronous, Monosync, Bisync, Sdlc}
use Rattle.asynchronous.specs.Laws.Sound as characters
use Rattle.bytesync.specs.Laws.Sound as blocks
use Rattle.sdlc.specs.Laws.Sound as frames
use Rattle.receiver.specs.declared.Receiving.{Receiving}
use Rattle.receiver.specs.declared.Receiver.{Receiver}
use Rattle.receiver.specs.declared.Heard.{Heard}
use Rattle.receiver.specs.Receiver.{listener_of, reset, dropped, enter_hunt, mode_changed}
use Rattle.receiver.specs.Receiver.{preset_check, hear_in_blocks, hear_in, hear}
use Rattle.receiver.specs.Sound.{SoundReceiver}

pub dropped_sound : (s : Receiver) (h x : Bool) → SoundReceiver (dropped s h x)
dropped_sound s h x = record {
  content = frames.content_at_sound h false 0 (omega arith);
  assembly = omega arith;
  reception = blocks.searching_sound h;
}

pub reset_sound : SoundReceiver reset
reset_sound = record {
  content = frames.content_at_sound false false 0 (omega arith);
  assembly = omega arith;
  reception = blocks.searching_sound false;
}

pub enter_hunt_sound : (s : Receiver) → SoundReceiver (enter_hunt s)
enter_hunt_sound s = dropped_sound s true s.broken

pub mode_changed_sound : (s : Receiver) (hunts : Bool) → SoundReceiver (mode_changed s hunts)
mode_changed_sound s hunts = dropped_sound s hunts false

pub preset_check_sound : (m : Mode) (s : Receiver) → SoundReceiver s
    → SoundReceiver (preset_check m s)
preset_check_sound m s h =
    record { content = h.content; assembly = h.assembly; reception = h.reception }

abbrev SoundHeard : Heard → Type 0
SoundHeard h = SoundReceiver h.receiver

module _ (g : Receiving) (s : Receiver) (t : SoundReceiver s) where
  in_blocks_sound : (b : Bool) → SoundHeard (hear_in_blocks g s b)
  in_blocks_sound b =
      if_elim SoundHeard g.on
      (record {
        content = t.content;
        assembly = t.assembly;
        reception = blocks.hear_sound g.matching s.reception s.check b;
      })
      (dropped_sound s true false)

  in_sound : (b : Bool) (m : Mode) → SoundHeard (hear_in m g s b)
  in_sound b NoMode = t
  in_sound b Asynchronous =
      if_elim SoundHeard g.on
      (record {
        content = t.content;
        assembly = characters.hear_sound g.format s.assembly s.broken b t.assembly;
        reception = t.reception;
      })
      (dropped_sound s false false)
  in_sound b Monosync = in_blocks_sound b
  in_sound b Bisync = in_blocks_sound b
  in_sound b Sdlc =
      if_elim SoundHeard g.on
      (record {
        content = frames.hear_sound g.addressing (listener_of s) t.content b;
        assembly = t.assembly;
        reception = t.reception;
      })
      (dropped_sound s true false)

  pub hear_sound : (b : Bool) → SoundReceiver (hear g s b).receiver
  unfolding hear
  hear_sound b = in_sound b g.mode
