-- The two writes before a next frame or block, the check preset and the latch cleared: what each
-- leaves of a channel. Assumes nothing.
use Rattle.std.specs.Prelude.{◌≡◌, refl, true, ℕ, eqb}
use Rattle.std.proofs.Common.{ap}
use Rattle.sender.specs.declared.Sender.{Sender}
use Rattle.sender.specs.Sender.{check_preset, latch_cleared}
use Rattle.settings.specs.Settings.{mode_in}
use Rattle.settings.specs.Bytes.{preset_sent, clear_underrun}
use Rattle.channel.specs.declared.Side.{Side}
use Rattle.channel.specs.declared.Side.TheVariants as channels
use Rattle.channel.specs.declared.Channel.{Channel}
use Rattle.channel.specs.Channel.{settled}
use Rattle.channel.specs.Control.{commanded, preset, command_step, preset_step, write_wr0}
use Rattle.channel.specs.Control.{control_written}
use Rattle.chip.specs.declared.Chip.{Chip}
use Rattle.chip.specs.Chip.{control_write_a, control_write_b, control_write}
use Rattle.chip.specs.Event.{ControlWrite}
use Rattle.stories.specs.Story.{Which, A, B, number, chan, happens}
use Rattle.history.specs.Sending.Side.{sending_in}

pub record Left (c d : Channel) (f : Sender → Sender) : Type 0 where
  pub sender : d.sender ≡ f c.sender
  pub settings : sending_in d ≡ sending_in c
  pub pointer : d.pointer ≡ 0

at_zero : (c : Channel) → c.pointer ≡ 0 → eqb c.pointer 0 ≡ true
at_zero c p = ap (λ (n : ℕ). eqb n 0) p

preset_left : (c : Channel) (s : Side) → c.pointer ≡ 0
    → Left c (control_written c s preset_sent).channel (check_preset (mode_in c.registers))
unfolding control_written write_wr0 command_step preset_step commanded preset settled
preset_left c s p = rw (at_zero c p) (record { sender = refl; settings = refl; pointer = refl })

clear_left : (c : Channel) (s : Side) → c.pointer ≡ 0
    → Left c (control_written c s clear_underrun).channel latch_cleared
unfolding control_written write_wr0 command_step preset_step commanded preset settled
clear_left c s p = rw (at_zero c p) (record { sender = refl; settings = refl; pointer = refl })

pub write_preset : (w : Which) (c : Chip) → (chan w c).pointer ≡ 0
    → Left (chan w c) (chan w (happens c (ControlWrite (number w) preset_sent)).chip)
    (check_preset (mode_in (chan w c).registers))
unfolding control_write control_write_a control_write_b
write_preset A c p = preset_left c.a channels.A p
write_preset B c p = preset_left c.b channels.B p

pub write_clear : (w : Which) (c : Chip) → (chan w c).pointer ≡ 0
    → Left (chan w c) (chan w (happens c (ControlWrite (number w) clear_underrun)).chip)
    latch_cleared
unfolding control_write control_write_a control_write_b
write_clear A c p = clear_left c.a channels.A p
write_clear B c p = clear_left c.b channels.B p
