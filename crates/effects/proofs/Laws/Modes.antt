-- An accepted WR4 that changes the mode does what 01 lists and leaves the rest; one that leaves the
-- mode changes WR4 alone, of all that sends, hears and asks. Assumes nothing.
use Rattle.std.specs.Prelude.{◌≡◌, refl, true, false, ℕ}
use Rattle.common.specs.Mode.{same_mode}
use Rattle.settings.specs.Settings.{store4, mode_of, mode_in, not_built}
use Rattle.channel.specs.declared.Channel.{Channel}
use Rattle.channel.specs.declared.Side.{Side}
use Rattle.channel.specs.Channel.{with_registers, with_pointer, settled}
use Rattle.channel.specs.Control.{in_mode, set_wr4, set_register, control_written}
use Rattle.effects.specs.Modes.{ModeChanged, ModeKept}

abbrev stored : Channel → ℕ → Channel
stored c v = with_registers c (store4 c.registers v)

changed_is : (c : Channel) (w : Side) (v : ℕ) → c.pointer ≡ 4 → not_built v ≡ false
    → same_mode (mode_in c.registers) (mode_of v) ≡ false
    → (control_written c w v).channel ≡ with_pointer (settled c (in_mode (stored c v) (mode_of v))) 0
unfolding control_written set_register set_wr4
changed_is c w v p n m = rw (p, n, m)

kept_is : (c : Channel) (w : Side) (v : ℕ) → c.pointer ≡ 4 → not_built v ≡ false
    → same_mode (mode_in c.registers) (mode_of v) ≡ true
    → (control_written c w v).channel ≡ with_pointer (settled c (stored c v)) 0
unfolding control_written set_register set_wr4
kept_is c w v p n m = rw (p, n, m)

changed_so : (c : Channel) (v : ℕ)
    → ModeChanged v c (with_pointer (settled c (in_mode (stored c v) (mode_of v))) 0)
unfolding settled
changed_so c v = record {
  registers = refl;
  unit = refl;
  nothing_owed = refl;
  no_character_lem = refl;
  block = refl;
  buffer = refl;
  full = refl;
  queue = refl;
  d7 = refl;
  character = refl;
  frame = refl;
  block_heard = refl;
  d6 = refl;
  sent = refl;
  heard = refl;
  armed = refl;
  transmit = refl;
  lines = refl;
}

kept_so : (c : Channel) (v : ℕ) → ModeKept v c (with_pointer (settled c (stored c v)) 0)
unfolding settled
kept_so c v = record {
  registers = refl;
  sender = refl;
  receiver = refl;
  queue = refl;
  armed = refl;
  transmit = refl;
  lines = refl;
}

pub mode_changed_lem : (c : Channel) (w : Side) (v : ℕ) → c.pointer ≡ 4 → not_built v ≡ false
    → same_mode (mode_in c.registers) (mode_of v) ≡ false
    → ModeChanged v c (control_written c w v).channel
mode_changed_lem c w v p n m = rw (changed_is c w v p n m) (changed_so c v)

pub mode_kept : (c : Channel) (w : Side) (v : ℕ) → c.pointer ≡ 4 → not_built v ≡ false
    → same_mode (mode_in c.registers) (mode_of v) ≡ true
    → ModeKept v c (control_written c w v).channel
mode_kept c w v p n m = rw (kept_is c w v p n m) (kept_so c v)
