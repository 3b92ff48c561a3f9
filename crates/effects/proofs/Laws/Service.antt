-- Which events change the sources in service: of those on a channel its reset, and of those on A
-- command 7, which does what RETI does; every other, a change of mode among them, leaves them all.
-- B's change by none on A but command 7. Besides, acknowledge, RETI and hard reset. Assumes
-- nothing.
use Rattle.std.specs.Prelude.{◌≡◌, refl, true, false, ℕ, eqb}
use Rattle.common.specs.Tools.{bool_or, if_elim}
use Rattle.interrupts.specs.declared.Six.{Six}
use Rattle.interrupts.specs.Interrupts.{no_six, acknowledged, ended}
use Rattle.settings.specs.Settings.{command_in}
use Rattle.chip.specs.declared.Chip.{Chip}
use Rattle.chip.specs.Interrupts.{pending_of, in_service, acknowledge, reti}
use Rattle.chip.specs.Chip.{ends_service, resets, control_write_a, control_write_b, control_write}
use Rattle.chip.specs.Chip.{control_read_call, data_write_call}
use Rattle.chip.specs.Chip.{data_read_call, transmit_call, receive_call, lines_call}
use Rattle.chip.specs.Event.{Event, HardReset, ControlWrite, Acknowledge, Reti, step}
use Rattle.promises.specs.Isolation.{On, control_write_lem, control_read_lem, data_write, data_read_lem}
use Rattle.promises.specs.Isolation.{transmit}
use Rattle.promises.specs.Isolation.{receive, set_lines}
use Rattle.effects.specs.Service.{acts_as_reti, acts_as_reset}

-- "7 as RETI (A only, none in B)"
pub seven_as_reti : (c : Chip) (v : ℕ) → ends_service c.a v ≡ true
    → (step c (ControlWrite 0 v)).chip.service ≡ (reti c).service
unfolding control_write control_write_a reti
seven_as_reti c v e = rw e

pub others_leave_b : {e : Event} (c : Chip) (o : On 0 e) → acts_as_reti c o ≡ false
    → (step c e).chip.service.b ≡ c.service.b
unfolding
    control_write control_write_a control_read_call data_write_call data_read_call transmit_call
    receive_call lines_call
others_leave_b c (control_write_lem v) n =
    rw n (if_elim (λ (s : Six). s.b ≡ c.service.b) (resets c.a v) refl refl)
others_leave_b c control_read_lem n = refl
others_leave_b c (data_write v) n = refl
others_leave_b c data_read_lem n = refl
others_leave_b c transmit n = refl
others_leave_b c (receive bit) n = refl
others_leave_b c (set_lines dcd cts) n = refl

-- all of them stay under every event on a channel but these
pub a_serves : {e : Event} (c : Chip) (o : On 0 e) → acts_as_reti c o ≡ false
    → acts_as_reset c.a o ≡ false → (step c e).chip.service ≡ c.service
unfolding
    control_write control_write_a control_read_call data_write_call data_read_call transmit_call
    receive_call lines_call
a_serves c (control_write_lem v) n m = rw (n, m)
a_serves c control_read_lem n m = refl
a_serves c (data_write v) n m = refl
a_serves c data_read_lem n m = refl
a_serves c transmit n m = refl
a_serves c (receive bit) n m = refl
a_serves c (set_lines dcd cts) n m = refl

pub b_serves : {e : Event} (c : Chip) (o : On 1 e) → acts_as_reset c.b o ≡ false
    → (step c e).chip.service ≡ c.service
unfolding
    control_write control_write_b control_read_call data_write_call data_read_call transmit_call
    receive_call lines_call
b_serves c (control_write_lem v) m = rw m
b_serves c control_read_lem m = refl
b_serves c (data_write v) m = refl
b_serves c data_read_lem m = refl
b_serves c transmit m = refl
b_serves c (receive bit) m = refl
b_serves c (set_lines dcd cts) m = refl

-- "ends that channel's pending and in-service sources", and no other's
pub reset_leaves_b : (c : Chip) (v : ℕ) → command_in v ≡ 3
    → (step c (ControlWrite 0 v)).chip.service.b ≡ c.service.b
unfolding control_write control_write_a
reset_leaves_b c v k = bool_or (eqb c.a.pointer 0) (λ e. rw (e, k)) (λ e. rw e)

-- "interrupts and hard reset are shared"
pub acknowledge_serves : (c : Chip)
    → (step c Acknowledge).chip ≡ in_service c (acknowledged (pending_of c) c.service)
unfolding acknowledge
acknowledge_serves c = refl

pub reti_serves : (c : Chip) → (step c Reti).chip ≡ in_service c (ended c.service)
unfolding reti
reti_serves c = refl

pub hard_reset_serves : (c : Chip) → (step c HardReset).chip.service ≡ no_six
hard_reset_serves c = refl
