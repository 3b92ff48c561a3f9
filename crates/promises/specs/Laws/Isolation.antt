-- An event on B leaves A's channel as it was, all of it, and A's sources in service; an event on A
-- leaves B's channel. Acknowledge and RETI change the sources in service, and nothing else. (Which
-- events on A end a source of B in service is told in crate effects.) Assumes nothing.
use Rattle.std.specs.Prelude.{◌≡◌, refl}
use Rattle.std.proofs.Common.{ap}
use Rattle.interrupts.specs.declared.Six.{Six}
use Rattle.common.specs.Tools.{if_elim}
use Rattle.chip.specs.declared.Chip.{Chip}
use Rattle.chip.specs.Interrupts.{acknowledge, reti}
use Rattle.chip.specs.Chip.{resets, control_write_a, control_write_b, control_write, control_read_call}
use Rattle.chip.specs.Chip.{data_write_call, data_read_call, transmit_call, receive_call, lines_call}
use Rattle.chip.specs.Event.{Event, Acknowledge, Reti, step}
use Rattle.promises.specs.Isolation.{On, control_write_lem, control_read_lem, data_write, data_read_lem}
use Rattle.promises.specs.Isolation.{transmit, receive, set_lines, Same, SameChip}
use Rattle.promises.specs.Isolation.{ServiceAlone}

-- An event on B leaves A's channel as it was, and A's sources in service

pub b_leaves_a : {e : Event} (c : Chip) → On 1 e → (step c e).chip.a ≡ c.a
unfolding
    control_write control_write_b control_read_call data_write_call data_read_call transmit_call
    receive_call lines_call
b_leaves_a c (control_write_lem v) = refl
b_leaves_a c control_read_lem = refl
b_leaves_a c (data_write v) = refl
b_leaves_a c data_read_lem = refl
b_leaves_a c transmit = refl
b_leaves_a c (receive bit) = refl
b_leaves_a c (set_lines dcd cts) = refl

pub b_leaves_a_served : {e : Event} (c : Chip) → On 1 e
    → (step c e).chip.service.a ≡ c.service.a
unfolding
    control_write control_write_b control_read_call data_write_call data_read_call transmit_call
    receive_call lines_call
b_leaves_a_served c (control_write_lem v) =
    if_elim (λ (s : Six). s.a ≡ c.service.a) (resets c.b v) refl refl
b_leaves_a_served c control_read_lem = refl
b_leaves_a_served c (data_write v) = refl
b_leaves_a_served c data_read_lem = refl
b_leaves_a_served c transmit = refl
b_leaves_a_served c (receive bit) = refl
b_leaves_a_served c (set_lines dcd cts) = refl

-- An event on A leaves B's channel as it was

pub a_leaves_b : {e : Event} (c : Chip) → On 0 e → (step c e).chip.b ≡ c.b
unfolding
    control_write control_write_a control_read_call data_write_call data_read_call transmit_call
    receive_call lines_call
a_leaves_b c (control_write_lem v) = refl
a_leaves_b c control_read_lem = refl
a_leaves_b c (data_write v) = refl
a_leaves_b c data_read_lem = refl
a_leaves_b c transmit = refl
a_leaves_b c (receive bit) = refl
a_leaves_b c (set_lines dcd cts) = refl

-- Hence the paper's sentence

pub events_on_b : {e : Event} (c : Chip) → On 1 e → Same (step c e).chip.a c.a
events_on_b c o = rw (b_leaves_a c o) (refl, refl, refl, refl)

pub events_on_a : {e : Event} (c : Chip) → On 0 e → Same (step c e).chip.b c.b
events_on_a c o = rw (a_leaves_b c o) (refl, refl, refl, refl)

-- "interrupts .. are shared": acknowledge and RETI change the sources in service alone

pub acknowledge_service : (c : Chip) → ServiceAlone (acknowledge c).chip c
unfolding acknowledge
acknowledge_service c = refl

pub reti_service : (c : Chip) → ServiceAlone (reti c) c
unfolding reti
reti_service c = refl

service_alone_same : (is was : Chip) → ServiceAlone is was → SameChip is was
service_alone_same is was s =
    rw (ap (λ (c : Chip). c.a) s, ap (λ (c : Chip). c.b) s)
    ((refl, refl, refl, refl), (refl, refl, refl, refl))

pub acknowledges : (c : Chip) → SameChip (step c Acknowledge).chip c
acknowledges c = service_alone_same (acknowledge c).chip c (acknowledge_service c)

pub retis : (c : Chip) → SameChip (step c Reti).chip c
retis c = service_alone_same (reti c) c (reti_service c)
