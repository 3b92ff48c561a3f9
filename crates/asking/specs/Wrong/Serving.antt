-- Wrong chips that do not tell the tales of Serving: acknowledge, RETI and command 7. Assumes
-- nothing.
use Rattle.std.specs.Prelude.{refl, false, not, ◌&&◌, eqb, if◌then◌else◌}
use Rattle.common.specs.declared.Refusal.TheVariants as refusal
use Rattle.interrupts.specs.Interrupts.{six, no_sources, any_of}
use Rattle.settings.specs.Settings.{command_in}
use Rattle.channel.specs.declared.Answer.TheVariants.{Refused}
use Rattle.channel.specs.Channel.{with_transmit}
use Rattle.channel.specs.Events.{pending_in}
use Rattle.chip.specs.Interrupts.{in_service}
use Rattle.chip.specs.Chip.{outcome}
use Rattle.chip.specs.Event.{Reti, step}
use Rattle.tales.specs.Tale.{Happens, telling}
use Rattle.tales.specs.Kind.{value_of, is_acknowledge, is_reti, is_control, is_command}
use Rattle.tales.specs.Wrong.{but_a, but}
use Rattle.tales.specs.Refused.{other_number}
use Rattle.asking.specs.Serving.{Told}

-- an acknowledge takes A's transmit and ends its pending
abbrev acknowledge_ends_transmit : Happens
acknowledge_ends_transmit = but_a (λ was e is. if is_acknowledge e then with_transmit is false else is)

pub acknowledge_ends_transmit_refused : Told acknowledge_ends_transmit → ⊥
unfolding telling
acknowledge_ends_transmit_refused t = other_number t.left_pending refl

-- an acknowledge gives its vector and leaves no source in service
abbrev puts_nothing_in_service : Happens
puts_nothing_in_service =
    but (λ was e is. if is_acknowledge e then in_service is was.service else is)

pub puts_nothing_in_service_refused : Told puts_nothing_in_service → ⊥
unfolding telling
puts_nothing_in_service_refused t = other_number t.not_twice refl

-- while any source is in service every acknowledge is refused
abbrev takes_nothing_above_a_service : Happens
takes_nothing_above_a_service c e =
    if is_acknowledge e && any_of c.service
    then outcome (Refused refusal.NothingWaits) c
    else step c e

pub takes_nothing_above_a_service_refused : Told takes_nothing_above_a_service → ⊥
unfolding telling
takes_nothing_above_a_service_refused t = other_number t.above_taken refl

-- A's sources in service block no source of B
abbrev service_in_a_lets_b_through : Happens
service_in_a_lets_b_through c e =
    if is_acknowledge e && not (any_of (six (pending_in c.a) no_sources))
    then step (in_service c (six no_sources c.service.b)) e
    else step c e

pub service_in_a_lets_b_through_refused : Told service_in_a_lets_b_through → ⊥
unfolding telling
service_in_a_lets_b_through_refused t = other_number t.below_waits refl

-- a RETI ends A's pending transmit too
abbrev reti_ends_pending_transmit : Happens
reti_ends_pending_transmit = but_a (λ was e is. if is_reti e then with_transmit is false else is)

pub reti_ends_pending_transmit_refused : Told reti_ends_pending_transmit → ⊥
unfolding telling
reti_ends_pending_transmit_refused t = other_number t.reti_leaves_pending refl

-- command 7 leaves B's sources in service
abbrev command7_ends_sources_of_a_alone : Happens
command7_ends_sources_of_a_alone =
    but (λ was e is.
    if is_command 0 7 was.a e
    then in_service is (six is.service.a was.service.b)
    else is)

pub command7_ends_sources_of_a_alone_refused : Told command7_ends_sources_of_a_alone → ⊥
unfolding telling
command7_ends_sources_of_a_alone_refused t = other_number t.through_a refl

-- a byte with D5-3 = 7 acts as RETI whatever register of A it goes to
abbrev command7_stands_in_any_register : Happens
command7_stands_in_any_register c e =
    let seven = not (eqb c.a.pointer 0) && eqb (command_in (value_of e)) 7 in
    step (if is_control 0 e && seven then (step c Reti).chip else c) e

pub command7_stands_in_any_register_refused : Told command7_stands_in_any_register → ⊥
unfolding telling
command7_stands_in_any_register_refused t = other_number t.not_in_wr6 refl
