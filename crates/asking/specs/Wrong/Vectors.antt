-- Wrong chips that do not tell the tales of Vectors: priority, vectors, RR2 and RR0 D1. Assumes
-- nothing.
use Rattle.std.specs.Prelude.{refl, false, not, ◌&&◌, ◌+◌, ◌-◌, eqb, if◌then◌else◌, None}
use Rattle.interrupts.specs.Interrupts.{may_take}
use Rattle.settings.specs.Settings.{receive_field}
use Rattle.channel.specs.declared.Answer.TheVariants.{Gave}
use Rattle.channel.specs.Answer.{answer_value}
use Rattle.channel.specs.Events.{pending_in}
use Rattle.chip.specs.Interrupts.{with_a, pending_of, any_pending, rr2}
use Rattle.chip.specs.Event.{step}
use Rattle.tales.specs.Tale.{Happens, telling}
use Rattle.tales.specs.Kind.{is_acknowledge, is_read}
use Rattle.tales.specs.Parts.{with_wr1, with_latched, with_entries}
use Rattle.tales.specs.Wrong.{first_a, saying}
use Rattle.tales.specs.Refused.{other_number}
use Rattle.asking.specs.Vectors.{Told}

-- RR2 is the vector in A too
abbrev rr2_is_read_in_a : Happens
rr2_is_read_in_a =
    saying (λ c e w. if is_read 0 e && eqb c.a.pointer 2 then Gave (rr2 c) else w)

pub rr2_is_read_in_a_refused : Told rr2_is_read_in_a → ⊥
unfolding telling
rr2_is_read_in_a_refused t = other_number t.no_rr2_in_a refl

-- B's receive goes before A's external
abbrev b_receive_above_a_external : Happens
b_receive_above_a_external c e =
    if is_acknowledge e && (pending_in c.b).receive
    then step (with_a c (with_latched c.a None)) e
    else step c e

pub b_receive_above_a_external_refused : Told b_receive_above_a_external → ⊥
unfolding telling
b_receive_above_a_external_refused t = other_number t.a_before_b refl

-- a frame's end in A has the vector of any character
abbrev frame_end_is_not_special : Happens
frame_end_is_not_special =
    first_a (λ a e. if is_read 1 e
    then with_entries a (λ x. record {
      byte = x.byte;
      parity = x.parity;
      overrun = x.overrun;
      framing = x.framing;
      ends = false;
      bad = x.bad;
    })
    else a)

pub frame_end_is_not_special_refused : Told frame_end_is_not_special → ⊥
unfolding telling
frame_end_is_not_special_refused t = other_number t.frame_end refl

-- A takes receive interrupt mode 3 for mode 2
abbrev parity_special_in_mode3 : Happens
parity_special_in_mode3 =
    first_a (λ a e.
    let v = a.registers.wr1 in
    with_wr1 a (if eqb (receive_field v) 3 then v - 8 else v))

pub parity_special_in_mode3_refused : Told parity_special_in_mode3 → ⊥
unfolding telling
parity_special_in_mode3_refused t = other_number t.no_parity_in_mode_3 refl

-- RR0 of B has D1 as A's has
abbrev shows_d1_in_b : Happens
shows_d1_in_b =
    saying (λ c e w.
    if is_read 1 e && (eqb c.b.pointer 0 && any_pending c)
    then Gave (answer_value w + 2)
    else w)

pub shows_d1_in_b_refused : Told shows_d1_in_b → ⊥
unfolding telling
shows_d1_in_b_refused t = other_number t.no_d1_in_b refl

-- RR0 D1 is 0 while the highest pending source is in service
abbrev d1_falls_in_service : Happens
d1_falls_in_service =
    saying (λ c e w.
    let taken = any_pending c && not (may_take (pending_of c) c.service) in
    if is_read 0 e && (eqb c.a.pointer 0 && taken) then Gave (answer_value w - 2) else w)

pub d1_falls_in_service_refused : Told d1_falls_in_service → ⊥
unfolding telling
d1_falls_in_service_refused t = other_number t.d1_in_service refl
