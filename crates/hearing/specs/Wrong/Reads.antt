-- Wrong chips that do not tell the tales of Reads: what a data read answers. Assumes nothing.
use Rattle.std.specs.Prelude.{refl, Bool, false, ◌&&◌, eqb, ltb, if◌then◌else◌}
use Rattle.std.proofs.Common.{ap}
use Rattle.common.specs.declared.Refusal.TheVariants as refusal
use Rattle.queue.specs.Queue.{error_reset}
use Rattle.channel.specs.declared.Answer.TheVariants.{Refused}
use Rattle.channel.specs.Answer.{answer_number, answer_value}
use Rattle.channel.specs.Channel.{with_queue, with_pointer, with_armed}
use Rattle.chip.specs.declared.Chip.{Chip}
use Rattle.chip.specs.Interrupts.{with_a}
use Rattle.chip.specs.Chip.{outcome}
use Rattle.chip.specs.Event.{Event, step}
use Rattle.tales.specs.Tale.{Happens, telling}
use Rattle.tales.specs.Wrong.{but, saying}
use Rattle.tales.specs.Refused.{other_number}
use Rattle.hearing.specs.Reads.{Told}

-- a look that finds nothing; and a read that takes a character of A
abbrev finds_nothing : Chip → Event → Bool
finds_nothing c e = eqb (answer_number (step c e).answer) 10

abbrev takes_from_a : Chip → Event → Bool
takes_from_a c e = ltb (step c e).chip.a.queue.count c.a.queue.count

-- a call of a channel that is not there is told that nothing waits
abbrev told10_before1 : Happens
told10_before1 =
    saying (λ c e w. if eqb (answer_number w) 1 then Refused refusal.NoCharacter else w)

pub told10_before1_refused : Told told10_before1 → ⊥
unfolding telling
told10_before1_refused t = other_number t.no_channel refl

-- a byte 00 that waits in A is told as nothing, and stays
abbrev refused_a_waiting00 : Happens
refused_a_waiting00 c e =
    if takes_from_a c e && eqb (answer_value (step c e).answer) 0
    then outcome (Refused refusal.NoCharacter) c
    else step c e

pub refused_a_waiting00_refused : Told refused_a_waiting00 → ⊥
unfolding telling
refused_a_waiting00_refused t = other_number t.zero_waits refl

-- the read that takes the last character of A answers that nothing waits
abbrev told10_whose_byte_is_gone : Happens
told10_whose_byte_is_gone =
    saying (λ c e w.
    if takes_from_a c e && eqb (step c e).chip.a.queue.count 0
    then Refused refusal.NoCharacter
    else w)

pub told10_whose_byte_is_gone_refused : Told told10_whose_byte_is_gone → ⊥
unfolding telling
told10_whose_byte_is_gone_refused t = other_number t.letter_waits refl

-- an empty look disarms the first-character interrupt
abbrev empty_look_disarms : Happens
empty_look_disarms =
    but (λ was e is.
    if finds_nothing was e then with_a is (with_armed is.a false) else is)

pub empty_look_disarms_refused : Told empty_look_disarms → ⊥
unfolding telling
empty_look_disarms_refused t = other_number t.armed refl

-- an empty look sets the pointer to 0
abbrev empty_look_moves_the_pointer : Happens
empty_look_moves_the_pointer =
    but (λ was e is.
    if finds_nothing was e then with_a is (with_pointer is.a 0) else is)

pub empty_look_moves_the_pointer_refused : Told empty_look_moves_the_pointer → ⊥
unfolding telling
empty_look_moves_the_pointer_refused t = other_number (ap answer_value t.pointer) refl

-- an empty look clears RR1's latches
abbrev empty_look_clears_the_latches : Happens
empty_look_clears_the_latches =
    but (λ was e is.
    if finds_nothing was e
    then with_a is (with_queue is.a (error_reset is.a.queue))
    else is)

pub empty_look_clears_the_latches_refused : Told empty_look_clears_the_latches → ⊥
unfolding telling
empty_look_clears_the_latches_refused t = other_number t.latch refl
