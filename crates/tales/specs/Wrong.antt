-- How a wrong chip is made: it does what the chip does, and one thing otherwise. Assumes nothing.
use Rattle.std.specs.Prelude.{◌||◌, if◌then◌else◌}
use Rattle.settings.specs.declared.Registers.{Registers}
use Rattle.channel.specs.declared.Answer.{Answer}
use Rattle.channel.specs.declared.Channel.{Channel}
use Rattle.channel.specs.Channel.{with_registers}
use Rattle.chip.specs.declared.Chip.{Chip}
use Rattle.chip.specs.Interrupts.{with_a}
use Rattle.chip.specs.Chip.{outcome}
use Rattle.chip.specs.Event.{Event, step}
use Rattle.tales.specs.Tale.{Happens}
use Rattle.tales.specs.Kind.{is_tick, is_bit}

-- behind each event A is changed: by what it was, the event, and what it is
abbrev pub but_a : (Channel → Event → Channel → Channel) → Happens
but_a f c e = let o = step c e in outcome o.answer (with_a o.chip (f c.a e o.chip.a))

-- behind each event the chip is changed
abbrev pub but : (Chip → Event → Chip → Chip) → Happens
but f c e = let o = step c e in outcome o.answer (f c e o.chip)

-- before each event A is changed
abbrev pub first_a : (Channel → Event → Channel) → Happens
first_a f c e = step (with_a c (f c.a e)) e

-- while a line bit goes or comes, A's registers are taken for others
abbrev pub taking_a : (Registers → Registers) → Happens
taking_a f c e =
    let o = step (with_a c (with_registers c.a (f c.a.registers))) e in
    if is_tick 0 e || is_bit 0 e
    then outcome o.answer (with_a o.chip (with_registers o.chip.a c.a.registers))
    else step c e

-- the answer is another one
abbrev pub saying : (Chip → Event → Answer → Answer) → Happens
saying f c e = let o = step c e in outcome (f c e o.answer) o.chip
