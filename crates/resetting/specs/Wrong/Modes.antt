-- Wrong chips that do not tell the tales of Modes: what a change of mode does. Assumes nothing.
use Rattle.std.specs.Prelude.{refl, false, ◌&&◌, eqb, if◌then◌else◌, None}
use Rattle.line.specs.Check as check
use Rattle.sender.specs.Sender.{idled}
use Rattle.channel.specs.Channel.{with_sender, with_pointer, with_transmit}
use Rattle.channel.specs.Answer.{answer_number}
use Rattle.chip.specs.Interrupts.{with_a}
use Rattle.chip.specs.Chip.{outcome}
use Rattle.chip.specs.Event.{step}
use Rattle.tales.specs.Tale.{Happens, telling}
use Rattle.tales.specs.Kind.{is_bit, is_write, is_change}
use Rattle.tales.specs.Parts.{with_wr4, with_character, with_buffer, with_sent_check, with_assembly}
use Rattle.tales.specs.Parts.{with_broken}
use Rattle.tales.specs.Wrong.{but_a, first_a}
use Rattle.tales.specs.Refused.{other_number, other_list}
use Rattle.resetting.specs.Modes.{Told}

-- a WR4 idles A's sender though the mode stays
abbrev every_wr4_idles : Happens
every_wr4_idles =
    but_a (λ was e is. if is_write 0 4 was e then with_sender is (idled is.sender) else is)

pub every_wr4_idles_refused : Told every_wr4_idles → ⊥
unfolding telling
every_wr4_idles_refused t = other_number t.same_mode_lem refl

-- a refused WR4 sets A's pointer to 0
abbrev clears_the_pointer_at_a_refusal : Happens
clears_the_pointer_at_a_refusal c e =
    let o = step c e in
    if eqb (answer_number o.answer) 3
    then outcome o.answer (with_a c (with_pointer c.a 0))
    else o

pub clears_the_pointer_at_a_refusal_refused : Told clears_the_pointer_at_a_refusal → ⊥
unfolding telling
clears_the_pointer_at_a_refusal_refused t = other_number t.pointer_stays refl

-- a change of mode leaves A's character under way
abbrev mode_change_keeps_the_character : Happens
mode_change_keeps_the_character =
    but_a (λ was e is. if is_change 0 was e is then with_character is was.sender.character else is)

pub mode_change_keeps_the_character_refused : Told mode_change_keeps_the_character → ⊥
unfolding telling
mode_change_keeps_the_character_refused t = other_number t.idled refl

-- a change of mode drops the byte in A's buffer
abbrev mode_change_empties_the_buffer : Happens
mode_change_empties_the_buffer =
    but_a (λ was e is. if is_change 0 was e is then with_buffer is None else is)

pub mode_change_empties_the_buffer_refused : Told mode_change_empties_the_buffer → ⊥
unfolding telling
mode_change_empties_the_buffer_refused t = other_number t.buffer_kept refl

-- a change of mode does not clear A's D7
abbrev mode_change_leaves_d7 : Happens
mode_change_leaves_d7 =
    but_a (λ was e is. if is_change 0 was e is then with_broken is was.receiver.broken else is)

pub mode_change_leaves_d7_refused : Told mode_change_leaves_d7 → ⊥
unfolding telling
mode_change_leaves_d7_refused t = other_number t.d7_clear refl

-- a change of mode leaves the character that A is hearing
abbrev mode_change_keeps_half_a_character : Happens
mode_change_keeps_half_a_character =
    but_a (λ was e is. if is_change 0 was e is then with_assembly is was.receiver.assembly else is)

pub mode_change_keeps_half_a_character_refused : Told mode_change_keeps_half_a_character → ⊥
unfolding telling
mode_change_keeps_half_a_character_refused t = other_number t.half_character refl

-- a change of mode presets the check of what A sends
abbrev mode_change_presets_the_check : Happens
mode_change_presets_the_check =
    but_a (λ was e is. if is_change 0 was e is then with_sent_check is check.ones else is)

pub mode_change_presets_the_check_refused : Told mode_change_presets_the_check → ⊥
unfolding telling
mode_change_presets_the_check_refused t = other_list t.check_kept refl

-- a change of mode ends A's pending transmit
abbrev mode_change_ends_transmit : Happens
mode_change_ends_transmit =
    but_a (λ was e is. if is_change 0 was e is then with_transmit is false else is)

pub mode_change_ends_transmit_refused : Told mode_change_ends_transmit → ⊥
unfolding telling
mode_change_ends_transmit_refused t = other_number t.transmit_kept refl

-- A hears characters before a mode is set
abbrev hears_with_no_mode : Happens
hears_with_no_mode = first_a (λ a e. if is_bit 0 e && eqb a.registers.wr4 0 then with_wr4 a 4 else a)

pub hears_with_no_mode_refused : Told hears_with_no_mode → ⊥
unfolding telling
hears_with_no_mode_refused t = other_number t.hears_nothing refl
