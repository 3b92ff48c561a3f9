-- Wrong chips that do not tell the tales of Hosts: late, idle or aborting. Assumes nothing.
use Rattle.std.specs.Prelude.{refl, Bool, true, false, not, ◌&&◌, eqb, if◌then◌else◌}
use Rattle.shared.specs.Shared.{full}
use Rattle.sdlc.specs.declared.LineUnit.{LineUnit}
use Rattle.sdlc.specs.declared.LineUnit.TheVariants.{Mark, Flag, Byte, Check, Abort}
use Rattle.sdlc.specs.Sending.{aborting, checking, no_bit_left}
use Rattle.settings.specs.Settings.{store7}
use Rattle.channel.specs.declared.Answer.TheVariants.{Gave}
use Rattle.channel.specs.Channel.{with_registers}
use Rattle.tales.specs.Tale.{Happens, telling}
use Rattle.tales.specs.Kind.{is_data, is_tick}
use Rattle.tales.specs.Parts.{with_unit}
use Rattle.tales.specs.Wrong.{but_a, saying}
use Rattle.tales.specs.Refused.{other_list}
use Rattle.hosting.specs.Hosts.{Told}

-- a mark is under way
abbrev marking : LineUnit → Bool
marking Mark = true
marking (Flag n) = false
marking (Byte n v) = false
marking (Check n v) = false
marking (Abort n) = false

-- A's flag behind a mark begins with 1
abbrev flag_behind_a_mark_begins_with1 : Happens
flag_behind_a_mark_begins_with1 =
    saying (λ c e a. if is_tick 0 e && marking c.a.sender.unit then Gave 1 else a)

pub flag_behind_a_mark_begins_with1_refused : Told flag_behind_a_mark_begins_with1 → ⊥
unfolding telling
flag_behind_a_mark_begins_with1_refused t = other_list t.behind_mark refl

-- a byte that comes once A's byte and its owed zero are out is lost
abbrev loses_a_byte_behind_the_eighth_tick : Happens
loses_a_byte_behind_the_eighth_tick =
    but_a (λ was e is.
    let s = was.sender in
    if is_data 0 e && (no_bit_left s.unit && eqb s.insertion.run 0) then was else is)

pub loses_a_byte_behind_the_eighth_tick_refused : Told loses_a_byte_behind_the_eighth_tick → ⊥
unfolding telling
loses_a_byte_behind_the_eighth_tick_refused t = other_list t.ninth_loaded refl

-- a byte that comes while A's abort runs is lost
abbrev loses_bytes_after_an_abort : Happens
loses_bytes_after_an_abort =
    but_a (λ was e is. if is_data 0 e && aborting was.sender.unit then was else is)

pub loses_bytes_after_an_abort_refused : Told loses_bytes_after_an_abort → ⊥
unfolding telling
loses_bytes_after_an_abort_refused t = other_list t.after_abort refl

-- behind a closing flag A sends one more before the next frame
abbrev a_flag_more_between_two_notes : Happens
a_flag_more_between_two_notes =
    but_a (λ was e is.
    let s = was.sender in
    if is_tick 0 e && (checking s.unit && not (checking is.sender.unit))
    then with_registers is (store7 is.registers 1)
    else (if is_tick 0 e && (eqb was.registers.wr7 1 && (no_bit_left s.unit && full s.shared))
    then with_registers (with_unit was (Flag 7)) (store7 was.registers 0)
    else is))

pub a_flag_more_between_two_notes_refused : Told a_flag_more_between_two_notes → ⊥
unfolding telling
a_flag_more_between_two_notes_refused t = other_list t.one_flag refl
