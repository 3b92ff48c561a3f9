-- Wrong chips that do not tell the tales of Characters: asynchronous sending. Assumes nothing.
use Rattle.std.specs.Prelude.{refl, true, not, ◌&&◌, ◌+◌, ◌-◌, ◌*◌, ◌/◌, ◌%◌, eqb, if◌then◌else◌}
use Rattle.shared.specs.Shared.{full}
use Rattle.asynchronous.specs.Sending.{no_character}
use Rattle.settings.specs.Settings.{store4, store5, stop_field, auto_enables, sender_on, breaks}
use Rattle.channel.specs.Events.{data_written}
use Rattle.chip.specs.Interrupts.{with_a, with_b}
use Rattle.chip.specs.Event.{Transmit, step}
use Rattle.tales.specs.Tale.{Happens, telling, chip_behind, times}
use Rattle.tales.specs.Kind.{is_load, value_of, is_data, is_tick, is_write}
use Rattle.tales.specs.Parts.{with_wr5, with_character, with_buffer}
use Rattle.tales.specs.Wrong.{but_a, but, taking_a}
use Rattle.tales.specs.Refused.{other_number, other_list}
use Rattle.speaking.specs.Characters.{Told}

-- with a load A's sender goes through all of its line at once, and then sends marks
abbrev lays_its_line_out_and_idles : Happens
lays_its_line_out_and_idles =
    but (λ was e is.
    if is_load 0 was.a e is.a
    then with_a is (with_wr5 (chip_behind step is (times 39 (Transmit 0))).a 0)
    else is)

pub lays_its_line_out_and_idles_refused : Told lays_its_line_out_and_idles → ⊥
unfolding telling
lays_its_line_out_and_idles_refused t = other_list t.eight_bits_lem refl

-- A sends one stop bit where WR4 says two
abbrev sends_one_stop_for_two : Happens
sends_one_stop_for_two =
    taking_a (λ r. store4 r (if eqb (stop_field r.wr4) 3 then r.wr4 - 8 else r.wr4))

pub sends_one_stop_for_two_refused : Told sends_one_stop_for_two → ⊥
unfolding telling
sends_one_stop_for_two_refused t = other_number t.two_stops_lem refl

-- WR5 with the sender off ends A's character under way
abbrev off_drops_a_character : Happens
off_drops_a_character =
    but_a (λ was e is.
    if is_write 0 5 was e && not (sender_on (value_of e))
    then with_character is no_character
    else is)

pub off_drops_a_character_refused : Told off_drops_a_character → ⊥
unfolding telling
off_drops_a_character_refused t = other_list t.finished_off refl

-- a data write to A's full buffer is lost
abbrev keeps_what_its_buffer_has : Happens
keeps_what_its_buffer_has =
    but_a (λ was e is.
    if is_data 0 e && full was.sender.shared
    then with_buffer is was.sender.shared.buffer
    else is)

pub keeps_what_its_buffer_has_refused : Told keeps_what_its_buffer_has → ⊥
unfolding telling
keeps_what_its_buffer_has_refused t = other_list t.replaced refl

-- a data write to B gives B what A would be behind it
abbrev writes_data_for_b_from_a : Happens
writes_data_for_b_from_a =
    but (λ was e is.
    if is_data 1 e then with_b is (data_written was.a (value_of e)) else is)

pub writes_data_for_b_from_a_refused : Told writes_data_for_b_from_a → ⊥
unfolding telling
writes_data_for_b_from_a_refused t = other_number t.byte_in_b refl

-- while A's break lasts its character waits
abbrev break_holds_the_steps : Happens
break_holds_the_steps =
    but_a (λ was e is.
    let under = not (eqb was.sender.character.left 0) in
    if is_tick 0 e && (breaks is.registers.wr5 && under)
    then with_character is was.sender.character
    else is)

pub break_holds_the_steps_refused : Told break_holds_the_steps → ⊥
unfolding telling
break_holds_the_steps_refused t = other_list t.break_goes_on refl

-- with auto enables CTS turns A's sender on, whatever WR5 D3 is
abbrev sends_by_cts_alone : Happens
sends_by_cts_alone c e =
    taking_a (λ r.
    if auto_enables r.wr3 && c.a.lines.cts
    then store5 r (r.wr5 % 8 + 8 + r.wr5 / 16 * 16)
    else r) c e

pub sends_by_cts_alone_refused : Told sends_by_cts_alone → ⊥
unfolding telling
sends_by_cts_alone_refused t = other_list t.cts_alone refl
