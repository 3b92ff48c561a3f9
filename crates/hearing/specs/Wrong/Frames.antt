-- Wrong chips that do not tell the tales of Frames: SDLC receiving. Assumes nothing.
use Rattle.std.specs.Prelude.{is_none, unwrap_or, refl, Bool, true, false, ◌&&◌, ℕ, eqb, if◌then◌else◌}
use Rattle.sdlc.specs.Hearing.{content, no_chars}
use Rattle.settings.specs.Settings.{searches}
use Rattle.chip.specs.Event.{Event}
use Rattle.tales.specs.Tale.{Happens, telling}
use Rattle.tales.specs.Kind.{is_deaf, value_of, is_bit, is_write}
use Rattle.tales.specs.Parts.{with_content, with_broken, with_skip, with_ones, with_entries}
use Rattle.tales.specs.Wrong.{but_a, first_a}
use Rattle.tales.specs.Refused.{other_number, other_list}
use Rattle.hearing.specs.Frames.{Told}

-- this bit comes to A
abbrev hears : Event → ℕ → Bool
hears e bit = is_bit 0 e && eqb (value_of e) bit

-- A takes the 0 behind five ones for content
abbrev keeps_inserted_zeros : Happens
keeps_inserted_zeros =
    first_a (λ a e. if hears e 0 && eqb a.receiver.content.ones 5 then with_ones a 4 else a)

pub keeps_inserted_zeros_refused : Told keeps_inserted_zeros → ⊥
unfolding telling
keeps_inserted_zeros_refused t = other_list t.values refl

-- A calls every frame's check good
abbrev marks_every_end_good : Happens
marks_every_end_good =
    but_a (λ was e is. with_entries is (λ x. record {
      byte = x.byte;
      parity = x.parity;
      overrun = x.overrun;
      framing = x.framing;
      ends = x.ends;
      bad = false;
    }))

pub marks_every_end_good_refused : Told marks_every_end_good → ⊥
unfolding telling
marks_every_end_good_refused t = other_number t.bad_end_lem refl

-- a flag leaves its own bits in the delay of A
abbrev takes_flag_bits_as_content : Happens
takes_flag_bits_as_content =
    but_a (λ was e is.
    let t = was.receiver.content in
    if eqb t.ones 6 && eqb is.receiver.content.ones 0
    then with_content is (content false false 0 t.delay no_chars)
    else is)

pub takes_flag_bits_as_content_refused : Told takes_flag_bits_as_content → ⊥
unfolding telling
takes_flag_bits_as_content_refused t = other_list t.next_values refl

-- seven ones do not set A's D7
abbrev does_not_tell_an_abort : Happens
does_not_tell_an_abort =
    but_a (λ was e is.
    if hears e 1 && eqb is.receiver.content.ones 7
    then with_broken is was.receiver.broken
    else is)

pub does_not_tell_an_abort_refused : Told does_not_tell_an_abort → ⊥
unfolding telling
does_not_tell_an_abort_refused t = other_number t.abort refl

-- A drops a frame for FF, as it does one for others
abbrev address_of_all_is_none : Happens
address_of_all_is_none =
    but_a (λ was e is.
    if is_bit 0 e && (searches is.registers.wr3 && (is_none was.receiver.content.chars.held
    && eqb (unwrap_or is.receiver.content.chars.held 0) 0xFF))
    then with_skip is true
    else is)

pub address_of_all_is_none_refused : Told address_of_all_is_none → ⊥
unfolding telling
address_of_all_is_none_refused t = other_number t.everyone refl

-- Enter Hunt leaves the ones that A has counted
abbrev hunt_keeps_the_count_of_ones : Happens
hunt_keeps_the_count_of_ones =
    but_a (λ was e is. if is_write 0 3 was e then with_ones is was.receiver.content.ones else is)

pub hunt_keeps_the_count_of_ones_refused : Told hunt_keeps_the_count_of_ones → ⊥
unfolding telling
hunt_keeps_the_count_of_ones_refused t = other_number t.ones_dropped refl

-- a tick while off leaves A between its flags
abbrev off_starts_no_hunt : Happens
off_starts_no_hunt =
    but_a (λ was e is. if is_deaf 0 was e then with_content is was.receiver.content else is)

pub off_starts_no_hunt_refused : Told off_starts_no_hunt → ⊥
unfolding telling
off_starts_no_hunt_refused t = other_number t.off_hunts refl
