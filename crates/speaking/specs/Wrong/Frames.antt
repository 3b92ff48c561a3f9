-- Wrong chips that do not tell the tales of Frames: SDLC sending. Assumes nothing.
use Rattle.std.specs.Prelude.{refl, true, false, not, ◌&&◌, ◌+◌, ◌-◌, ◌/◌, eqb, if◌then◌else◌}
use Rattle.common.specs.Mode.{in_sdlc}
use Rattle.line.specs.Bits.{odd, one_if}
use Rattle.line.specs.Check.{sdlc, check_over}
use Rattle.shapes.specs.declared.Length.TheVariants.{Five}
use Rattle.shared.specs.Shared.{full, waiting_byte}
use Rattle.shapes.specs.Sent.{bits_sent, sent_bits}
use Rattle.sdlc.specs.declared.LineUnit.TheVariants.{Mark, Flag, Byte}
use Rattle.sdlc.specs.Sending.{insertion, aborting, checking, no_bit_left}
use Rattle.settings.specs.Settings.{check_included, sender_on, sent_field, sends, mode_in}
use Rattle.channel.specs.declared.Answer.TheVariants.{Gave}
use Rattle.channel.specs.Channel.{with_status}
use Rattle.channel.specs.Answer.{answer_value}
use Rattle.tales.specs.Tale.{Happens, telling}
use Rattle.tales.specs.Kind.{is_load, value_of, is_read, is_tick, is_command, is_write}
use Rattle.tales.specs.Parts.{with_unit, with_insertion, with_buffer, with_latch, with_sent_check}
use Rattle.tales.specs.Wrong.{but_a, first_a, saying}
use Rattle.tales.specs.Refused.{other_number, other_list}
use Rattle.speaking.specs.Frames.{Told}

-- in SDLC with length 00 A sends and checks as much of a byte as its shape says
abbrev shapes_in_sdlc : Happens
shapes_in_sdlc =
    but_a (λ was e is.
    let k = was.sender.shared in
    let r = is.registers in
    if is_load 0 was e is && (in_sdlc (mode_in r) && eqb (sent_field r.wr5) 0)
    then with_unit
    (if check_included r.wr5
    then with_sent_check is (check_over sdlc k.check (sent_bits Five (waiting_byte k)))
    else is)
    (Byte (bits_sent Five (waiting_byte k) - 1) (waiting_byte k / 2))
    else is)

pub shapes_in_sdlc_refused : Told shapes_in_sdlc → ⊥
unfolding telling
shapes_in_sdlc_refused t = other_list t.no_shape refl

-- A's count of ones starts anew with each byte
abbrev counts_ones_anew_at_each_byte : Happens
counts_ones_anew_at_each_byte =
    but_a (λ was e is.
    if is_load 0 was e is
    then with_insertion is (insertion (one_if (odd (waiting_byte was.sender.shared))) false)
    else is)

pub counts_ones_anew_at_each_byte_refused : Told counts_ones_anew_at_each_byte → ⊥
unfolding telling
counts_ones_anew_at_each_byte_refused t = other_list t.over_bytes refl

-- A's latch is set by the check alone, not by the flag in its place
abbrev latch_wants_the_check : Happens
latch_wants_the_check =
    but_a (λ was e is.
    if is_tick 0 e && not (checking is.sender.unit)
    then with_status (with_latch is was.sender.shared.latch) was.status
    else is)

pub latch_wants_the_check_refused : Told latch_wants_the_check → ⊥
unfolding telling
latch_wants_the_check_refused t = other_number t.flag_latches refl

-- A sends a check though the latch is set
abbrev sends_the_check_though_latched : Happens
sends_the_check_though_latched = first_a (λ a e. if is_tick 0 e then with_latch a false else a)

pub sends_the_check_though_latched_refused : Told sends_the_check_though_latched → ⊥
unfolding telling
sends_the_check_though_latched_refused t = other_list t.latched_no_check refl

-- behind A's check a byte goes out at once if one waits
abbrev sends_a_byte_behind_the_check : Happens
sends_a_byte_behind_the_check =
    first_a (λ a e.
    if is_tick 0 e && (checking a.sender.unit && no_bit_left a.sender.unit)
    then with_unit a (Flag 0)
    else a)

pub sends_a_byte_behind_the_check_refused : Told sends_a_byte_behind_the_check → ⊥
unfolding telling
sends_a_byte_behind_the_check_refused t = other_list t.flag_behind_check refl

-- WR5 with the sender off ends A's unit at once
abbrev off_cuts_a_unit_short : Happens
off_cuts_a_unit_short =
    but_a (λ was e is.
    if is_write 0 5 was e && not (sender_on (value_of e))
    then with_unit is Mark
    else is)

pub off_cuts_a_unit_short_refused : Told off_cuts_a_unit_short → ⊥
unfolding telling
off_cuts_a_unit_short_refused t = other_list t.flag_finished refl

-- a mark behind A's byte sets the latch, as a flag would
abbrev off_sets_the_latch : Happens
off_sets_the_latch =
    but_a (λ was e is.
    if is_tick 0 e && not (sends is.registers is.lines)
    then with_latch is true
    else is)

pub off_sets_the_latch_refused : Told off_sets_the_latch → ⊥
unfolding telling
off_sets_the_latch_refused t = other_number t.no_underrun refl

-- RR0 D2 of A is 1 while a check is sent
abbrev d2_leaves_the_check_out : Happens
d2_leaves_the_check_out =
    saying (λ c e w.
    let s = c.a.sender in
    if is_read 0 e && (eqb c.a.pointer 0 && (checking s.unit && not (full s.shared)))
    then Gave (answer_value w + 4)
    else w)

pub d2_leaves_the_check_out_refused : Told d2_leaves_the_check_out → ⊥
unfolding telling
d2_leaves_the_check_out_refused t = other_number t.no_d2 refl

-- Send Abort leaves the byte in A's buffer
abbrev abort_keeps_the_buffer : Happens
abort_keeps_the_buffer =
    but_a (λ was e is.
    let k = was.sender.shared in
    if aborting is.sender.unit && not (aborting was.sender.unit)
    then with_buffer is k.buffer
    else is)

pub abort_keeps_the_buffer_refused : Told abort_keeps_the_buffer → ⊥
unfolding telling
abort_keeps_the_buffer_refused t = other_number t.buffer_dropped refl

-- A's abort is no longer under way once its ones are sent
abbrev abort_ends_with_its_last_one : Happens
abort_ends_with_its_last_one =
    first_a (λ a e.
    if is_command 0 1 a e && (aborting a.sender.unit && no_bit_left a.sender.unit)
    then with_unit a Mark
    else a)

pub abort_ends_with_its_last_one_refused : Told abort_ends_with_its_last_one → ⊥
unfolding telling
abort_ends_with_its_last_one_refused t = other_list t.abort_once refl
