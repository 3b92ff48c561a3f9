-- Wrong chips that do not tell the tales of Resets: what a reset does. Assumes nothing.
use Rattle.std.specs.Prelude.{refl, false, if◌then◌else◌}
use Rattle.interrupts.specs.Interrupts.{six, no_sources, no_six}
use Rattle.channel.specs.Channel.{with_status, with_lines, with_armed}
use Rattle.chip.specs.Interrupts.{with_b, in_service}
use Rattle.tales.specs.Tale.{Happens, telling}
use Rattle.tales.specs.Kind.{is_reset, is_command}
use Rattle.tales.specs.Parts.{with_wr3, with_wr4, with_buffer, with_latch, with_sent_check, with_broken}
use Rattle.tales.specs.Wrong.{but_a, but}
use Rattle.tales.specs.Refused.{other_number, other_list}
use Rattle.resetting.specs.Resets.{Told}

-- a channel reset leaves A's WR3
abbrev reset_keeps_wr3 : Happens
reset_keeps_wr3 =
    but_a (λ was e is. if is_command 0 3 was e then with_wr3 is was.registers.wr3 else is)

pub reset_keeps_wr3_refused : Told reset_keeps_wr3 → ⊥
unfolding telling
reset_keeps_wr3_refused t = other_number t.wr3_zero refl

-- a channel reset leaves the byte in A's buffer
abbrev reset_keeps_the_buffer : Happens
reset_keeps_the_buffer =
    but_a (λ was e is.
    if is_command 0 3 was e
    then with_buffer is was.sender.shared.buffer
    else is)

pub reset_keeps_the_buffer_refused : Told reset_keeps_the_buffer → ⊥
unfolding telling
reset_keeps_the_buffer_refused t = other_number t.buffer_empty refl

-- a channel reset leaves A's WR4
abbrev reset_keeps_the_mode : Happens
reset_keeps_the_mode =
    but_a (λ was e is. if is_command 0 3 was e then with_wr4 is was.registers.wr4 else is)

pub reset_keeps_the_mode_refused : Told reset_keeps_the_mode → ⊥
unfolding telling
reset_keeps_the_mode_refused t = other_number t.no_mode refl

-- a channel reset does not set A's D6
abbrev reset_leaves_d6 : Happens
reset_leaves_d6 =
    but_a (λ was e is. if is_command 0 3 was e then with_latch is was.sender.shared.latch else is)

pub reset_leaves_d6_refused : Told reset_leaves_d6 → ⊥
unfolding telling
reset_leaves_d6_refused t = other_number t.d6_set refl

-- a channel reset does not clear A's D7
abbrev reset_leaves_d7 : Happens
reset_leaves_d7 =
    but_a (λ was e is. if is_command 0 3 was e then with_broken is was.receiver.broken else is)

pub reset_leaves_d7_refused : Told reset_leaves_d7 → ⊥
unfolding telling
reset_leaves_d7_refused t = other_number t.d7_clear refl

-- a channel reset leaves A disarmed
abbrev reset_does_not_arm : Happens
reset_does_not_arm = but_a (λ was e is. if is_command 0 3 was e then with_armed is was.armed else is)

pub reset_does_not_arm_refused : Told reset_does_not_arm → ⊥
unfolding telling
reset_does_not_arm_refused t = other_number t.armed refl

-- a channel reset does not preset the check of what A sends
abbrev reset_leaves_the_sent_check : Happens
reset_leaves_the_sent_check =
    but_a (λ was e is.
    if is_command 0 3 was e
    then with_sent_check is was.sender.shared.check
    else is)

pub reset_leaves_the_sent_check_refused : Told reset_leaves_the_sent_check → ⊥
unfolding telling
reset_leaves_the_sent_check_refused t = other_list t.preset refl

-- a channel reset of A ends B's sources in service too
abbrev reset_ends_b_in_service : Happens
reset_ends_b_in_service =
    but (λ was e is.
    if is_command 0 3 was.a e
    then in_service is no_six
    else is)

pub reset_ends_b_in_service_refused : Told reset_ends_b_in_service → ⊥
unfolding telling
reset_ends_b_in_service_refused t = other_number t.service_of_b refl

-- a channel reset of B leaves B's sources in service
abbrev reset_leaves_b_in_service : Happens
reset_leaves_b_in_service =
    but (λ was e is. if is_command 1 3 was.b e then in_service is was.service else is)

pub reset_leaves_b_in_service_refused : Told reset_leaves_b_in_service → ⊥
unfolding telling
reset_leaves_b_in_service_refused t = other_number t.service_ended_in_b refl

-- a channel reset of B ends A's sources in service, and not B's
abbrev reset_of_b_ends_a_in_service : Happens
reset_of_b_ends_a_in_service =
    but (λ was e is.
    if is_command 1 3 was.b e
    then in_service is (six no_sources was.service.b)
    else is)

pub reset_of_b_ends_a_in_service_refused : Told reset_of_b_ends_a_in_service → ⊥
unfolding telling
reset_of_b_ends_a_in_service_refused t = other_number t.service_of_a refl

-- a channel reset leaves A's status latched
abbrev reset_leaves_status_latched : Happens
reset_leaves_status_latched =
    but_a (λ was e is. if is_command 0 3 was e then with_status is was.status else is)

pub reset_leaves_status_latched_refused : Told reset_leaves_status_latched → ⊥
unfolding telling
reset_leaves_status_latched_refused t = other_number t.unlatched refl

-- a channel reset takes DCD and CTS of A for off
abbrev reset_switches_the_lines_off : Happens
reset_switches_the_lines_off =
    but_a (λ was e is.
    if is_command 0 3 was e
    then with_lines is (record { dcd = false; cts = false })
    else is)

pub reset_switches_the_lines_off_refused : Told reset_switches_the_lines_off → ⊥
unfolding telling
reset_switches_the_lines_off_refused t = other_number t.unlatched refl

-- a hard reset leaves B as it was
abbrev hard_reset_is_of_a_alone : Happens
hard_reset_is_of_a_alone = but (λ was e is. if is_reset e then with_b is was.b else is)

pub hard_reset_is_of_a_alone_refused : Told hard_reset_is_of_a_alone → ⊥
unfolding telling
hard_reset_is_of_a_alone_refused t = other_number t.b_too refl
