-- Wrong chips that do not tell the tales of Sending: Monosync, sent. Assumes nothing.
use Rattle.std.specs.Prelude.{refl, false, ◌&&◌, ◌-◌, if◌then◌else◌}
use Rattle.line.specs.Bits.{low_bits}
use Rattle.line.specs.Check.{ones, check_over}
use Rattle.settings.specs.Settings.{crc16_chosen, polynomial_in}
use Rattle.tales.specs.Tale.{Happens, telling}
use Rattle.tales.specs.Kind.{is_tick, is_preset}
use Rattle.tales.specs.Parts.{with_wr5, with_wr6, with_latch, with_sent_check}
use Rattle.tales.specs.Wrong.{but_a, first_a}
use Rattle.tales.specs.Refused.{other_list}
use Rattle.laundry.specs.Unit.{sync_begun}
use Rattle.laundry.specs.Sending.{Told}

-- Monosync sends WR7
abbrev sends_wr7_in_monosync : Happens
sends_wr7_in_monosync = first_a (λ a e. if is_tick 0 e then with_wr6 a a.registers.wr7 else a)

pub sends_wr7_in_monosync_refused : Told sends_wr7_in_monosync → ⊥
unfolding telling
sends_wr7_in_monosync_refused t = other_list t.sync refl

-- WR5 D2 = 1 chooses the SDLC polynomial for sending
abbrev sends_over_the_other_polynomial : Happens
sends_over_the_other_polynomial =
    first_a (λ a e.
    if is_tick 0 e && crc16_chosen a.registers.wr5
    then with_wr5 a (a.registers.wr5 - 4)
    else a)

pub sends_over_the_other_polynomial_refused : Told sends_over_the_other_polynomial → ⊥
unfolding telling
sends_over_the_other_polynomial_refused t = other_list t.checked refl

-- code 2 of WR0 loads ones in Monosync too
abbrev sent_check_is_preset_to_ones : Happens
sent_check_is_preset_to_ones =
    but_a (λ was e is. if is_preset 0 2 was e then with_sent_check is ones else is)

pub sent_check_is_preset_to_ones_refused : Told sent_check_is_preset_to_ones → ⊥
unfolding telling
sent_check_is_preset_to_ones_refused t = other_list t.checked refl

-- a sync that is sent enters the check
abbrev syncs_enter_the_check : Happens
syncs_enter_the_check =
    but_a (λ was e is.
    let r = is.registers in
    if is_tick 0 e && sync_begun is.sender.block
    then with_sent_check is
    (check_over (polynomial_in r) is.sender.shared.check (low_bits 8 r.wr6))
    else is)

pub syncs_enter_the_check_refused : Told syncs_enter_the_check → ⊥
unfolding telling
syncs_enter_the_check_refused t = other_list t.checked refl

-- the check goes out though the latch was set
abbrev sends_the_check_though_the_latch_is_set : Happens
sends_the_check_though_the_latch_is_set = first_a (λ a e. if is_tick 0 e then with_latch a false else a)

pub sends_the_check_though_the_latch_is_set_refused : Told sends_the_check_though_the_latch_is_set → ⊥
unfolding telling
sends_the_check_though_the_latch_is_set_refused t = other_list t.unchecked refl
