-- Wrong chips that do not tell the tales of Receiving: Monosync, heard. Assumes nothing.
use Rattle.std.specs.Prelude.{unwrap_or, refl, true, false, not, ◌&&◌, ◌-◌, ◌%◌, eqb, if◌then◌else◌}
use Rattle.common.specs.Mode.{in_blocks}
use Rattle.line.specs.Bits.{low_bits}
use Rattle.line.specs.Check.{ones, check_over}
use Rattle.queue.specs.Queue.{waits}
use Rattle.bytesync.specs.Hearing.{block, no_block, reception}
use Rattle.settings.specs.Settings.{enters_hunt, crc16_chosen, mode_in, polynomial_in, store7}
use Rattle.channel.specs.declared.Answer.TheVariants.{Gave}
use Rattle.channel.specs.Answer.{answer_value}
use Rattle.channel.specs.Channel.{with_registers}
use Rattle.tales.specs.Tale.{Happens, telling}
use Rattle.tales.specs.Kind.{value_of, is_bit, is_read, is_write, is_preset}
use Rattle.tales.specs.Parts.{with_wr5, with_heard_check, with_reception}
use Rattle.tales.specs.Wrong.{but_a, first_a, saying}
use Rattle.tales.specs.Refused.{other_number, other_list}
use Rattle.laundry.specs.Receiving.{Told}

-- WR5 D2 = 1 chooses the SDLC polynomial for receiving
abbrev hears_over_the_other_polynomial : Happens
hears_over_the_other_polynomial =
    first_a (λ a e.
    if is_bit 0 e && crc16_chosen a.registers.wr5
    then with_wr5 a (a.registers.wr5 - 4)
    else a)

pub hears_over_the_other_polynomial_refused : Told hears_over_the_other_polynomial → ⊥
unfolding telling
hears_over_the_other_polynomial_refused t = other_number t.good refl

-- RR1 D6 is an entry's: with none waiting it reads 0
abbrev d6_is_an_entrys : Happens
d6_is_an_entrys =
    saying (λ c e w.
    if is_read 0 e && (eqb c.a.pointer 1 && not (waits c.a.queue))
    then Gave (answer_value w % 64)
    else w)

pub d6_is_an_entrys_refused : Told d6_is_an_entrys → ⊥
unfolding telling
d6_is_an_entrys_refused t = other_number t.spoilt refl

-- a character enters the check when it is itself complete
abbrev characters_enter_at_once : Happens
characters_enter_at_once =
    but_a (λ was e is.
    let r = was.receiver.reception in
    let held = low_bits 8 (unwrap_or is.receiver.reception.block.held 0) in
    if is_bit 0 e && (not r.hunt && eqb r.count 7)
    then with_heard_check is
    (check_over (polynomial_in is.registers) was.receiver.check held)
    else is)

pub characters_enter_at_once_refused : Told characters_enter_at_once → ⊥
unfolding telling
characters_enter_at_once_refused t = other_number t.waits refl

-- code 1 of WR0 loads ones in Monosync too
abbrev heard_check_is_preset_to_ones : Happens
heard_check_is_preset_to_ones =
    but_a (λ was e is. if is_preset 0 1 was e then with_heard_check is ones else is)

pub heard_check_is_preset_to_ones_refused : Told heard_check_is_preset_to_ones → ⊥
unfolding telling
heard_check_is_preset_to_ones_refused t = other_number t.preset refl

-- with WR3 D1 every sync is kept out of the queue
abbrev drops_a_later_sync : Happens
drops_a_later_sync =
    first_a (λ a e.
    let r = a.receiver.reception in
    let d = r.block in
    if is_bit 0 e
    then with_reception a
    (reception r.hunt r.bits r.count (block true d.turn d.held))
    else a)

pub drops_a_later_sync_refused : Told drops_a_later_sync → ⊥
unfolding telling
drops_a_later_sync_refused t = other_list t.leading refl

-- behind the match a WR7 does not take hold
abbrev syncs_are_those_of_the_match : Happens
syncs_are_those_of_the_match =
    but_a (λ was e is.
    let matched = in_blocks (mode_in was.registers) && not was.receiver.reception.hunt in
    if is_write 0 7 was e && matched
    then with_registers is (store7 is.registers was.registers.wr7)
    else is)

pub syncs_are_those_of_the_match_refused : Told syncs_are_those_of_the_match → ⊥
unfolding telling
syncs_are_those_of_the_match_refused t = other_number t.written_anew refl

-- hunt counts bits from before Enter Hunt
abbrev hunts_over_earlier_bits : Happens
hunts_over_earlier_bits =
    but_a (λ was e is.
    let r = was.receiver.reception in
    if is_write 0 3 was e && enters_hunt (value_of e)
    then with_reception is (reception true r.bits r.count (no_block false))
    else is)

pub hunts_over_earlier_bits_refused : Told hunts_over_earlier_bits → ⊥
unfolding telling
hunts_over_earlier_bits_refused t = other_number t.searching refl

-- from Monosync to Bisync the half character stays
abbrev keeps_the_half_character : Happens
keeps_the_half_character =
    but_a (λ was e is.
    if is_write 0 4 was e && in_blocks (mode_in was.registers)
    then with_reception is was.receiver.reception
    else is)

pub keeps_the_half_character_refused : Told keeps_the_half_character → ⊥
unfolding telling
keeps_the_half_character_refused t = other_number t.changed refl
