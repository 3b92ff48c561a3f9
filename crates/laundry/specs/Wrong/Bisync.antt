-- Wrong chips that do not tell the tales of Bisync. Assumes nothing.
use Rattle.std.specs.Prelude.{refl, true, false, ◌&&◌, ◌/◌, eqb, ltb, if◌then◌else◌}
use Rattle.bytesync.specs.Hearing.{no_block, reception}
use Rattle.tales.specs.Tale.{Happens, telling}
use Rattle.tales.specs.Kind.{is_bit}
use Rattle.tales.specs.Parts.{with_reception}
use Rattle.tales.specs.Wrong.{but_a}
use Rattle.tales.specs.Refused.{other_number}
use Rattle.laundry.specs.Bisync.{Told}

-- in Bisync hunt ends with WR7, whatever came before it
abbrev hunts_for_wr7_alone_in_bisync : Happens
hunts_for_wr7_alone_in_bisync =
    but_a (λ was e is.
    let r = is.receiver.reception in
    let k = is.registers in
    if is_bit 0 e && (eqb k.wr4 0b10000
    && (r.hunt && (ltb 7 r.count && eqb (r.bits / 256) k.wr7)))
    then with_reception is (reception false 0 0 (no_block true))
    else is)

pub hunts_for_wr7_alone_in_bisync_refused : Told hunts_for_wr7_alone_in_bisync → ⊥
unfolding telling
hunts_for_wr7_alone_in_bisync_refused t = other_number t.turned refl
