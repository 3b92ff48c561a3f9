-- Wrong chips that do not tell the tales of Pending: which sources are pending. Assumes nothing.
use Rattle.std.specs.Prelude.{refl, true, false, not, ◌&&◌, eqb, if◌then◌else◌}
use Rattle.settings.specs.Settings.{receive_field}
use Rattle.channel.specs.Channel.{with_armed, with_transmit}
use Rattle.tales.specs.Tale.{Happens, telling}
use Rattle.tales.specs.Kind.{is_load, is_read, is_take, is_write}
use Rattle.tales.specs.Parts.{with_wr1, with_entries}
use Rattle.tales.specs.Wrong.{but_a, first_a}
use Rattle.tales.specs.Refused.{other_number}
use Rattle.asking.specs.Pending.{Told}

-- A stays armed for its first character when one is read
abbrev data_read_does_not_disarm : Happens
data_read_does_not_disarm = but_a (λ was e is. if is_take 0 e then with_armed is was.armed else is)

pub data_read_does_not_disarm_refused : Told data_read_does_not_disarm → ⊥
unfolding telling
data_read_does_not_disarm_refused t = other_number t.disarmed refl

-- in receive mode 1 a special entry of A asks only while armed
abbrev special_wants_arming : Happens
special_wants_arming =
    first_a (λ a e.
    if is_read 0 e && (eqb (receive_field a.registers.wr1) 1 && not a.armed)
    then with_wr1 a 0
    else a)

pub special_wants_arming_refused : Told special_wants_arming → ⊥
unfolding telling
special_wants_arming_refused t = other_number t.special_disarmed refl

-- an overrun of A asks as any character does
abbrev overrun_is_not_special : Happens
overrun_is_not_special =
    first_a (λ a e. if is_read 0 e
    then with_entries a (λ x. record {
      byte = x.byte;
      parity = x.parity;
      overrun = false;
      framing = x.framing;
      ends = x.ends;
      bad = x.bad;
    })
    else a)

pub overrun_is_not_special_refused : Told overrun_is_not_special → ⊥
unfolding telling
overrun_is_not_special_refused t = other_number t.overrun_special refl

-- a load of A makes transmit pending whatever WR1 D1 is
abbrev asks_at_a_load_without_d1 : Happens
asks_at_a_load_without_d1 = but_a (λ was e is. if is_load 0 was e is then with_transmit is true else is)

pub asks_at_a_load_without_d1_refused : Told asks_at_a_load_without_d1 → ⊥
unfolding telling
asks_at_a_load_without_d1_refused t = other_number t.no_load_without_d1 refl

-- WR1 D1 off only hides A's pending transmit, which comes back with it
abbrev d1_masks_a_pending_transmit : Happens
d1_masks_a_pending_transmit =
    but_a (λ was e is. if is_write 0 1 was e then with_transmit is was.transmit else is)

pub d1_masks_a_pending_transmit_refused : Told d1_masks_a_pending_transmit → ⊥
unfolding telling
d1_masks_a_pending_transmit_refused t = other_number t.d1_off_ends refl
