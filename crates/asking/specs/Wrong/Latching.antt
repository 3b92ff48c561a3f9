-- Wrong chips that do not tell the tales of Latching: latched status. Assumes nothing.
use Rattle.std.specs.Prelude.{refl, false, not, ◌&&◌, if◌then◌else◌, None}
use Rattle.channel.specs.Channel.{with_status}
use Rattle.tales.specs.Tale.{Happens, telling}
use Rattle.tales.specs.Kind.{is_lines, is_command}
use Rattle.tales.specs.Parts.{with_latched, with_broken}
use Rattle.tales.specs.Wrong.{but_a}
use Rattle.tales.specs.Refused.{other_number}
use Rattle.asking.specs.Latching.{Told}

-- A's DCD latches status only when it rises
abbrev dcd_falls_unlatched : Happens
dcd_falls_unlatched =
    but_a (λ was e is.
    if is_lines 0 e && (was.lines.dcd && not is.lines.dcd)
    then with_status is was.status
    else is)

pub dcd_falls_unlatched_refused : Told dcd_falls_unlatched → ⊥
unfolding telling
dcd_falls_unlatched_refused t = other_number t.dcd_falls refl

-- a flag that ends A's hunt latches nothing
abbrev hunt_ends_unlatched : Happens
hunt_ends_unlatched =
    but_a (λ was e is.
    if was.receiver.content.hunt && not is.receiver.content.hunt
    then with_status is was.status
    else is)

pub hunt_ends_unlatched_refused : Told hunt_ends_unlatched → ⊥
unfolding telling
hunt_ends_unlatched_refused t = other_number t.hunt_ends refl

-- Reset External/Status unlatches even if a bit has changed
abbrev reset_status_never_latches_again : Happens
reset_status_never_latches_again =
    but_a (λ was e is. if is_command 0 2 was e then with_latched is None else is)

pub reset_status_never_latches_again_refused : Told reset_status_never_latches_again → ⊥
unfolding telling
reset_status_never_latches_again_refused t = other_number t.latched_again refl

-- Reset External/Status clears A's D7
abbrev reset_status_clears_an_abort : Happens
reset_status_clears_an_abort =
    but_a (λ was e is. if is_command 0 2 was e then with_broken is false else is)

pub reset_status_clears_an_abort_refused : Told reset_status_clears_an_abort → ⊥
unfolding telling
reset_status_clears_an_abort_refused t = other_number t.abort_stays refl
