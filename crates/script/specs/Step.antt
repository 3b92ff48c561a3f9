-- 01, Events: the ten events of code, by their codes, and as the definitions say them. Assumes
-- nothing.
use Rattle.std.specs.Prelude.{ℕ, eqb, if◌then◌else◌}
use Rattle.chip.specs.Event as paper
use Rattle.script.specs.declared.Event.{Event}
use Rattle.script.specs.declared.Event.TheVariants.{HardReset, ControlWrite, ControlRead, DataWrite}
use Rattle.script.specs.declared.Event.TheVariants.{DataRead, Transmit, Receive, SetLines}
use Rattle.script.specs.declared.Event.TheVariants.{Acknowledge, Reti}

-- "Hard reset; control write, control read, data write, data read; transmit tick (gives one line
-- bit); receive tick (takes one); set DCD and CTS; acknowledge; RETI." Their codes are 0 to 9 in
-- this order, and any other is taken as the last; x is the channel.
abbrev pub event_of : ℕ → ℕ → ℕ → ℕ → Event
event_of code x y z =
    if eqb code 0 then HardReset
    else (if eqb code 1 then ControlWrite x y
    else (if eqb code 2 then ControlRead x
    else (if eqb code 3 then DataWrite x y
    else (if eqb code 4 then DataRead x
    else (if eqb code 5 then Transmit x
    else (if eqb code 6 then Receive x y
    else (if eqb code 7 then SetLines x y z
    else (if eqb code 8 then Acknowledge
    else Reti))))))))

abbrev pub said : Event → paper.Event
said HardReset = paper.HardReset
said (ControlWrite ch v) = paper.ControlWrite ch v
said (ControlRead ch) = paper.ControlRead ch
said (DataWrite ch v) = paper.DataWrite ch v
said (DataRead ch) = paper.DataRead ch
said (Transmit ch) = paper.Transmit ch
said (Receive ch bit) = paper.Receive ch bit
said (SetLines ch dcd cts) = paper.SetLines ch dcd cts
said Acknowledge = paper.Acknowledge
said Reti = paper.Reti
