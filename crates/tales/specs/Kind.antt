-- What an event is, told by numbers and tests, for the making of wrong chips. Assumes nothing.
use Rattle.std.specs.Prelude.{Bool, not, ◌&&◌, ℕ, eqb, ltb}
use Rattle.common.specs.Mode.{same_mode}
use Rattle.shared.specs.Shared.{full}
use Rattle.settings.specs.Settings.{command_in, preset_in, mode_in, receiving_of}
use Rattle.channel.specs.declared.Channel.{Channel}
use Rattle.chip.specs.Event.{Event, HardReset, ControlWrite, ControlRead, DataWrite, DataRead}
use Rattle.chip.specs.Event.{Transmit, Receive, SetLines, Acknowledge, Reti}

-- 01, Events, in its order
abbrev pub kind : Event → ℕ
kind HardReset = 0
kind (ControlWrite ch v) = 1
kind (ControlRead ch) = 2
kind (DataWrite ch v) = 3
kind (DataRead ch) = 4
kind (Transmit ch) = 5
kind (Receive ch bit) = 6
kind (SetLines ch dcd cts) = 7
kind Acknowledge = 8
kind Reti = 9

-- the channel that it names, 2 for none
abbrev pub channel_of : Event → ℕ
channel_of HardReset = 2
channel_of (ControlWrite ch v) = ch
channel_of (ControlRead ch) = ch
channel_of (DataWrite ch v) = ch
channel_of (DataRead ch) = ch
channel_of (Transmit ch) = ch
channel_of (Receive ch bit) = ch
channel_of (SetLines ch dcd cts) = ch
channel_of Acknowledge = 2
channel_of Reti = 2

-- the byte or the line bit that it brings, 0 for none
abbrev pub value_of : Event → ℕ
value_of HardReset = 0
value_of (ControlWrite ch v) = v
value_of (ControlRead ch) = 0
value_of (DataWrite ch v) = v
value_of (DataRead ch) = 0
value_of (Transmit ch) = 0
value_of (Receive ch bit) = bit
value_of (SetLines ch dcd cts) = 0
value_of Acknowledge = 0
value_of Reti = 0

abbrev pub is_reset : Event → Bool
is_reset e = eqb (kind e) 0

abbrev pub is_acknowledge : Event → Bool
is_acknowledge e = eqb (kind e) 8

abbrev pub is_reti : Event → Bool
is_reti e = eqb (kind e) 9

-- on the channel of this number
abbrev pub is_on : ℕ → ℕ → Event → Bool
is_on k ch e = eqb (kind e) k && eqb (channel_of e) ch

abbrev pub is_control : ℕ → Event → Bool
is_control ch e = is_on 1 ch e

abbrev pub is_read : ℕ → Event → Bool
is_read ch e = is_on 2 ch e

abbrev pub is_data : ℕ → Event → Bool
is_data ch e = is_on 3 ch e

abbrev pub is_take : ℕ → Event → Bool
is_take ch e = is_on 4 ch e

abbrev pub is_tick : ℕ → Event → Bool
is_tick ch e = is_on 5 ch e

abbrev pub is_bit : ℕ → Event → Bool
is_bit ch e = is_on 6 ch e

abbrev pub is_lines : ℕ → Event → Bool
is_lines ch e = is_on 7 ch e

-- WR0 of a channel as it was, with this command
abbrev pub is_command : ℕ → ℕ → Channel → Event → Bool
is_command ch k was e =
    is_control ch e && (eqb was.pointer 0 && eqb (command_in (value_of e)) k)

-- the same with this code of D7-6
abbrev pub is_preset : ℕ → ℕ → Channel → Event → Bool
is_preset ch k was e =
    is_control ch e && (eqb was.pointer 0 && eqb (preset_in (value_of e)) k)

-- this register of a channel as it was
abbrev pub is_write : ℕ → ℕ → Channel → Event → Bool
is_write ch wr was e = is_control ch e && eqb was.pointer wr

-- a WR4 that changed the mode of a channel
abbrev pub is_change : ℕ → Channel → Event → Channel → Bool
is_change ch was e is =
    is_write ch 4 was e
    && not (same_mode (mode_in was.registers) (mode_in is.registers))

-- a tick that loaded a byte or a character of a channel
abbrev pub is_load : ℕ → Channel → Event → Channel → Bool
is_load ch was e is =
    is_tick ch e && (full was.sender.shared && not (full is.sender.shared))

-- a bit that found a channel's receiver off; and one that queued an entry
abbrev pub is_deaf : ℕ → Channel → Event → Bool
is_deaf ch was e = is_bit ch e && not (receiving_of was.registers was.lines).on

abbrev pub is_queued : ℕ → Channel → Event → Channel → Bool
is_queued ch was e is = is_bit ch e && ltb was.queue.count is.queue.count
