-- The planner's side of 01, Sending: how a station drives channel A of a chip, call by call, to
-- send a note. Assumes nothing.
use Rattle.std.specs.Prelude.{Bool, true, false, not, ◌&&◌, List, [], ◌∷◌, ℕ, zero, suc, ◌+◌, ◌-◌, ◌/◌, eqb, length, get_or, drop, if◌then◌else◌}
use Rattle.common.specs.Mode.{in_sdlc}
use Rattle.line.specs.Bits.{odd}
use Rattle.line.specs.Frame.{flag_bits, ticks_of}
use Rattle.sdlc.specs.declared.LineUnit.{LineUnit}
use Rattle.sdlc.specs.declared.LineUnit.TheVariants.{Mark, Flag, Byte, Check, Abort}
use Rattle.sdlc.specs.Sending.{aborting}
use Rattle.sender.specs.declared.Sender.{Sender}
use Rattle.sender.specs.declared.Sending.{Sending}
use Rattle.settings.specs.Settings.{sending_of}
use Rattle.settings.specs.Bytes.{send_abort, channel_reset, preset_sent, clear_underrun, sdlc_mode}
use Rattle.settings.specs.Bytes.{send_checked}
use Rattle.channel.specs.Answer.{answer_value}
use Rattle.chip.specs.declared.Chip.{Chip}
use Rattle.chip.specs.Chip.{control_write, control_read_call, data_write_call, transmit_call}

-- The calls that a station makes, all of channel A

abbrev pub channel_a : ℕ
channel_a = 0

unfoldable pub control_a : Chip → ℕ → Chip
control_a c v = (control_write c channel_a v).chip

unfoldable pub look_a : Chip → Chip
look_a c = (control_read_call c channel_a).chip

-- RR0 "D2 transmit buffer empty and no check being sent"
unfoldable pub empty_a : Chip → Bool
empty_a c = odd (answer_value (control_read_call c channel_a).answer / 4)

unfoldable pub write_a : Chip → ℕ → Chip
write_a c v = (data_write_call c channel_a v).chip

unfoldable pub tick_a : Chip → Chip
tick_a c = (transmit_call c channel_a).chip

unfoldable pub bit_a : Chip → Bool
bit_a c = odd (answer_value (transmit_call c channel_a).answer)

-- Before a frame

-- the sender can send a frame: SDLC, on, check included, no break
unfoldable pub can_send : Sending → Bool
can_send g =
    (in_sdlc g.mode && g.framing.on) && (g.framing.included && not g.broken)

-- nothing of a frame is under way, and no run of ones is counted
abbrev pub between_frames : LineUnit → Bool
between_frames Mark = true
between_frames (Flag n) = true
between_frames (Byte n v) = false
between_frames (Check n v) = false
between_frames (Abort n) = true

unfoldable pub stands_still : Sender → Bool
stands_still s =
    between_frames s.unit && (eqb s.insertion.run 0 && not s.insertion.owed)

-- a channel reset; then the mode, and the sender on with the check included
unfoldable pub set_up : Chip → Chip
set_up c =
    let reset = control_a c channel_reset in
    let in_mode = control_a (control_a reset 4) sdlc_mode in
    control_a (control_a in_mode 5) send_checked

-- a channel that can send stays as it is set, and a frame that is under way in it is aborted; any
-- other is set up
unfoldable pub freed : Chip → Sending → Sender → Chip
freed c g s =
    if can_send g && stands_still s then c
    else (if can_send g && not (aborting s.unit) then control_a c send_abort
    else set_up c)

-- a look at RR0 leaves the pointer at WR0
unfoldable pub prepared : Chip → Chip
prepared c =
    let d = look_a c in
    freed d (sending_of d.a.registers d.a.lines) d.a.sender

-- to the end of the flag that is under way, or of the next one
abbrev pub ticks_to_flag : LineUnit → ℕ
ticks_to_flag Mark = 8
ticks_to_flag (Flag n) = n
ticks_to_flag (Byte n v) = 0
ticks_to_flag (Check n v) = 0
ticks_to_flag (Abort n) = n + 8

-- Ticks

-- before each tick the planner, if it has a byte left, looks at RR0, and writes the byte if D2 is
-- set
pub record Offered : Type 0 where
  pub chip : Chip
  pub rest : List ℕ

abbrev pub offered : Chip → List ℕ → Offered
offered c rest = record { chip = c; rest = rest }

unfoldable pub offer : Chip → List ℕ → Offered
offer c [] = offered c []
offer c (v ∷ rest) =
    if empty_a c then offered (write_a (look_a c) v) rest else offered (look_a c) (v ∷ rest)

-- so many ticks, with `rest` still to write at first: the chip after them, and their line
unfoldable pub driven : ℕ → Chip → List ℕ → Chip
driven zero c rest = c
driven (suc n) c rest = let x = offer c rest in driven n (tick_a x.chip) x.rest

unfoldable pub driven_line : ℕ → Chip → List ℕ → List Bool
driven_line zero c rest = []
driven_line (suc n) c rest =
    let x = offer c rest in bit_a x.chip ∷ driven_line n (tick_a x.chip) x.rest

-- A note

-- a flag has ended, and the next unit is still to be chosen
unfoldable pub flag_ended : Chip → Chip
flag_ended c = let d = prepared c in driven (ticks_to_flag d.a.sender.unit) d []

-- there the check is preset, the latch cleared and the first byte written
unfoldable pub frame_opened : Chip → ℕ → Chip
frame_opened c v = write_a (control_a (control_a (flag_ended c) preset_sent) clear_underrun) v

-- "ticks with both flags", of which the opening one has gone before
abbrev pub ticks_left : List ℕ → ℕ
ticks_left note = ticks_of note - length flag_bits

unfoldable pub sent_by : Chip → List ℕ → Chip
sent_by c note = driven (ticks_left note) (frame_opened c (get_or note 0 0)) (drop 1 note)
