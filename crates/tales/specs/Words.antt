-- Short words for the events of tales. Assumes nothing.
use Rattle.std.specs.Prelude.{List, [], ◌∷◌, ◌++◌, map, ℕ}
pub use Rattle.settings.specs.Bytes.{send_abort, reset_status, channel_reset, arm, reset_transmit}
pub use Rattle.settings.specs.Bytes.{reset_errors, as_reti, preset_received, preset_sent, clear_underrun}
pub use Rattle.settings.specs.Bytes.{sdlc_mode, send_checked}
pub use Rattle.chip.specs.Event.{set}
use Rattle.chip.specs.Event.{Event, ControlWrite, DataWrite, DataRead, Transmit, Receive}
use Rattle.tales.specs.Tale.{times, digits}

-- a byte for WR0: a command or D7-6
abbrev pub command : ℕ → ℕ → List Event
command ch v = ControlWrite ch v ∷ []

-- the n binary digits of v come along a line, as they are written
abbrev pub hears : ℕ → ℕ → ℕ → List Event
hears ch n v = map (λ b. Receive ch b) (digits n v)

abbrev pub writes : ℕ → ℕ → List Event
writes ch v = DataWrite ch v ∷ []

abbrev pub takes : ℕ → ℕ → List Event
takes ch n = times n (DataRead ch)

abbrev pub ticks : ℕ → ℕ → List Event
ticks ch n = times n (Transmit ch)

-- WR4
abbrev pub one_stop : ℕ
one_stop = 0b00000100

abbrev pub two_stops : ℕ
two_stops = 0b00001100

abbrev pub one_stop_odd : ℕ
one_stop_odd = 0b00000101

abbrev pub one_stop_even : ℕ
one_stop_even = 0b00000111

-- WR3 and WR5: on, eight bits
abbrev pub hear_eight : ℕ
hear_eight = 0b11000001

abbrev pub send_eight : ℕ
send_eight = 0b01101000

-- a channel in this mode, its receiver or its sender on
abbrev pub hearing : ℕ → ℕ → List Event
hearing ch wr4 = set ch 4 wr4 ++ set ch 3 hear_eight

abbrev pub sending : ℕ → ℕ → List Event
sending ch wr4 = set ch 4 wr4 ++ set ch 5 send_eight

-- SDLC, the latch cleared
abbrev pub framing : ℕ → List Event
framing ch = set ch 4 sdlc_mode ++ set ch 5 send_checked ++ command ch clear_underrun

-- and in A with this byte in the buffer
abbrev pub byte_waits : ℕ → List Event
byte_waits v = framing 0 ++ writes 0 v

-- on the line: 41 hex in eight bits with its start and stop, the same with a stop of 0, and a break
abbrev pub char41 : ℕ → List Event
char41 ch = hears ch 10 0b0100000101

abbrev pub cut41 : ℕ → List Event
cut41 ch = hears ch 10 0b0100000100

abbrev pub blank : ℕ → List Event
blank ch = hears ch 10 0b0000000000

abbrev pub flag : ℕ → List Event
flag ch = hears ch 8 0b01111110

abbrev pub ones : ℕ → ℕ → List Event
ones ch n = times n (Receive ch 1)

-- 01, Marked examples, 1: the frame of the byte 00
abbrev pub frame00 : ℕ → List Event
frame00 ch = hears ch 40 0b0111111000000000000111100000111101111110
