-- 01, Registers: bytes that a host writes, by name. Assumes nothing.
use Rattle.std.specs.Prelude.{ℕ, ◌*◌}

-- WR0 "D5-3 command: 0 none, 1 Send Abort, 2 Reset External/Status, 3 Channel Reset, 4 arm
-- first-character interrupt, 5 reset Tx interrupt, 6 Error Reset, 7 as RETI"
abbrev pub send_abort : ℕ
send_abort = 8 * 1

abbrev pub reset_status : ℕ
reset_status = 8 * 2

abbrev pub channel_reset : ℕ
channel_reset = 8 * 3

abbrev pub arm : ℕ
arm = 8 * 4

abbrev pub reset_transmit : ℕ
reset_transmit = 8 * 5

abbrev pub reset_errors : ℕ
reset_errors = 8 * 6

abbrev pub as_reti : ℕ
as_reti = 8 * 7

-- WR0 "D7-6: 1 preset Rx check, 2 preset Tx check, 3 clear Underrun latch"
abbrev pub preset_received : ℕ
preset_received = 64 * 1

abbrev pub preset_sent : ℕ
preset_sent = 64 * 2

abbrev pub clear_underrun : ℕ
clear_underrun = 64 * 3

-- "WR4: .. D3-2 .. 00 synchronous; D5-4 10 SDLC"
abbrev pub sdlc_mode : ℕ
sdlc_mode = 0b00100000

-- "WR5: D0 Tx check included, D3 on, .. D6-5 length", 11 eight
abbrev pub send_checked : ℕ
send_checked = 0b01101001
