-- 01, Registers: what the write registers say, each bit named once. Assumes nothing.
use Rattle.std.specs.Prelude.{Bool, not, ◌&&◌, ◌||◌, ℕ, ◌/◌, ◌%◌, eqb, length, if◌then◌else◌}
use Rattle.common.specs.declared.Mode.{Mode}
use Rattle.common.specs.declared.Mode.TheVariants.{Asynchronous, Monosync, Bisync, Sdlc}
use Rattle.line.specs.Bits.{odd}
use Rattle.shapes.specs.declared.Length.{Length}
use Rattle.shapes.specs.declared.Length.TheVariants.{Five, Six, Seven, Eight}
use Rattle.shapes.specs.Sent.{size}
use Rattle.asynchronous.specs.declared.Format.{Format}
use Rattle.asynchronous.specs.declared.Stops.{Stops}
use Rattle.asynchronous.specs.declared.Stops.TheVariants.{One, Two}
use Rattle.asynchronous.specs.Sending.{stop_bits}
use Rattle.bytesync.specs.declared.Syncs.{Syncs}
use Rattle.bytesync.specs.Syncs.{syncs, polynomial_of}
use Rattle.bytesync.specs.Sending.{syncing}
use Rattle.bytesync.specs.Hearing.{matching}
use Rattle.sdlc.specs.declared.Framing.{Framing}
use Rattle.sender.specs.declared.Sending.{Sending}
use Rattle.receiver.specs.declared.Receiving.{Receiving}
use Rattle.settings.specs.declared.Registers.{Registers}
use Rattle.settings.specs.declared.Lines.{Lines}
use Rattle.settings.specs.declared.ReceiveMode.{ReceiveMode}
use Rattle.settings.specs.declared.ReceiveMode.TheVariants.{Off, First, AllParitySpecial, All}

-- the registers as written, and one of them written anew (WR4: below); the mode is what the last
-- WR4 chose: a reset "zeroes the WRs" and "leaves no mode", and a WR4 of zero, once it is written,
-- is Monosync
abbrev pub registers : ℕ → ℕ → ℕ → ℕ → ℕ → ℕ → ℕ → Mode → Registers
registers a b c d e f g m =
    record { wr1 = a; wr2 = b; wr3 = c; wr4 = d; wr5 = e; wr6 = f; wr7 = g; mode = m }

abbrev pub store1 : Registers → ℕ → Registers
store1 r v =
    registers v r.wr2 r.wr3 r.wr4 r.wr5 r.wr6 r.wr7 r.mode

abbrev pub store2 : Registers → ℕ → Registers
store2 r v =
    registers r.wr1 v r.wr3 r.wr4 r.wr5 r.wr6 r.wr7 r.mode

abbrev pub store3 : Registers → ℕ → Registers
store3 r v =
    registers r.wr1 r.wr2 v r.wr4 r.wr5 r.wr6 r.wr7 r.mode

abbrev pub store5 : Registers → ℕ → Registers
store5 r v =
    registers r.wr1 r.wr2 r.wr3 r.wr4 v r.wr6 r.wr7 r.mode

abbrev pub store6 : Registers → ℕ → Registers
store6 r v =
    registers r.wr1 r.wr2 r.wr3 r.wr4 r.wr5 v r.wr7 r.mode

abbrev pub store7 : Registers → ℕ → Registers
store7 r v =
    registers r.wr1 r.wr2 r.wr3 r.wr4 r.wr5 r.wr6 v r.mode

-- "WR0: D2-0 pointer; D5-3 command ..; D7-6"
abbrev pub pointer_in : ℕ → ℕ
pointer_in v = v % 8

abbrev pub command_in : ℕ → ℕ
command_in v = v / 8 % 8

abbrev pub preset_in : ℕ → ℕ
preset_in v = v / 64

-- "WR1: D0 external, D1 transmit interrupt; D2 status affects vector (B); D4-3 receive: 0 off, 1
-- first, 2 all with parity special, 3 all."
abbrev pub external_on : ℕ → Bool
external_on wr1 = odd wr1

abbrev pub transmit_on : ℕ → Bool
transmit_on wr1 = odd (wr1 / 2)

abbrev pub status_affects : ℕ → Bool
status_affects wr1 = odd (wr1 / 4)

abbrev pub receive_field : ℕ → ℕ
receive_field wr1 = wr1 / 8 % 4

abbrev pub receive_mode : ℕ → ReceiveMode
receive_mode wr1 =
    if eqb (receive_field wr1) 0 then Off
    else (if eqb (receive_field wr1) 1 then First
    else (if eqb (receive_field wr1) 2 then AllParitySpecial else All))

-- "WR3: D0 on, D2 address search, D4 enter hunt, D5 auto enables, D7-6 length"; 02, P3: D1 "keeps
-- leading sync characters out of the queue", D3 lets a character into the receive check
abbrev pub receiver_on : ℕ → Bool
receiver_on wr3 = odd wr3

abbrev pub strips_syncs : ℕ → Bool
strips_syncs wr3 = odd (wr3 / 2)

abbrev pub searches : ℕ → Bool
searches wr3 = odd (wr3 / 4)

abbrev pub lets_in : ℕ → Bool
lets_in wr3 = odd (wr3 / 8)

abbrev pub enters_hunt : ℕ → Bool
enters_hunt wr3 = odd (wr3 / 16)

abbrev pub auto_enables : ℕ → Bool
auto_enables wr3 = odd (wr3 / 32)

abbrev pub heard_field : ℕ → ℕ
heard_field wr3 = wr3 / 64

-- "WR4: D0 parity, D1 even, D3-2 stop bits 01 one, 11 two, 00 synchronous; D5-4 10 SDLC." 02, P3,
-- and the chip maker's manual: D5-4 00 Monosync, 01 Bisync
abbrev pub parity_on : ℕ → Bool
parity_on wr4 = odd wr4

abbrev pub even_parity : ℕ → Bool
even_parity wr4 = odd (wr4 / 2)

abbrev pub stop_field : ℕ → ℕ
stop_field wr4 = wr4 / 4 % 4

abbrev pub synchronous_field : ℕ → ℕ
synchronous_field wr4 = wr4 / 16 % 4

abbrev pub factor_field : ℕ → ℕ
factor_field wr4 = wr4 / 64

-- "WR5: D0 Tx check included, D3 on, D4 break, D6-5 length." 02, P3: "WR5 D2 = 1 chooses
-- x^16+x^15+x^2+1"
abbrev pub check_included : ℕ → Bool
check_included wr5 = odd wr5

abbrev pub crc16_chosen : ℕ → Bool
crc16_chosen wr5 = odd (wr5 / 4)

abbrev pub sender_on : ℕ → Bool
sender_on wr5 = odd (wr5 / 8)

abbrev pub breaks : ℕ → Bool
breaks wr5 = odd (wr5 / 16)

abbrev pub sent_field : ℕ → ℕ
sent_field wr5 = wr5 / 32 % 4

-- the mode that this WR4 chooses
unfoldable pub mode_of : ℕ → Mode
mode_of wr4 =
    if eqb (stop_field wr4) 0
    then (if eqb (synchronous_field wr4) 2 then Sdlc
    else (if eqb (synchronous_field wr4) 1 then Bisync else Monosync))
    else Asynchronous

-- WR4 written anew, and with it the mode
abbrev pub store4 : Registers → ℕ → Registers
store4 r v =
    registers r.wr1 r.wr2 r.wr3 v r.wr5 r.wr6 r.wr7 (mode_of v)

abbrev pub mode_in : Registers → Mode
mode_in r = r.mode

-- refusal 3: "a WR4 write with D7-6 not 00, or D3-2 = 10, or D3-2 = 00 and D5-4" external sync; 02,
-- P3: "3 no longer for these two at clock factor 1; external sync, and a higher factor in either,
-- keep it"
unfoldable pub not_built : ℕ → Bool
not_built wr4 =
    not (eqb (factor_field wr4) 0)
    || (eqb (stop_field wr4) 2 || (eqb (stop_field wr4) 0 && eqb (synchronous_field wr4) 3))

-- 02, P3: "Monosync sends WR6 and matches WR7; Bisync uses WR6 then WR7 for both"
abbrev pub syncs_in : Registers → Syncs
syncs_in r = syncs (eqb (synchronous_field r.wr4) 1) r.wr6 r.wr7

abbrev pub polynomial_in : Registers → ℕ
polynomial_in r = polynomial_of (crc16_chosen r.wr5)

-- "Lengths: 00 five, 01 seven, 10 six, 11 eight."
unfoldable pub length_of : ℕ → Length
length_of field =
    if eqb field 0 then Five
    else (if eqb field 1 then Seven else (if eqb field 2 then Six else Eight))

abbrev pub stops_of : ℕ → Stops
stops_of wr4 = if eqb (stop_field wr4) 3 then Two else One

-- a character's length, by its two bits, and its parity
abbrev pub format_of : Registers → ℕ → Format
format_of r field =
    record { length = size (length_of field); parity = parity_on r.wr4; even = even_parity r.wr4 }

-- 01, Sending: "On means WR5 D3 and, with auto enables, CTS."
abbrev pub sends : Registers → Lines → Bool
sends r l = sender_on r.wr5 && (not (auto_enables r.wr3) || l.cts)

-- what the sender is told, SDLC's part of it by itself
abbrev pub framing_of : Registers → Lines → Framing
framing_of r l = record { on = sends r l; included = check_included r.wr5 }

unfoldable pub sending_of : Registers → Lines → Sending
sending_of r l = record {
  mode = mode_in r;
  broken = breaks r.wr5;
  framing = framing_of r l;
  typing = record {
    on = sends r l;
    format = format_of r (sent_field r.wr5);
    stops = length (stop_bits (stops_of r.wr4));
  };
  syncing = syncing (sends r l) (check_included r.wr5) (polynomial_in r) (syncs_in r);
}

-- 01, Receiving: "On means WR3 D0 and, with auto enables, DCD." "WR6: address."
unfoldable pub receiving_of : Registers → Lines → Receiving
receiving_of r l = record {
  mode = mode_in r;
  on = receiver_on r.wr3 && (not (auto_enables r.wr3) || l.dcd);
  addressing = record { search = searches r.wr3; address = r.wr6 };
  format = format_of r (heard_field r.wr3);
  matching = matching (syncs_in r) (strips_syncs r.wr3) (lets_in r.wr3) (polynomial_in r);
}
