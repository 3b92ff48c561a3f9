-- 01, Marked examples: "Prove these together as a single table". Each row has the example's number,
-- what the definitions give and what the paper says, numbers in a list: the bits of a line (1 to 3,
-- 5), the values that calls gave (4, 6 to 8), and of a list its report (9, 10): its rows, then
-- notes and ticks in all, or the one number of its refusal. Assumes nothing.
use Rattle.std.specs.Prelude.{List, [], ◌∷◌, ◌++◌, ℕ, ◌/◌, ◌%◌, take, replicate}
use Rattle.common.specs.Refusal.{number_of}
use Rattle.line.specs.Bits.{cells}
use Rattle.line.specs.Frame.{frame}
use Rattle.settings.specs.Bytes.{clear_underrun, sdlc_mode}
use Rattle.chip.specs.declared.Chip.{Chip}
use Rattle.chip.specs.Chip.{hard_reset}
use Rattle.chip.specs.Event.{Event, ControlWrite, ControlRead, DataWrite, DataRead, Acknowledge}
use Rattle.chip.specs.Event.{Reti, step}
use Rattle.tales.specs.Tale.{chip_behind, given, digits, line}
use Rattle.tales.specs.Words.{set}
use Rattle.flags.specs.declared.Between.TheVariants.{SharedFlag}
use Rattle.flags.specs.Flags.{usual}
use Rattle.report.specs.Report.{Report, report, refusal, report_of}
use Rattle.examples.specs.Run.{heard, wired}

pub record Example : Type 0 where
  pub number : ℕ
  pub gives : List ℕ
  pub says : List ℕ

abbrev pub example : ℕ → List ℕ → List ℕ → Example
example n x y = record { number = n; gives = x; says = y }

-- SDLC, sender on with the check included, its latch cleared; receiver on
abbrev pub sdlc_sender : List Event
sdlc_sender = set 0 4 sdlc_mode ++ (set 0 5 0b00001001 ++ (ControlWrite 0 clear_underrun ∷ []))

abbrev pub sdlc_receiver : List Event
sdlc_receiver = set 0 4 0b00100000 ++ set 0 3 0b00000001

-- the line of a chip whose A is set so and given this byte, n ticks long
abbrev pub line_sent : List Event → ℕ → ℕ → List ℕ
line_sent setting v n = line step (setting ++ (DataWrite 0 v ∷ [])) 0 n

abbrev pub flag : List ℕ
flag = digits 8 0b01111110

-- 1. "Byte 00: 01111110 00000000 00011110 00001111 01111110, 40 ticks."
abbrev pub line1 : List ℕ
line1 = flag ++ (digits 8 0b00000000 ++ (digits 8 0b00011110 ++ (digits 8 0b00001111 ++ flag)))

-- 2. "FF: 111110111 00000000 111110111 between flags, 42."
abbrev pub line2 : List ℕ
line2 = flag ++ (digits 9 0b111110111 ++ (digits 8 0b00000000 ++ (digits 9 0b111110111 ++ flag)))

-- 3. "88: 00010001 00011100 00011111 0 between flags, 41."
abbrev pub line3 : List ℕ
line3 =
    flag ++ (digits 8 0b00010001 ++ (digits 8 0b00011100
    ++ (digits 8 0b00011111 ++ (digits 1 0b0 ++ flag))))

-- 4. "Frame 2 received: FF, 00, FF; the last ends, good.": two bytes, then RR1 with the end and no
-- error, then the last
abbrev pub hears2 : Chip
hears2 = chip_behind step hard_reset (sdlc_receiver ++ heard 0 line2)

abbrev pub reads4 : List Event
reads4 = DataRead 0 ∷ DataRead 0 ∷ ControlWrite 0 1 ∷ ControlRead 0 ∷ DataRead 0 ∷ []

-- 5. "Asynchronous 41, eight bits, one stop: 0 10000010 1."
abbrev pub eight_bits : List Event
eight_bits = set 0 4 0b00000100 ++ set 0 5 0b01101000

-- a byte that A sends is read in B: both are set so, and A's line is B's for these ticks
abbrev pub reads_back : List Event → ℕ → ℕ → List ℕ
reads_back setting v n =
    given step (wired n (chip_behind step hard_reset (setting ++ (DataWrite 0 v ∷ []))))
    (DataRead 1 ∷ [])

-- 6. "41, seven bits, odd parity: reads C1."
abbrev pub seven_odd : List Event
seven_odd =
    set 0 4 0b00000101 ++ (set 0 5 0b00101000 ++ (set 1 4 0b00000101 ++ set 1 3 0b01000001))

-- 7. "01, five bits, even: reads E1."
abbrev pub five_even : List Event
five_even =
    set 0 4 0b00000111 ++ (set 0 5 0b00001000 ++ (set 1 4 0b00000111 ++ set 1 3 0b00000001))

-- 8. "WR2 = E0, status on, A special: EE; none pending: RR2 E6.": A's last byte, which ends its
-- frame, waits; then it is read and its service ended
abbrev pub special8 : Chip
special8 =
    chip_behind step hears2 (set 1 2 0xE0
    ++ (set 1 1 0b00000100 ++ (set 0 1 0b00011000 ++ (DataRead 0 ∷ DataRead 0 ∷ []))))

abbrev pub asks8 : List Event
asks8 = Acknowledge ∷ DataRead 0 ∷ Reti ∷ ControlWrite 1 2 ∷ ControlRead 1 ∷ []

-- the numbers that the list program prints: the rows, then notes and ticks in all; or the refusal
-- alone
abbrev pub printed : Report → List ℕ
printed (report rows notes ticks) = rows ++ (notes ∷ ticks ∷ [])
printed (refusal k) = number_of k ∷ []

-- 9. "Input 01 0001 00 0001 FF 0001 88 (hex) prints `1 1 0 40`, `2 1 2 42`, `3 1 1 41`, `end 3
-- 107`."; 02, P7: "so marked example 9 ends in `end 3 123`", and shared as before
abbrev pub input9 : List ℕ
input9 = 0x01 ∷ 0x00 ∷ 0x01 ∷ 0x00 ∷ 0x00 ∷ 0x01 ∷ 0xFF ∷ 0x00 ∷ 0x01 ∷ 0x88 ∷ []

abbrev pub rows9 : List ℕ
rows9 = 1 ∷ 1 ∷ 0 ∷ 40 ∷ 2 ∷ 1 ∷ 2 ∷ 42 ∷ 3 ∷ 1 ∷ 1 ∷ 41 ∷ []

-- 10. "Input 01: `end 0 0`. Length 2048 passes, 2049 and 0 are 6.": a list of one note, n bytes 00.
-- That of 2,048 passes with a row, of which the table has the first two numbers: to count its zeros
-- here would take longer than all the rest
abbrev pub one_note : ℕ → List ℕ
one_note n = 0x01 ∷ n / 256 ∷ n % 256 ∷ replicate n 0x00

abbrev pub examples : List Example
examples =
    example 1 (line_sent sdlc_sender 0x00 40) line1
    ∷ example 1 (cells (frame (0x00 ∷ []))) line1
    ∷ example 2 (line_sent sdlc_sender 0xFF 42) line2
    ∷ example 2 (cells (frame (0xFF ∷ []))) line2
    ∷ example 3 (line_sent sdlc_sender 0x88 41) line3
    ∷ example 3 (cells (frame (0x88 ∷ []))) line3
    ∷ example 4 (given step hears2 reads4) (0xFF ∷ 0x00 ∷ 0 ∷ 0x87 ∷ 0xFF ∷ [])
    ∷ example 5 (line_sent eight_bits 0x41 10) (digits 1 0b0 ++ (digits 8 0b10000010 ++ digits 1 0b1))
    ∷ example 6 (reads_back seven_odd 0x41 10) (0xC1 ∷ [])
    ∷ example 7 (reads_back five_even 0x01 8) (0xE1 ∷ [])
    ∷ example 8 (given step special8 asks8) (0xEE ∷ 0xFF ∷ 0 ∷ 0 ∷ 0xE6 ∷ [])
    ∷ example 9 (printed (report_of usual input9)) (rows9 ++ (3 ∷ 123 ∷ []))
    ∷ example 9 (printed (report_of SharedFlag input9)) (rows9 ++ (3 ∷ 107 ∷ []))
    ∷ example 10 (printed (report_of usual (0x01 ∷ []))) (0 ∷ 0 ∷ [])
    ∷ example 10 (printed (report_of SharedFlag (0x01 ∷ []))) (0 ∷ 0 ∷ [])
    ∷ example 10 (take 2 (printed (report_of usual (one_note 2048)))) (1 ∷ 2048 ∷ [])
    ∷ example 10 (printed (report_of usual (one_note 2049))) (6 ∷ [])
    ∷ example 10 (printed (report_of usual (one_note 0))) (6 ∷ [])
    ∷ []
