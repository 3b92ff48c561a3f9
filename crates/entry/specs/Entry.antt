-- An entry of the receive queue: a character with its marks, and what RR1 and the interrupts see of
-- it. Assumes nothing.
use Rattle.std.specs.Prelude.{Bool, true, false, ◌&&◌, ◌||◌, ℕ, ◌+◌}
use Rattle.common.specs.Bit.{placed}
use Rattle.entry.specs.declared.Entry.{Entry}

-- the one place where entries are built: a character, whether its parity is wrong, its stop bit was
-- 0, it ends a frame, and that frame's check is bad. The overrun mark is the queue's to add
abbrev pub received : ℕ → Bool → Bool → Bool → Bool → Entry
received v p f e b =
    record { byte = v; parity = p; overrun = false; framing = f; ends = e; bad = b }

-- what the SDLC receiver hands over: a character, whether it ends a frame, and whether that frame's
-- check is bad
abbrev pub plain_entry : ℕ → Bool → Bool → Entry
plain_entry v e b = received v false false e b

-- what stands where no character is
abbrev pub no_entry : Entry
no_entry = received 0 false false false false

-- 01, Receiving: "a fourth replaces the newest and is marked overrun"; its own marks stay
abbrev pub overran : Entry → Entry
overran e =
    record {
      byte = e.byte;
      parity = e.parity;
      overrun = true;
      framing = e.framing;
      ends = e.ends;
      bad = e.bad;
    }

-- 01, Registers: "RR1: D0 all sent ..; D3-1 binary 011 if the oldest entry ends a frame, else 000;
-- D4 parity, D5 overrun; D6 framing error or, at a frame's end, a bad check; D7 frame end. D6 and
-- D7 are the oldest entry's"
abbrev pub rr1_with : Entry → Bool → Bool → Bool → Bool → ℕ
rr1_with e sent p o error =
    placed sent 0b1 + placed e.ends 0b110 + placed p 0b10000 + placed o 0b100000
    + placed error 0b1000000 + placed e.ends 0b10000000

abbrev pub error_of : Entry → Bool
error_of e = e.framing || (e.ends && e.bad)

abbrev pub rr1_of : Entry → Bool → Bool → Bool → ℕ
rr1_of e sent p o = rr1_with e sent p o (error_of e)

-- 01, Interrupts: "if the oldest entry is special: overrun, framing, frame end, parity in mode 2"
abbrev pub special_of : Entry → Bool → Bool
special_of e parity = e.overrun || (e.framing || (e.ends || (e.parity && parity)))
