-- 01, Receiving: the paragraph on asynchronous characters, a bit at a time. Every assembly is
-- accepted, also one that no history made. Assumes nothing.
use Rattle.std.specs.Prelude.{Option, Some, None, Bool, true, false, not, ◌&&◌, ◌||◌, ℕ, ◌+◌, ◌-◌, ◌*◌, ◌%◌, eqb, if◌then◌else◌}
use Rattle.std.specs.Bool.{beq}
use Rattle.std.specs.Int.Bits.{bit_xor}
use Rattle.line.specs.Bits.{one_if}
use Rattle.line.specs.Check.{differs}
use Rattle.shapes.specs.Sent.{size, length_named}
use Rattle.entry.specs.Entry.{received}
use Rattle.entry.specs.declared.Entry.{Entry}
use Rattle.asynchronous.specs.declared.Format.{Format}
use Rattle.asynchronous.specs.declared.Assembly.{Assembly}
use Rattle.asynchronous.specs.declared.Assembled.{Assembled}

-- no character is under way; w: a 1 must come before the next start
abbrev pub no_assembly : Bool → Assembly
no_assembly w = record {
  wait = w;
  left = 0;
  bits = 0;
  weight = 0;
  odd = false;
  blank = false;
  parity = false;
  even = false;
}

-- what a tick gives: the character, D7, and an entry for the queue or none
abbrev pub assembled : Assembly → Bool → Option Entry → Assembled
assembled a x e = record { assembly = a; broken = x; entry = e }

abbrev pub in_silence : Assembly → Bool → Assembled
in_silence a x = assembled a x None

-- "0 starts a character as set on that tick": data, parity and one stop bit are to come. "Unused
-- high bits read 1": all bits are ones until a 0 comes for one of them
abbrev pub begun_as : Format → Assembly
begun_as f = record {
  wait = false;
  left = size (length_named f.length) + one_if f.parity + 1;
  bits = 0xFF;
  weight = 1;
  odd = false;
  blank = true;
  parity = f.parity;
  even = f.even;
}

-- the byte, when a 0 takes the place of its weight; beyond the eighth place there is none
unfoldable pub bits_with : Assembly → Bool → ℕ
bits_with a b = if b then a.bits else bit_xor a.bits a.weight

-- a data bit, or the parity bit, which "lies just above the data"; n bits are left
abbrev pub with_bit : Assembly → ℕ → Bool → Assembly
with_bit a n b = record {
  wait = a.wait;
  left = n;
  bits = bits_with a b;
  weight = a.weight % 128 * 2;
  odd = differs a.odd b;
  blank = a.blank && not b;
  parity = a.parity;
  even = a.even;
}

-- the character with its marks: parity if the number of ones, the parity bit's among them, is not
-- even or odd as set; framing if the stop bit is 0
abbrev pub finished : Assembly → Bool → Entry
finished a stop =
    received a.bits (a.parity && beq a.odd a.even) (not stop) false false

-- "one stop bit is checked and queues it". "After a stop bit of 0 a 1 must come before the next
-- start; if data and parity were 0 too, D7 sets until that 1"
abbrev pub stopped : Assembly → Bool → Bool → Assembled
stopped a x stop =
    assembled (no_assembly (not stop)) (x || (a.blank && not stop)) (Some (finished a stop))

-- "until that 1", which is no start
abbrev pub released : Assembly → Assembly
released a = record {
  wait = false;
  left = a.left;
  bits = a.bits;
  weight = a.weight;
  odd = a.odd;
  blank = a.blank;
  parity = a.parity;
  even = a.even;
}

-- a receive tick while on; D7 is x
unfoldable pub hear_character : Format → Assembly → Bool → Bool → Assembled
hear_character g a x b =
    if a.wait then (if b then in_silence (released a) false else in_silence a x)
    else (if eqb a.left 0 then (if b then in_silence a x else in_silence (begun_as g) x)
    else (if eqb a.left 1 then stopped a x b
    else in_silence (with_bit a (a.left - 1) b) x))
