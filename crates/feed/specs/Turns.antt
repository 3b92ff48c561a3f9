-- The ticks of a fed sender from one look at the buffer to the next, in a form of their own and no
-- part of 01: the rest of a byte goes in one loop over a few numbers, any other tick by itself.
-- That they are the ticks is said in Laws/Turns. Assumes nothing.
use Rattle.std.specs.Prelude.{List, ℕ, zero, suc, ◌+◌, ◌-◌, ◌/◌, ltb, length, get_or, if◌then◌else◌}
use Rattle.line.specs.Bits.{odd, one_if}
use Rattle.line.specs.Insertion.{counted}
use Rattle.line.specs.declared.Insertion.{Insertion}
use Rattle.shared.specs.declared.Shared.{Shared}
use Rattle.sdlc.specs.declared.LineUnit.TheVariants.{Byte}
use Rattle.sdlc.specs.declared.Framer.{Framer}
use Rattle.sdlc.specs.Sending.{framer, tick_sdlc}
use Rattle.sdlc.specs.Within.{byte_left, byte_rest, within}
use Rattle.whole.specs.Come.{good, filled_with}
use Rattle.feed.specs.declared.Bits.{Bits}
use Rattle.feed.specs.declared.Run.{Run}
use Rattle.feed.specs.declared.Place.{Place}
use Rattle.feed.specs.Feeding.{takes_byte, ran}

-- the byte at place i of what is to be written, if there is one and the buffer takes it
abbrev pub place : Framer → ℕ → Place
place s i = record { framer = s; at = i }

unfoldable pub supply_at : Framer → List ℕ → ℕ → Place
supply_at s rest i =
    if ltb i (length rest)
    then (if takes_byte s then place (filled_with s (get_or rest i 0)) (i + 1) else place s i)
    else place s i

-- the bits of a byte that are left, and the ticks that have gone
abbrev pub bits : ℕ → ℕ → ℕ → Insertion → Bits
bits t n v i = record { ticks = t; left = n; rest = v; insertion = i }

-- the zero that is owed, if one is, and the next bit
abbrev pub bits_on : Bits → Bits
bits_on x =
    bits (x.ticks + one_if x.insertion.owed + 1) (x.left - 1) (x.rest / 2)
    (counted x.insertion.run (odd x.rest))

unfoldable pub bits_through : ℕ → Bits → Bits
bits_through zero x = x
bits_through (suc n) x = bits_through n (bits_on x)

abbrev pub bits_of : Framer → Bits
bits_of s = bits 0 (byte_left s.unit) (byte_rest s.unit) s.insertion

-- the sender with these bits
abbrev pub carrying : Shared → Bits → Framer
carrying k x = framer (Byte x.left x.rest) x.insertion k

abbrev pub carried : Shared → Bits → Run
carried k x = ran x.ticks (carrying k x)

-- the rest of a byte
unfoldable pub through : Framer → Run
through s = carried s.shared (bits_through (byte_left s.unit) (bits_of s))

unfoldable pub turn : Framer → Run
turn s = if within s then through s else ran 1 (tick_sdlc good s).framer
