-- What is to come on the line. From an SDLC sender and the bytes `rest` that the host has still to
-- write, `to_come` gives the bits from here to the end of the closing flag, if each of those bytes
-- is written in time; in an abort, to the end of the flag behind it. The laws (Laws/Come): a tick
-- in time takes the first of these bits (`takes`), a write into the empty buffer changes none of
-- them (`moves`), nor does a write once the latch is set (`later`). Assumes nothing.
use Rattle.std.specs.Prelude.{Bool, true, false, List, [], ◌∷◌, ◌++◌, ℕ, zero, suc, replicate, if◌then◌else◌}
use Rattle.line.specs.Bits.{low_bits, text_bits}
use Rattle.line.specs.Check.{sdlc, check_over, top_bits, check_bits}
use Rattle.line.specs.Insertion.{zero_if, stuff}
use Rattle.line.specs.Frame.{flag_bits}
use Rattle.line.specs.declared.Insertion.{Insertion}
use Rattle.shared.specs.declared.Shared.{Shared}
use Rattle.shared.specs.Shared.{full, waiting_byte, filled}
use Rattle.sdlc.specs.declared.LineUnit.{LineUnit}
use Rattle.sdlc.specs.declared.LineUnit.TheVariants.{Mark, Flag, Byte, Check, Abort}
use Rattle.sdlc.specs.declared.Framing.{Framing}
use Rattle.sdlc.specs.declared.Framer.{Framer}
use Rattle.sdlc.specs.Sending.{framing, framer, flag_bit}

-- Demand 3: "with the SDLC sender on .., check .. included"
abbrev pub good : Framing
good = framing true true

-- the last n bits of a flag
abbrev pub flag_tail : ℕ → List Bool
flag_tail zero = []
flag_tail (suc n) = flag_bit (suc n) ∷ flag_tail n

-- the byte in the buffer, if there is one, goes before those that are still to be written
abbrev pub waiting : Shared → List ℕ → List ℕ
waiting k rest = if full k then waiting_byte k ∷ rest else rest

-- content behind a run of ones and from a register on: the bits that are left of a byte, then whole
-- bytes and the check; then the closing flag
unfoldable pub closed : ℕ → ℕ → List Bool → List ℕ → List Bool
closed run register bits bytes =
    let text = text_bits 8 bytes in
    stuff run (bits ++ (text ++ check_bits (check_over sdlc register text))) ++ flag_bits

-- by the unit under way: a flag opens while the latch is clear and closes once it is set
abbrev pub coming : Insertion → Shared → List ℕ → LineUnit → List Bool
coming i k rest Mark = []
coming i k rest (Flag n) =
    if k.latch then flag_tail n else flag_tail n ++ closed i.run k.check [] (waiting k rest)
coming i k rest (Byte n v) =
    zero_if i.owed ++ closed i.run k.check (low_bits n v) (waiting k rest)
coming i k rest (Check n v) = zero_if i.owed ++ (stuff i.run (top_bits n v) ++ flag_bits)
coming i k rest (Abort n) = replicate n true ++ flag_bits

abbrev pub to_come : Framer → List ℕ → List Bool
to_come s rest = coming s.insertion s.shared rest s.unit

-- what a data write does to a sender
abbrev pub filled_with : Framer → ℕ → Framer
filled_with s v = framer s.unit s.insertion (filled s.shared v)

-- an opening flag or a byte is under way
abbrev pub opens : LineUnit → Bool
opens Mark = false
opens (Flag n) = true
opens (Byte n v) = true
opens (Check n v) = false
opens (Abort n) = false
