-- 01, Sending: "Asynchronous: start 0, the low bits, parity, stop ones." What goes out of one byte
-- behind its start bit, and a transmit tick.
-- Assumes nothing.
use Rattle.std.specs.Prelude.{Bool, true, false, not, ◌&&◌, List, [], ◌∷◌, ◌++◌, ℕ, ◌-◌, ◌/◌, eqb, length, if◌then◌else◌}
use Rattle.line.specs.Bits.{odd}
use Rattle.line.specs.Bits.{from_low}
use Rattle.shapes.specs.Sent.{length_named, sent_bits, parity_bit}
use Rattle.shared.specs.declared.Shared.{Shared}
use Rattle.shared.specs.Shared.{full, waiting_byte, emptied}
use Rattle.asynchronous.specs.declared.Format.{Format}
use Rattle.asynchronous.specs.declared.Stops.{Stops}
use Rattle.asynchronous.specs.declared.Stops.TheVariants.{One, Two}
use Rattle.asynchronous.specs.declared.Typing.{Typing}
use Rattle.asynchronous.specs.declared.Character.{Character}
use Rattle.asynchronous.specs.declared.Typed.{Typed}

-- The bits of a character

abbrev pub parity_bits : Format → List Bool → List Bool
parity_bits f bs = if f.parity then parity_bit f.even bs ∷ [] else []

-- 01, Registers: "stop bits 01 one, 11 two"
unfoldable pub stop_bits : Stops → List Bool
stop_bits One = true ∷ []
stop_bits Two = true ∷ true ∷ []

-- the stop bits of this number; any number but two counts as one
unfoldable pub stops_named : ℕ → Stops
stops_named n = if eqb n 2 then Two else One

-- "the low bits, parity, stop ones"
abbrev pub character_bits : Typing → ℕ → List Bool
character_bits g v =
    let bs =
    sent_bits (length_named g.format.length) v
    in bs ++ (parity_bits g.format bs ++ stop_bits (stops_named g.stops))

-- The character on the line, and a tick

abbrev pub character : ℕ → ℕ → Character
character n v = record { left = n; bits = v }

abbrev pub no_character : Character
no_character = character 0 0

-- these bits are still to go, the first lowest
abbrev pub holding : List Bool → Character
holding bs = character (length bs) (from_low bs)

abbrev pub character_of : Typing → ℕ → Character
character_of g v = holding (character_bits g v)

abbrev pub under_way : Character → Bool
under_way c = not (eqb c.left 0)

abbrev pub typed : Bool → Bool → Character → Shared → Typed
typed b l c k = record { bit = b; loaded = l; character = c; shared = k }

-- "A character is loaded on the tick of its start bit, if on, the buffer is full and none is under
-- way, and is then finished as set on that tick; otherwise the tick sends 1."
abbrev pub start_character : Typing → ℕ → Shared → Typed
start_character g v k = typed false true (character_of g v) (emptied k)

abbrev pub idling : Typing → Character → Shared → Typed
idling g c k =
    if g.on && full k then start_character g (waiting_byte k) k else typed true false c k

unfoldable pub tick_character : Typing → Character → Shared → Typed
tick_character g c k =
    if eqb c.left 0 then idling g c k
    else typed (odd c.bits) false (character (c.left - 1) (c.bits / 2)) k
