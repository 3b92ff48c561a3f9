-- Most ticks, in a form of their own and no part of 01: while a byte has bits left, neither
-- settings nor buffer have a part in a transmit tick; and a bit of content behind a full delay that
-- ends no character, no flag and no abort hands nothing over, and hunt and D7 stay off. That they
-- are the ticks is said in Laws/Within. Assumes nothing.
use Rattle.std.specs.Prelude.{Bool, true, false, not, ◌&&◌, ℕ, ◌+◌, eqb, ltb, if◌then◌else◌}
use Rattle.line.specs.Check.{sdlc, check_step}
use Rattle.sdlc.specs.declared.LineUnit.{LineUnit}
use Rattle.sdlc.specs.declared.LineUnit.TheVariants.{Mark, Flag, Byte, Check, Abort}
use Rattle.sdlc.specs.declared.Framer.{Framer}
use Rattle.sdlc.specs.declared.Framed.{Framed}
use Rattle.sdlc.specs.declared.Listener.{Listener}
use Rattle.sdlc.specs.Sending.{paid, sent_bit, byte_on}
use Rattle.sdlc.specs.Hearing.{chars, full_delay, listener, ones_counted, shift_in, last_bit}
use Rattle.sdlc.specs.Hearing.{spilled, oldest_bit}

-- Sending

-- the bits of a byte that are still to be sent, and what is left of it to shift out; 0 in another
-- unit
abbrev pub byte_left : LineUnit → ℕ
byte_left Mark = 0
byte_left (Flag n) = 0
byte_left (Byte n v) = n
byte_left (Check n v) = 0
byte_left (Abort n) = 0

abbrev pub byte_rest : LineUnit → ℕ
byte_rest Mark = 0
byte_rest (Flag n) = 0
byte_rest (Byte n v) = v
byte_rest (Check n v) = 0
byte_rest (Abort n) = 0

abbrev pub within : Framer → Bool
within s = not (eqb (byte_left s.unit) 0)

unfoldable pub tick_within : Framer → Framed
tick_within s =
    if s.insertion.owed then sent_bit false s.unit (paid s.insertion) s.shared
    else byte_on (byte_left s.unit) (byte_rest s.unit) s.insertion.run s.shared

-- Receiving

-- so many ones in a row may stand before such a bit
abbrev pub fewer_than : Bool → ℕ
fewer_than true = 6
fewer_than false = 5

-- ones in a row behind a bit; seven stand for more
abbrev pub ones_after : ℕ → Bool → ℕ
ones_after o true = ones_counted o
ones_after o false = 0

abbrev pub count_after : ℕ → ℕ
count_after n = if ltb n last_bit then n + 1 else 0

unfoldable pub hears_on : Listener → Bool → Bool
hears_on s b =
    let c = s.content in
    not s.broken && (not c.hunt && (not c.skip && (ltb c.ones (fewer_than b)
    && (not (ltb c.delay full_delay) && ltb c.chars.count last_bit))))

unfoldable pub moved_on : Listener → Bool → Listener
moved_on s b =
    let c = s.content in
    let k = c.chars in
    let out = oldest_bit c.delay in
    let more = chars (count_after k.count) (shift_in out k.part) k.held in
    listener (ones_after c.ones b) (spilled c.delay b) more (check_step sdlc s.check out)
    s.broken
