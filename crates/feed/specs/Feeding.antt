-- An SDLC sender that is fed: before each tick the next byte, if there is one and the buffer takes
-- it. It is on, with the check included. Assumes nothing.
use Rattle.std.specs.Prelude.{Bool, not, ◌&&◌, List, [], ◌∷◌, ℕ, zero, suc, ltb, length, if◌then◌else◌}
use Rattle.shared.specs.declared.Shared.{Shared}
use Rattle.shared.specs.Shared.{full}
use Rattle.sdlc.specs.declared.LineUnit.TheVariants.{Flag}
use Rattle.sdlc.specs.declared.Framer.{Framer}
use Rattle.sdlc.specs.Sending.{not_counted, framer, checking, tick_sdlc}
use Rattle.whole.specs.Come.{good, to_come, filled_with}
use Rattle.feed.specs.declared.Run.{Run}

-- RR0 "D2 transmit buffer empty and no check being sent"
abbrev pub takes_byte : Framer → Bool
takes_byte s = not (full s.shared) && not (checking s.unit)

-- the sender before a tick, and what is still to be written then
pub record Supplied : Type 0 where
  pub framer : Framer
  pub rest : List ℕ

abbrev pub supplied : Framer → List ℕ → Supplied
supplied s rest = record { framer = s; rest = rest }

unfoldable pub supply : Framer → List ℕ → Supplied
supply s [] = supplied s []
supply s (v ∷ rest) =
    if takes_byte s then supplied (filled_with s v) rest else supplied s (v ∷ rest)

-- so many ticks, with `rest` to write at first: the sender after them, and their line
unfoldable pub after_ticks : ℕ → Framer → List ℕ → Framer
after_ticks zero s rest = s
after_ticks (suc n) s rest =
    let x = supply s rest in after_ticks n (tick_sdlc good x.framer).framer x.rest

unfoldable pub ticks_line : ℕ → Framer → List ℕ → List Bool
ticks_line zero s rest = []
ticks_line (suc n) s rest =
    let x = supply s rest in
    let t = tick_sdlc good x.framer in t.bit ∷ ticks_line n t.framer x.rest

-- A frame

abbrev pub ran : ℕ → Framer → Run
ran n s = record { ticks = n; framer = s }

-- to the last bit of its closing flag: as many ticks as bits are to come
unfoldable pub to_the_end : Framer → List ℕ → Run
to_the_end s rest = let n = length (to_come s rest) in ran n (after_ticks n s rest)

-- a flag has ended, and the next unit is still to be chosen
abbrev pub flag_sent : Shared → Framer
flag_sent k = framer (Flag 0) not_counted k

-- the first byte waits
abbrev pub begins : Shared → Bool
begins k = full k && not k.latch

-- 01, refusal 6: a note has at most 2,048 bytes, of which one waits
abbrev pub most_to_write : ℕ
most_to_write = 2048

-- a frame whose opening flag has ended. Where no byte waits, or too many are to be written, nothing
-- is done
unfoldable pub frame_fed : Shared → List ℕ → Run
frame_fed k rest =
    if begins k && ltb (length rest) most_to_write then to_the_end (flag_sent k) rest
    else ran 0 (flag_sent k)
