-- What a story loads, and a host of any kind within one frame. Demand 3: "the frame holds just the
-- bytes loaded so far". Assumes nothing.
use Rattle.std.specs.Prelude.{◌≡◌, Bool, true, false, not, ◌&&◌, List, [], ◌∷◌, ◌++◌, ℕ, zero, suc, eqb}
use Rattle.line.specs.Frame.{flag_bits}
use Rattle.shared.specs.Shared.{full, waiting_byte}
use Rattle.sdlc.specs.declared.LineUnit.{LineUnit}
use Rattle.sdlc.specs.declared.LineUnit.TheVariants.{Mark, Flag, Byte, Check, Abort}
use Rattle.sdlc.specs.declared.Framer.{Framer}
use Rattle.chip.specs.declared.Chip.{Chip}
use Rattle.chip.specs.Event.{Event}
use Rattle.whole.specs.Start.{frame_ended}
use Rattle.stories.specs.Story.{Which, happens}
use Rattle.stories.specs.Sent.{is_tick}
use Rattle.history.specs.Sending.Side.{side_of}
use Rattle.history.specs.Sending.Stories.{TicksWhere}

abbrev pub sender_of : Which → Chip → Framer
sender_of w c = (side_of w c).sender

abbrev pub byte_if : Bool → ℕ → List ℕ
byte_if true v = v ∷ []
byte_if false v = []

-- the byte that leaves the buffer from one sender to the next: a buffer that was full and is empty
abbrev pub leaves : Framer → Framer → List ℕ
leaves s t = byte_if (full s.shared && not (full t.shared)) (waiting_byte s.shared)

-- the bytes loaded: those that leave the buffer at a tick, in their order
abbrev pub loads : Bool → Framer → Framer → List ℕ
loads true s t = leaves s t
loads false s t = []

unfoldable pub loaded : Which → Chip → List Event → List ℕ
loaded w c [] = []
loaded w c (e ∷ st) =
    loads (is_tick w e) (sender_of w c) (sender_of w (happens c e).chip)
    ++ loaded w (happens c e).chip st

-- "After flag: byte if the buffer is full, else flag": a tick that lets an opening flag pass begins
-- another one
abbrev pub flag_over : LineUnit → Bool
flag_over Mark = false
flag_over (Flag n) = eqb n 0
flag_over (Byte n v) = false
flag_over (Check n v) = false
flag_over (Abort n) = false

abbrev pub idles : Framer → Bool
idles s = not s.shared.latch && (not (full s.shared) && flag_over s.unit)

-- one more, if so
abbrev pub on_more : Bool → ℕ → ℕ
on_more true n = suc n
on_more false n = n

unfoldable pub passed : Which → Chip → List Event → ℕ
passed w c [] = 0
passed w c (e ∷ st) = on_more (is_tick w e && idles (sender_of w c)) (passed w (happens c e).chip st)

-- so many flags
unfoldable pub flags : ℕ → List Bool
flags zero = []
flags (suc n) = flag_bits ++ flags n

-- the closing flag's last bit is sent
abbrev pub closed : Which → Chip → Bool
closed w c = frame_ended (sender_of w c)

-- Every host: it ticks and writes as it likes, in time or not, one byte over another, until the
-- closing flag is out; all else leaves the sender's side as it is
abbrev pub Host : Which → Chip → List Event → Type 0
Host w c st = TicksWhere (λ d. closed w d ≡ false) w c st
