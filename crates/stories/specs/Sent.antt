-- What is seen of a channel's sender: the bits that its ticks put on the line in a story, how many
-- they are, and RR0 D6. Assumes nothing.
use Rattle.std.specs.Prelude.{Bool, true, false, List, [], ◌∷◌, ◌++◌, ℕ, ◌+◌, ◌/◌, eqb, if◌then◌else◌}
use Rattle.line.specs.Bits.{odd, one_if}
use Rattle.channel.specs.declared.Answer.{Answer}
use Rattle.channel.specs.declared.Answer.TheVariants.{Done, Gave, Refused}
use Rattle.channel.specs.Answer.{answer_value}
use Rattle.chip.specs.declared.Chip.{Chip}
use Rattle.chip.specs.Chip.{on_level}
use Rattle.chip.specs.Event.{Event, HardReset, ControlWrite, ControlRead, DataWrite, DataRead}
use Rattle.chip.specs.Event.{Transmit, Receive, SetLines, Acknowledge, Reti}
use Rattle.stories.specs.Story.{Which, number, happens}

-- What an event is to this sender: a tick, a data write, or something else. A refused call is
-- something else

pub data ToSender : Type 0 where
  Ticks : ToSender
  Writes : ℕ → ToSender
  Else : ToSender

abbrev pub to_sender : Which → Event → ToSender
to_sender w HardReset = Else
to_sender w (ControlWrite ch v) = Else
to_sender w (ControlRead ch) = Else
to_sender w (DataWrite ch v) = if eqb ch (number w) then Writes v else Else
to_sender w (DataRead ch) = Else
to_sender w (Transmit ch) = if eqb ch (number w) then Ticks else Else
to_sender w (Receive ch bit) = Else
to_sender w (SetLines ch dcd cts) = Else
to_sender w Acknowledge = Else
to_sender w Reti = Else

-- The line of a story: the bits that the ticks of this channel give, and how many they are

abbrev pub ticks_by : ToSender → Bool
ticks_by Ticks = true
ticks_by (Writes v) = false
ticks_by Else = false

abbrev pub is_tick : Which → Event → Bool
is_tick w e = ticks_by (to_sender w e)

abbrev pub line_bit : Bool → Answer → List Bool
line_bit false a = []
line_bit true Done = []
line_bit true (Gave v) = on_level v ∷ []
line_bit true (Refused k) = []

unfoldable pub line_of : Which → Chip → List Event → List Bool
line_of w c [] = []
line_of w c (e ∷ st) = line_bit (is_tick w e) (happens c e).answer ++ line_of w (happens c e).chip st

unfoldable pub ticks : Which → List Event → ℕ
ticks w [] = 0
ticks w (e ∷ st) = one_if (is_tick w e) + ticks w st

-- RR0 D6, as a control read gives it
abbrev pub d6 : Which → Chip → Bool
d6 w c = odd (answer_value (happens c (ControlRead (number w))).answer / 64)
