-- What is seen of a channel's receiver in a story: the bits that it hears, what the reads answer,
-- the entries that they take, and RR1. Assumes nothing.
use Rattle.std.specs.Prelude.{Bool, true, false, ◌&&◌, List, [], ◌∷◌, ◌++◌, ℕ, eqb, leb, if◌then◌else◌}
use Rattle.entry.specs.declared.Entry.{Entry}
use Rattle.queue.specs.Queue.{oldest, waits}
use Rattle.queue.specs.Holding.{entry_if}
use Rattle.channel.specs.declared.Answer.{Answer}
use Rattle.channel.specs.declared.Answer.TheVariants.{Done, Gave, Refused}
use Rattle.chip.specs.declared.Chip.{Chip}
use Rattle.chip.specs.Chip.{on_level}
use Rattle.chip.specs.Event.{Event, HardReset, ControlWrite, ControlRead, DataWrite, DataRead}
use Rattle.chip.specs.Event.{Transmit, Receive, SetLines, Acknowledge, Reti}
use Rattle.stories.specs.Story.{Which, number, chan, happens}

-- What an event is to this receiver: a bit heard, a read, or anything else; what is refused is
-- neither of the first two

pub data ToReceiver : Type 0 where
  Hears : Bool → ToReceiver
  Reads : ToReceiver
  Else : ToReceiver

abbrev pub here : Which → ℕ → Bool
here w ch = eqb ch (number w)

abbrev pub to_receiver : Which → Event → ToReceiver
to_receiver w HardReset = Else
to_receiver w (ControlWrite ch v) = Else
to_receiver w (ControlRead ch) = Else
to_receiver w (DataWrite ch v) = Else
to_receiver w (DataRead ch) = if here w ch then Reads else Else
to_receiver w (Transmit ch) = Else
to_receiver w (Receive ch bit) =
    if here w ch then (if leb 2 bit then Else else Hears (on_level bit)) else Else
to_receiver w (SetLines ch dcd cts) = Else
to_receiver w Acknowledge = Else
to_receiver w Reti = Else

-- "fed": the bits that a story's receive ticks bring

abbrev pub bit_in : ToReceiver → List Bool
bit_in (Hears b) = b ∷ []
bit_in Reads = []
bit_in Else = []

unfoldable pub bits_of : Which → List Event → List Bool
bits_of w [] = []
bits_of w (e ∷ st) = bit_in (to_receiver w e) ++ bits_of w st

-- "gives back": what the reads answered (a refused one gave nothing), and the entries that they
-- took

abbrev pub is_read : ToReceiver → Bool
is_read (Hears b) = false
is_read Reads = true
is_read Else = false

abbrev pub taking : Which → Chip → ToReceiver → Bool
taking w c r = is_read r && waits (chan w c).queue

abbrev pub value_if : Bool → Answer → List ℕ
value_if true Done = []
value_if true (Gave v) = v ∷ []
value_if true (Refused k) = []
value_if false a = []

unfoldable pub values_of : Which → Chip → List Event → List ℕ
values_of w c [] = []
values_of w c (e ∷ st) =
    value_if (is_read (to_receiver w e)) (happens c e).answer ++ values_of w (happens c e).chip st

unfoldable pub took_of : Which → Chip → List Event → List Entry
took_of w c [] = []
took_of w c (e ∷ st) =
    entry_if (taking w c (to_receiver w e)) (oldest (chan w c).queue)
    ++ took_of w (happens c e).chip st

unfoldable pub bytes_of : List Entry → List ℕ
bytes_of [] = []
bytes_of (e ∷ es) = e.byte ∷ bytes_of es

-- RR1 with all sent, 011 and frame end: without D6, and with it, a bad check; and with all sent
-- alone
abbrev pub good_end : ℕ
good_end = 0b10000111

abbrev pub bad_end : ℕ
bad_end = 0b11000111

abbrev pub no_end : ℕ
no_end = 0b1
