-- An event by what it is to a receiver: what holds of its tick, of its read and of anything else
-- holds of every event. Assumes nothing.
use Rattle.std.specs.Prelude.{Bool, true, false, ℕ, leb, if◌then◌else◌}
use Rattle.common.specs.Tools.{eqb_elim}
use Rattle.common.specs.declared.Refusal.TheVariants as refusal
use Rattle.channel.specs.declared.Answer.TheVariants.{Done, Refused}
use Rattle.channel.specs.declared.Answered.{Answered}
use Rattle.channel.specs.Channel.{answered}
use Rattle.channel.specs.Events.{data_read, receive_tick}
use Rattle.chip.specs.declared.Chip.{Chip}
use Rattle.chip.specs.declared.Outcome.{Outcome}
use Rattle.chip.specs.Chip.{on_level, data_read_call, receive_in, receive_call}
use Rattle.chip.specs.Event.{Event, HardReset, ControlWrite, ControlRead, DataWrite, DataRead}
use Rattle.chip.specs.Event.{Transmit, Receive, SetLines, Acknowledge, Reti}
use Rattle.stories.specs.Story.{Which, A, B, number, chan, happens}
use Rattle.stories.specs.Received.{ToReceiver, Hears, Reads, Else, to_receiver}

-- an event's answer, and this channel behind it
abbrev pub answered_in : Which → Outcome → Answered
answered_in w o = answered o.answer (chan w o.chip)

own_read : (w : Which) (c : Chip) (P : Answered → Type 0) → P (data_read (chan w c))
    → P (answered_in w (happens c (DataRead (number w))))
unfolding data_read_call
own_read A c P p = p
own_read B c P p = p

own_tick : (w : Which) (c : Chip) (bit : ℕ) (P : Answered → Type 0) → P (receive_in (chan w c) bit)
    → P (answered_in w (happens c (Receive (number w) bit)))
unfolding receive_call
own_tick A c bit P p = p
own_tick B c bit P p = p

pub by_role : (w : Which) (c : Chip) (P : Answered → ToReceiver → Type 0)
    → ((x : Answered) → P x Else)
    → ((b : Bool) → P (answered Done (receive_tick (chan w c) b)) (Hears b))
    → P (data_read (chan w c)) Reads
    → (e : Event) → P (answered_in w (happens c e)) (to_receiver w e)
by_role w c P other tick read HardReset = other _
by_role w c P other tick read (ControlWrite ch v) = other _
by_role w c P other tick read (ControlRead ch) = other _
by_role w c P other tick read (DataWrite ch v) = other _
by_role w c P other tick read (DataRead ch) =
    eqb_elim (λ t. P (answered_in w (happens c (DataRead ch))) (if t then Reads else Else))
    ch (number w) (λ e. rw e (own_read w c (λ x. P x Reads) read)) (λ n. other _)
by_role w c P other tick read (Transmit ch) = other _
by_role w c P other tick read (Receive ch bit) =
    eqb_elim (λ t. P (answered_in w (happens c (Receive ch bit)))
    (if t then (if leb 2 bit then Else else Hears (on_level bit)) else Else)) ch (number w)
    (λ e. rw e (own_tick w c bit (λ x. P x (if leb 2 bit then Else else Hears (on_level bit)))
    (elim (leb 2 bit) as (λ t. P (if t then answered (Refused refusal.Level) (chan w c)
    else answered Done (receive_tick (chan w c) (on_level bit)))
    (if t then Else else Hears (on_level bit))) [ true ↦ other _ | false ↦ tick (on_level bit) ])))
    (λ n. other _)
by_role w c P other tick read (SetLines ch dcd cts) = other _
by_role w c P other tick read Acknowledge = other _
by_role w c P other tick read Reti = other _
