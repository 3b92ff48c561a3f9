-- What the marked examples need beside the words of tales: a line that comes to a channel, and a
-- chip whose channel A sends to its channel B. Assumes nothing.
use Rattle.std.specs.Prelude.{List, map, ℕ, zero, suc}
use Rattle.channel.specs.Answer.{answer_value}
use Rattle.chip.specs.declared.Chip.{Chip}
use Rattle.chip.specs.Event.{Event, Transmit, Receive, step}

-- a line's bits come to a channel
abbrev pub heard : ℕ → List ℕ → List Event
heard ch bits = map (λ b. Receive ch b) bits

-- A's line is B's: n ticks of both
unfoldable pub wired : ℕ → Chip → Chip
wired zero c = c
wired (suc n) c =
    wired n (step (step c (Transmit 0)).chip
    (Receive 1 (answer_value (step c (Transmit 0)).answer))).chip
