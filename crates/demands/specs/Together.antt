-- Sender and receiver together: what channel w of one chip sends in time, channel u of another that
-- listens gives back. Assumes nothing.
use Rattle.std.specs.Prelude.{◌≡◌, List, [], ◌∷◌, ◌++◌, false, ℕ, ◌+◌, ◌-◌, ◌*◌, length}
use Rattle.std.proofs.Common.{◌∙◌, arith}
use Rattle.line.specs.Frame.{zeros_of, with_check}
use Rattle.line.specs.Bits.{Below}
use Rattle.chip.specs.declared.Chip.{Chip}
use Rattle.chip.specs.Event.{Event}
use Rattle.whole.specs.Start.{flag_head}
use Rattle.stories.specs.Story.{Which}
use Rattle.stories.specs.Sent.{line_of, ticks}
use Rattle.stories.specs.Received.{bits_of}
use Rattle.whole.specs.Frames.{ended}
use Rattle.receiving.specs.Statement.{Listening, Fed, Received}
use Rattle.receiving.proofs.Demand.{demand2}
use Rattle.timely.specs.Start.{Start}
use Rattle.timely.specs.InTime.{InTime}
use Rattle.sending.specs.Frame.{demand3}
use Rattle.history.specs.Receiving.Side as receiving

-- the bits that r hears are those that c sends, from the first bit of its opening flag on
abbrev pub Together : Type 0
Together =
    (w : Which) (c : Chip) (p v : ℕ) (vs : List ℕ) (st : List Event) → Start w c p
    → InTime w [] c (p - 1) (v ∷ vs) st
    → p + ticks w st ≡ 8 * (length (v ∷ vs) + 2) + 16 + zeros_of (v ∷ vs) → Below 256 (v ∷ vs)
    → (u : Which) (r : Chip) (rs : List Event) → Listening (receiving.side_of u r) → Fed u r rs
    → bits_of u rs ≡ flag_head p ++ line_of w c st
    → Received u r rs (with_check (v ∷ vs)) (ended false (with_check (v ∷ vs)))

pub together : Together
together w c p v vs st s i n b u r rs l f e =
    demand2 u r rs (v ∷ vs) l (omega arith) b f (e ∙ demand3 w c p v vs st s i n)
