-- Demand 3 with the test that a reader can run, and the watchful host's test. Assumes nothing.
use Rattle.std.specs.Prelude.{◌≡◌, Bool, true, false, not, ◌||◌, List, ◌∷◌, ◌++◌, ℕ, ◌+◌, ◌-◌, ◌*◌, length}
use Rattle.std.proofs.Common.{sym}
use Rattle.common.specs.Tools.{void, not_true}
use Rattle.line.specs.Frame.{frame, zeros_of}
use Rattle.chip.specs.declared.Chip.{Chip}
use Rattle.chip.specs.Event.{Event}
use Rattle.whole.specs.Start.{flag_head}
use Rattle.stories.specs.Story.{Which}
use Rattle.stories.specs.Sent.{line_of, ticks}
use Rattle.history.specs.Sending.Side.{latch_of}
use Rattle.history.specs.Sending.Stories.{ticks_where, ticks_where_lem}
use Rattle.timely.specs.Start.{Start}
use Rattle.sending.specs.Statement.{status_latched, Seeing, Watched}
use Rattle.sending.specs.Frame.{demand3}
use Rattle.timely.specs.Tests.{timely, in_time_lem}

-- demand 3 with the test
pub demand3_tested : (w : Which) (c : Chip) (p v : ℕ) (vs : List ℕ) (st : List Event) → Start w c p
    → timely w c (p - 1) (v ∷ vs) st ≡ true
    → p + ticks w st ≡ 8 * (length (v ∷ vs) + 2) + 16 + zeros_of (v ∷ vs)
    → flag_head p ++ line_of w c st ≡ frame (v ∷ vs)
demand3_tested w c p v vs st s t n = demand3 w c p v vs st s (in_time_lem w c (p - 1) (v ∷ vs) st t) n

-- one whose status is not latched at a tick while the latch is clear
abbrev pub seeing : Which → Chip → Bool
seeing w c = latch_of w c || not (status_latched w c)

abbrev pub watching : Which → Chip → List Event → Bool
watching w c st = ticks_where (seeing w) w c st

unlatched : (l s : Bool) → l || not s ≡ true → l ≡ false → s ≡ false
unlatched true s t e = void (sym e)
unlatched false s t e = not_true s t

pub watched_of : (w : Which) (c : Chip) (st : List Event) → watching w c st ≡ true → Watched w c st
watched_of w c st t =
    ticks_where_lem (Seeing w) (seeing w) (λ d a. unlatched (latch_of w d) (status_latched w d) a) w c
    st t
