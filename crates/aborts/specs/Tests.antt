-- A host that ticks and writes as it likes leaves an abort to run; and a test that a reader can run
-- on a receiver's story. Assumes nothing.
use Rattle.std.specs.Prelude.{◌≡◌, Bool, true, List}
use Rattle.std.proofs.Common.{ap}
use Rattle.chip.specs.declared.Chip.{Chip}
use Rattle.chip.specs.Event.{Event}
use Rattle.stories.specs.Story.{Which}
use Rattle.stories.specs.Sent.{ticks_by}
use Rattle.history.specs.Sending.Side.{SenderSide}
use Rattle.timely.specs.Free.{Free}
use Rattle.history.specs.Receiving.Side.{side_of}
use Rattle.history.specs.Receiving.Quiet.{quiet, quiet_keeps}
use Rattle.history.specs.Receiving.Stories.{hears_where, hears_where_lem}
use Rattle.aborts.specs.Statement.{LeftToRun, Attends}
use Rattle.history.specs.Sending.Events.{write_side, write_no_tick}
use Rattle.history.specs.Sending.Stories as hosts
use Rattle.aborts.specs.Statement as stated

-- such a host leaves an abort to run
pub free_runs : (w : Which) {c : Chip} {st : List Event} → Free w c st → LeftToRun w c st
free_runs w hosts.ended = stated.ended
free_runs w (hosts.still {c = c} {e = x} r k f) =
    stated.kept (ap ticks_by r) (
      ap (λ (s : SenderSide). s.sender.unit) k,
      ap (λ (s : SenderSide). s.sender.insertion.owed) k,
      ap (λ (s : SenderSide). s.heeds) k,
    )
    (free_runs w f)
free_runs w (hosts.writes {c = c} {v = v} f) =
    let k = write_side w c v in
    stated.kept (write_no_tick w v) (
      ap (λ (s : SenderSide). s.sender.unit) k,
      ap (λ (s : SenderSide). s.sender.insertion.owed) k,
      ap (λ (s : SenderSide). s.heeds) k,
    )
    (free_runs w f)
free_runs w (hosts.ticking m f) = stated.ticking (free_runs w f)

-- a receiver that hears and is read as it comes
abbrev pub attending : Which → Chip → List Event → Bool
attending u r st = hears_where (λ d b. true) (quiet u) u r st

pub attends_of : (u : Which) (r : Chip) (st : List Event) → attending u r st ≡ true → Attends u r st
attends_of u r st t =
    hears_where_lem (side_of u) (λ d b. Unit) (λ d b. true) (quiet u) (λ d b a. tt) (quiet_keeps u) u r
    st t
