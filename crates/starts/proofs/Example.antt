-- A start, computed from a hard reset: behind a mark, the check preset and the latch cleared within
-- the flag. Then the theorem, said of it. Assumes nothing.
use Rattle.std.specs.Prelude.{◌≡◌, refl, true, false, List, [], ◌∷◌}
use Rattle.std.proofs.Common.{arith}
use Rattle.line.specs.Check.{ones}
use Rattle.settings.specs.Bytes.{preset_sent, clear_underrun, sdlc_mode}
use Rattle.chip.specs.Computing.{computing}
use Rattle.chip.specs.declared.Chip.{Chip}
use Rattle.chip.specs.Chip.{hard_reset}
use Rattle.chip.specs.Event.{Event, ControlWrite, Transmit}
use Rattle.stories.specs.Story.{A, chan, happens, after}
use Rattle.stories.specs.Sent.{ticks}
use Rattle.history.specs.Sending.Side.{side_of, full_of, latch_of}
use Rattle.timely.specs.Start.{Start}
use Rattle.starts.specs.Statement.{Begins, GoesOn, ended, kept, ticking, FlagSent}
use Rattle.starts.proofs.Started.{where_starts}

-- WR4 for SDLC, WR5 with the sender on and the check included: the sender idles
abbrev pub idle : Chip
idle =
    after hard_reset
    (ControlWrite 0 4 ∷ ControlWrite 0 sdlc_mode ∷ ControlWrite 0 5 ∷ ControlWrite 0 0b1001 ∷ [])

abbrev pub along : List Event
along = ControlWrite 0 preset_sent ∷ ControlWrite 0 clear_underrun ∷ Transmit 0 ∷ Transmit 0 ∷ []

pub record Examples : Type 0 where
  pub begins : Begins A idle
  pub goes_on_lem : GoesOn A (happens idle (Transmit 0)).chip along
  pub included : (side_of A (after idle (Transmit 0 ∷ along))).heeds.framing.included ≡ true
  pub empty : full_of A (after idle (Transmit 0 ∷ along)) ≡ false
  pub preset : (chan A (after idle (Transmit 0 ∷ along))).sender.shared.check ≡ ones
  pub cleared : latch_of A (after idle (Transmit 0 ∷ along)) ≡ false

-- the chip in the first tick of the flag, and what is left of the story behind the preset
abbrev flagged : Chip
flagged = (happens idle (Transmit 0)).chip

abbrev cleared_behind : List Event
cleared_behind = ControlWrite 0 clear_underrun ∷ Transmit 0 ∷ Transmit 0 ∷ []

pub examples : Examples
unfolding computing after
examples = record {
  begins =
      record { air = record { mode = refl; no_break = refl; on = refl }; paid = refl; next = refl };
  goes_on_lem =
      kept {c = flagged} {e = ControlWrite 0 preset_sent} {st = cleared_behind} refl refl refl
      (record { mode = refl; no_break = refl; on = refl })
      (kept {c = (happens flagged (ControlWrite 0 preset_sent)).chip}
      {e = ControlWrite 0 clear_underrun} {st = Transmit 0 ∷ Transmit 0 ∷ []} refl refl refl
      (record { mode = refl; no_break = refl; on = refl })
      (ticking {c = after flagged (ControlWrite 0 preset_sent ∷ ControlWrite 0 clear_underrun ∷ [])}
      {st = Transmit 0 ∷ []}
      (ticking
      {c = after flagged
      (ControlWrite 0 preset_sent ∷ ControlWrite 0 clear_underrun ∷ Transmit 0 ∷ [])}
      {st = []} ended)));
  included = refl;
  empty = refl;
  preset = refl;
  cleared = refl;
}

-- the theorem speaks of this story

three_sent : FlagSent A idle (Transmit 0 ∷ along) 3
unfolding ticks
three_sent = where_starts A idle along examples.begins examples.goes_on_lem (omega arith)

pub starts : Start A (after idle (Transmit 0 ∷ along)) 3
starts =
    three_sent.start examples.included examples.empty examples.preset examples.cleared
