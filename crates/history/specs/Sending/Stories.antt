-- Stories of a channel's sender in which its host ticks where it may and writes as it likes, in
-- time or not, and all else leaves the sender's side as it is; the same as a test that a reader can
-- run on a story. Assumes nothing.
use Rattle.std.specs.Prelude.{◌≡◌, refl, Bool, true, List, [], ◌∷◌, ℕ}
use Rattle.settings.specs.Bytes.{preset_sent, clear_underrun}
use Rattle.chip.specs.declared.Chip.{Chip}
use Rattle.chip.specs.Event.{Event, ControlWrite, DataWrite, Transmit}
use Rattle.stories.specs.Story.{Which, number, happens, throughout, throughout_holds}
use Rattle.stories.specs.Sent.{ToSender, Ticks, Writes, Else, to_sender}
use Rattle.history.specs.Sending.Side.{side_of, View, its_tick, its_write, other, view}
use Rattle.history.specs.Sending.Quiet.{quiet, quiet_keeps}

pub data TicksWhere (May : Chip → Type 0) (w : Which) : Chip → List Event → Type 0 where
  ended : {c : Chip} → TicksWhere May w c []
  still : {c : Chip} {e : Event} {st : List Event} → to_sender w e ≡ Else
      → side_of w (happens c e).chip ≡ side_of w c → TicksWhere May w (happens c e).chip st
      → TicksWhere May w c (e ∷ st)
  writes : {c : Chip} {v : ℕ} {st : List Event}
      → TicksWhere May w (happens c (DataWrite (number w) v)).chip st
      → TicksWhere May w c (DataWrite (number w) v ∷ st)
  ticking : {c : Chip} {st : List Event} → May c
      → TicksWhere May w (happens c (Transmit (number w))).chip st
      → TicksWhere May w c (Transmit (number w) ∷ st)

-- What makes a sender ready for the next frame or block: WR0, "D7-6: .. 2 preset Tx check, 3 clear
-- Underrun latch"
abbrev pub anew : Which → List Event
anew w = ControlWrite (number w) preset_sent ∷ ControlWrite (number w) clear_underrun ∷ []

-- As a test

abbrev ticked_where : (Chip → Bool) → Which → Chip → Event → ToSender → Bool
ticked_where may w c e Ticks = may c
ticked_where may w c e (Writes b) = true
ticked_where may w c e Else = quiet w c e

abbrev pub ticks_where : (Chip → Bool) → Which → Chip → List Event → Bool
ticks_where may w c st = throughout (λ d e. ticked_where may w d e (to_sender w e)) c st

one_more_lem : (May : Chip → Type 0) (may : Chip → Bool) → ((c : Chip) → may c ≡ true → May c)
    → (w : Which) (c : Chip) (e : Event) (st : List Event) (r : ToSender) → View w e r
    → to_sender w e ≡ r → ticked_where may w c e r ≡ true
    → TicksWhere May w (happens c e).chip st → TicksWhere May w c (e ∷ st)
one_more_lem May may h w c _ st Ticks its_tick q a s = ticking (h c a) s
one_more_lem May may h w c _ st (Writes b) its_write q a s = writes s
one_more_lem May may h w c e st Else other q a s = still q (quiet_keeps w c e a) s

pub ticks_where_lem : (May : Chip → Type 0) (may : Chip → Bool) → ((c : Chip) → may c ≡ true → May c)
    → (w : Which) (c : Chip) (st : List Event) → ticks_where may w c st ≡ true
    → TicksWhere May w c st
ticks_where_lem May may h w c st t =
    throughout_holds (λ d e. ticked_where may w d e (to_sender w e)) (TicksWhere May w) (λ d. ended)
    (λ d e xs. one_more_lem May may h w d e xs (to_sender w e) (view w e) refl) c st t
