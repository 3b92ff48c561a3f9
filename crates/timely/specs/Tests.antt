-- In time, and free, as tests that a reader can run on a story, and that they are those conditions.
-- Assumes nothing.
use Rattle.std.specs.Prelude.{◌≡◌, refl, Bool, true, false, not, ◌&&◌, List, [], ◌∷◌, ℕ, eqb}
use Rattle.std.proofs.Common.{eqb-true}
use Rattle.common.specs.Tools.{void, both_left, both_right, not_true}
use Rattle.chip.specs.declared.Chip.{Chip}
use Rattle.chip.specs.Event.{Event}
use Rattle.whole.specs.Stage.{since_after, in_time}
use Rattle.stories.specs.Story.{Which, happens}
use Rattle.stories.specs.Sent.{ToSender, Ticks, Writes, Else, to_sender}
use Rattle.history.specs.Sending.Side.{full_of, latch_of, View, its_tick, its_write, other, view}
use Rattle.history.specs.Sending.Quiet.{quiet, quiet_keeps}
use Rattle.history.specs.Sending.Stories.{ticks_where, ticks_where_lem}
use Rattle.timely.specs.InTime.{InTime, over, still, writes, next_frame_lem, ticking}
use Rattle.timely.specs.Free.{Free}

-- a tick before the deadline; the next byte, into the empty buffer; nothing else that touches the
-- sender
abbrev pub allowed : Which → Chip → ℕ → List ℕ → Event → ToSender → Bool
allowed w c n rest e Ticks = in_time (full_of w c) n rest
allowed w c n [] e (Writes b) = latch_of w c
allowed w c n (v ∷ rest) e (Writes b) = eqb b v && not (full_of w c)
allowed w c n rest e Else = quiet w c e

abbrev pub unwritten : ToSender → List ℕ → List ℕ
unwritten Ticks rest = rest
unwritten (Writes b) [] = []
unwritten (Writes b) (v ∷ rest) = rest
unwritten Else rest = rest

abbrev pub since : ToSender → Bool → Bool → ℕ → ℕ
since Ticks was is n = since_after was is n
since (Writes b) was is n = n
since Else was is n = n

abbrev pub all_written : List ℕ → Bool
all_written [] = true
all_written (v ∷ rest) = false

unfoldable pub timely : Which → Chip → ℕ → List ℕ → List Event → Bool
timely w c n rest [] = all_written rest
timely w c n rest (e ∷ st) =
    allowed w c n rest e (to_sender w e)
    && timely w (happens c e).chip
    (since (to_sender w e) (full_of w c) (full_of w (happens c e).chip) n)
    (unwritten (to_sender w e) rest) st

-- one event, by its role; what follows is handed in
one_more_lem : (w : Which) (c : Chip) (n : ℕ) (rest : List ℕ) (e : Event) (st : List Event)
    (r : ToSender) → View w e r → to_sender w e ≡ r → allowed w c n rest e r ≡ true
    → InTime w [] (happens c e).chip (since r (full_of w c) (full_of w (happens c e).chip) n)
    (unwritten r rest) st → InTime w [] c n rest (e ∷ st)
one_more_lem w c n rest _ st Ticks its_tick q a i = ticking a i
one_more_lem w c n [] _ st (Writes b) its_write q a i = next_frame_lem a i
one_more_lem w c n (v ∷ rest) _ st (Writes b) its_write q a i =
    let p : b ≡ v = eqb-true b v (both_left (eqb b v) (not (full_of w c)) a) in
    let f = not_true (full_of w c) (both_right (eqb b v) (not (full_of w c)) a) in
    rw (← p) (writes f i)
one_more_lem w c n rest e st Else other q a i = still q (quiet_keeps w c e a) i

pub in_time_lem : (w : Which) (c : Chip) (n : ℕ) (rest : List ℕ) (st : List Event)
    → timely w c n rest st ≡ true → InTime w [] c n rest st
unfolding timely
in_time_lem w c n [] [] t = over
in_time_lem w c n (v ∷ rest) [] t = void t
in_time_lem w c n rest (e ∷ st) t =
    let r = to_sender w e in
    let m = since r (full_of w c) (full_of w (happens c e).chip) n in
    let a =
    both_left (allowed w c n rest e r) (timely w (happens c e).chip m (unwritten r rest) st) t in
    let b =
    both_right (allowed w c n rest e r) (timely w (happens c e).chip m (unwritten r rest) st) t in
    one_more_lem w c n rest e st r (view w e) refl a
    (in_time_lem w (happens c e).chip m (unwritten r rest) st b)

-- The free host, likewise

abbrev pub freely : Which → Chip → List Event → Bool
freely w c st = ticks_where (λ d. true) w c st

pub free_of : (w : Which) (c : Chip) (st : List Event) → freely w c st ≡ true → Free w c st
free_of w c st t = ticks_where_lem (λ d. Unit) (λ d. true) (λ d e. tt) w c st t
