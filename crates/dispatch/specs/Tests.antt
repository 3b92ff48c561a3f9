-- In time, as a test that a reader can run on a story. Assumes nothing.
use Rattle.std.specs.Prelude.{◌≡◌, refl, Bool, true, false, not, ◌&&◌, List, [], ◌∷◌, ℕ, eqb, if◌then◌else◌}
use Rattle.std.proofs.Common.{eqb-true}
use Rattle.common.specs.Tools.{void, both_left, both_right, not_true}
use Rattle.blocks.specs.Come.{in_time}
use Rattle.chip.specs.declared.Chip.{Chip}
use Rattle.chip.specs.Event.{Event, DataWrite}
use Rattle.stories.specs.Story.{Which, number, happens}
use Rattle.stories.specs.Sent.{ToSender, Ticks, Writes, Else, to_sender}
use Rattle.history.specs.Sending.Side.{full_of, latch_of, View, its_tick, its_write, other, view}
use Rattle.dispatch.specs.Side.{side_of}
use Rattle.dispatch.specs.Statement.{InTime, over, still, writes, writes_behind, ticking}
use Rattle.dispatch.specs.Quiet.{quiet, quiet_keeps}

-- the next byte, into the empty buffer
abbrev pub is_next : Bool → ℕ → List ℕ → Bool
is_next full b [] = false
is_next full b (v ∷ vs) = eqb b v && not full

-- a tick that does not come too early; the next byte of the block or, once the latch is set, behind
-- its check; nothing else that touches the sender
abbrev pub allowed : Which → Chip → List ℕ → List ℕ → Event → ToSender → Bool
allowed w c rest tail e Ticks = in_time (side_of w c).sender rest tail
allowed w c rest tail e (Writes b) = is_next (full_of w c) b (if latch_of w c then tail else rest)
allowed w c rest tail e Else = quiet w c e

abbrev pub behind_first : List ℕ → List ℕ
behind_first [] = []
behind_first (v ∷ vs) = vs

abbrev pub rest_after : ToSender → Bool → List ℕ → List ℕ
rest_after Ticks latch rest = rest
rest_after (Writes b) latch rest = if latch then rest else behind_first rest
rest_after Else latch rest = rest

abbrev pub tail_after : ToSender → Bool → List ℕ → List ℕ
tail_after Ticks latch tail = tail
tail_after (Writes b) latch tail = if latch then behind_first tail else tail
tail_after Else latch tail = tail

abbrev pub none : List ℕ → Bool
none [] = true
none (v ∷ vs) = false

unfoldable pub timely : Which → Chip → List ℕ → List ℕ → List Event → Bool
timely w c rest tail [] = none rest && none tail
timely w c rest tail (e ∷ st) =
    allowed w c rest tail e (to_sender w e)
    && timely w (happens c e).chip (rest_after (to_sender w e) (latch_of w c) rest)
    (tail_after (to_sender w e) (latch_of w c) tail) st

-- a write, by the latch
write_more : (w : Which) (c : Chip) (rest tail : List ℕ) (b : ℕ) (st : List Event) (l : Bool)
    → latch_of w c ≡ l → is_next (full_of w c) b (if l then tail else rest) ≡ true
    → InTime w [] [] (happens c (DataWrite (number w) b)).chip
    (if l then rest else behind_first rest)
    (if l then behind_first tail else tail) st
    → InTime w [] [] c rest tail (DataWrite (number w) b ∷ st)
write_more w c rest [] b st true e a i = void a
write_more w c rest (v ∷ tail) b st true e a i =
    let p : b ≡ v = eqb-true b v (both_left (eqb b v) (not (full_of w c)) a) in
    let f = not_true (full_of w c) (both_right (eqb b v) (not (full_of w c)) a) in
    rw (← p) (writes_behind e f i)
write_more w c [] tail b st false e a i = void a
write_more w c (v ∷ rest) tail b st false e a i =
    let p : b ≡ v = eqb-true b v (both_left (eqb b v) (not (full_of w c)) a) in
    let f = not_true (full_of w c) (both_right (eqb b v) (not (full_of w c)) a) in
    rw (← p) (writes f i)

one_more_lem : (w : Which) (c : Chip) (rest tail : List ℕ) (e : Event) (st : List Event) (r : ToSender)
    → View w e r → to_sender w e ≡ r → allowed w c rest tail e r ≡ true
    → InTime w [] [] (happens c e).chip (rest_after r (latch_of w c) rest)
    (tail_after r (latch_of w c) tail) st → InTime w [] [] c rest tail (e ∷ st)
one_more_lem w c rest tail _ st Ticks its_tick q a i = ticking a i
one_more_lem w c rest tail _ st (Writes b) its_write q a i =
    write_more w c rest tail b st (latch_of w c) refl a i
one_more_lem w c rest tail e st Else other q a i = still q (quiet_keeps w c e a) i

all_none : (w : Which) (c : Chip) (rest tail : List ℕ) → none rest && none tail ≡ true
    → InTime w [] [] c rest tail []
all_none w c [] [] e = over
all_none w c [] (v ∷ tail) e = void e
all_none w c (v ∷ rest) tail e = void e

pub in_time_lem : (w : Which) (c : Chip) (rest tail : List ℕ) (st : List Event)
    → timely w c rest tail st ≡ true → InTime w [] [] c rest tail st
unfolding timely
in_time_lem w c rest tail [] t = all_none w c rest tail t
in_time_lem w c rest tail (e ∷ st) t =
    let r = to_sender w e in
    let a = allowed w c rest tail e r in
    let l = latch_of w c in
    let d = (happens c e).chip in
    let n = timely w d (rest_after r l rest) (tail_after r l tail) st in
    one_more_lem w c rest tail e st r (view w e) refl (both_left a n t)
    (in_time_lem w d (rest_after r l rest) (tail_after r l tail) st (both_right a n t))
