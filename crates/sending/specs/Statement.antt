-- Demand 3, sending, in its own words, over the events of the chip and for either channel w.
-- Proofs: Frame, Chain, Underrun, Unclosed, Abort. Assumes nothing.
use Rattle.std.specs.Prelude.{◌≡◌, Bool, true, false, List, [], ◌∷◌, ◌++◌, ℕ, ◌+◌, ◌-◌, ◌*◌, ◌/◌, ◌≤◌, length, take, is_some}
use Rattle.line.specs.Frame.{frame, zeros_of}
use Rattle.sdlc.specs.declared.LineUnit.TheVariants.{Flag, Byte}
use Rattle.sdlc.specs.Sound.{SoundUnit}
use Rattle.sender.specs.Good.{Good}
use Rattle.chip.specs.declared.Chip.{Chip}
use Rattle.chip.specs.Event.{Event, ControlWrite, Transmit}
use Rattle.whole.specs.Come.{opens}
use Rattle.whole.specs.Start.{flag_head}
use Rattle.stories.specs.Story.{Which, number, chan, happens, after}
use Rattle.settings.specs.Bytes.{reset_status}
use Rattle.stories.specs.Sent.{line_of, ticks, d6}
use Rattle.history.specs.Sending.Side.{sending_in, full_of, latch_of}
use Rattle.history.specs.Sending.Stories.{TicksWhere, anew}
use Rattle.timely.specs.Start.{Start}
use Rattle.timely.specs.InTime.{InTime}
use Rattle.timely.specs.Free.{Free}

-- "From that flag to the closing one the line is the frame of exactly those bytes, in 8(n+2)+16+z
-- ticks, z the zeros inserted". The flag's p bits are sent already; it counts as a byte that was
-- loaded with its first bit, so p - 1 ticks have gone since
abbrev pub FrameSent : Type 0
FrameSent =
    (w : Which) (c : Chip) (p v : ℕ) (vs : List ℕ) (st : List Event) → Start w c p
    → InTime w [] c (p - 1) (v ∷ vs) st
    → p + ticks w st ≡ 8 * (length (v ∷ vs) + 2) + 16 + zeros_of (v ∷ vs)
    → flag_head p ++ line_of w c st ≡ frame (v ∷ vs)

-- at every moment before that: so much of the frame is sent, whatever is still to be written
abbrev pub FrameBegun : Type 0
FrameBegun =
    (w : Which) (c : Chip) (p v : ℕ) (vs left : List ℕ) (st : List Event) → Start w c p
    → InTime w left c (p - 1) (v ∷ vs) st
    → p + ticks w st ≤ 8 * (length (v ∷ vs) + 2) + 16 + zeros_of (v ∷ vs)
    → flag_head p ++ line_of w c st ≡ take (p + ticks w st) (frame (v ∷ vs))

-- "at most 8(n+2)/5 rounded down"
abbrev pub ZerosFew : Type 0
ZerosFew = (note : List ℕ) → zeros_of note ≤ 8 * (length note + 2) / 5

-- 01, Note list and line: "a closing flag opens the next frame". Within a flag, as it stands behind
-- p of its bits
pub record Closing (w : Which) (c : Chip) (p : ℕ) : Type 0 where
  pub some : 1 ≤ p
  pub inside : p ≤ 8
  pub flag : (chan w c).sender.unit ≡ Flag (8 - p)
  pub empty : full_of w c ≡ false
  pub settings : Good (sending_in (chan w c))
  pub history : SoundUnit (chan w c).sender.unit (chan w c).sender.insertion
  pub to_wr0 : (chan w c).pointer ≡ 0

abbrev pub StartsAnew : Type 0
StartsAnew = (w : Which) (c : Chip) (p : ℕ) → Closing w c p → Start w (after c (anew w)) p

-- and such a flag is where a frame ends
abbrev pub FrameEnds : Type 0
FrameEnds =
    (w : Which) (c : Chip) (p v : ℕ) (vs : List ℕ) (st : List Event) → Start w c p
    → InTime w [] c (p - 1) (v ∷ vs) st
    → p + ticks w st ≡ 8 * (length (v ∷ vs) + 2) + 16 + zeros_of (v ∷ vs)
    → full_of w (after c st) ≡ false → (chan w (after c st)).pointer ≡ 0
    → Closing w (after c st) 8

-- "If the buffer is empty at the first tick after a byte and any owed zero": the chip before that
-- tick
pub record RunsDry (w : Which) (c : Chip) : Type 0 where
  pub last : ℕ
  pub byte : (chan w c).sender.unit ≡ Byte 0 last
  pub paid : (chan w c).sender.insertion.owed ≡ false
  pub empty : full_of w c ≡ false
  pub cleared : latch_of w c ≡ false
  pub settings : Good (sending_in (chan w c))

abbrev pub status_latched : Which → Chip → Bool
status_latched w c = is_some (chan w c).status.latched

-- "the underrun latch is set on that tick, shown then unless status was latched", in which case D6
-- reads as before
pub record Underrun (w : Which) (c : Chip) : Type 0 where
  pub was : latch_of w c ≡ false
  pub set : latch_of w (happens c (Transmit (number w))).chip ≡ true
  pub shown : status_latched w c ≡ false → d6 w (happens c (Transmit (number w))).chip ≡ true
  pub held : status_latched w c ≡ true → d6 w (happens c (Transmit (number w))).chip ≡ d6 w c

abbrev pub UnderrunShown : Type 0
UnderrunShown = (w : Which) (c : Chip) → (chan w c).pointer ≡ 0 → RunsDry w c → Underrun w c

-- a host that was in time so far and is so no more: the line runs dry behind the story xs, and it
-- does as it likes from there on. Of every host: `fed_late` in hosts
abbrev pub LateInTime : Type 0
LateInTime = (w : Which) (c : Chip) (p v : ℕ) (vs : List ℕ) (xs ys : List Event) → Start w c p
    → InTime w [] c (p - 1) (v ∷ vs) xs → RunsDry w (after c xs)
    → Free w (happens (after c xs) (Transmit (number w))).chip ys
    → p + ticks w (xs ++ (Transmit (number w) ∷ ys))
    ≡ 8 * (length (v ∷ vs) + 2) + 16 + zeros_of (v ∷ vs)
    → flag_head p ++ line_of w c (xs ++ (Transmit (number w) ∷ ys)) ≡ frame (v ∷ vs)

-- and D6 reads 1 from that tick on, at every moment until the host clears the latch, if status was
-- not latched when the line ran dry
abbrev pub UnderrunSeen : Type 0
UnderrunSeen =
    (w : Which) (c : Chip) (ys : List Event) → RunsDry w c → status_latched w c ≡ false
    → Free w (happens c (Transmit (number w))).chip ys
    → let d = after c (Transmit (number w) ∷ ys) in (chan w d).pointer ≡ 0 → d6 w d ≡ true

-- a host whose status was latched reads D6 as 1 behind its next Reset External/Status
abbrev pub ResetShows : Type 0
ResetShows =
    (w : Which) (c : Chip) → (chan w c).pointer ≡ 0 → latch_of w c ≡ true
    → d6 w (happens c (ControlWrite (number w) reset_status)).chip ≡ true

-- The same for every story of a host that ticks and writes as it likes and whose status is not
-- latched at a tick while the latch is clear: as long as it reads D6 as 0, no bit of a check and
-- none of a closing flag has gone out
abbrev pub Seeing : Which → Chip → Type 0
Seeing w c = latch_of w c ≡ false → status_latched w c ≡ false

abbrev pub Watched : Which → Chip → List Event → Type 0
Watched w c st = TicksWhere (Seeing w) w c st

abbrev pub NotClosed : Which → Chip → Type 0
NotClosed w c = (latch_of w c ≡ false) × (opens (chan w c).sender.unit ≡ true)

abbrev pub NeverUnseen : Type 0
NeverUnseen =
    (w : Which) (c : Chip) (p : ℕ) (st : List Event) → Start w c p → Watched w c st
    → (chan w (after c st)).pointer ≡ 0
    → d6 w (after c st) ≡ false → NotClosed w (after c st)

-- so whatever such a host has done, if the line from that flag on is a whole frame, of any bytes,
-- it reads D6 as 1
abbrev pub FrameSeen : Type 0
FrameSeen =
    (w : Which) (c : Chip) (p : ℕ) (st : List Event) (note : List ℕ) → Start w c p → Watched w c st
    → (chan w (after c st)).pointer ≡ 0
    → flag_head p ++ line_of w c st ≡ frame note → d6 w (after c st) ≡ true
