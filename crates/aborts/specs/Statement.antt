-- Demand 3's abort, in its own words, over the events of the chip and for either channel w: "An
-- abort during that flag or later, before the closing flag's last bit, left to run and with no
-- break, means that a receiver that was listening never reports an end for the frame which that
-- flag opened; bytes written after the abort belong to another frame." Of every host: in time or
-- not. Proofs: Cut, Heard, Told, Abort, Next. Assumes nothing.
use Rattle.std.specs.Prelude.{◌≡◌, Bool, true, false, List, [], ◌∷◌, ◌++◌, ℕ, ◌+◌, ◌≤◌, take, drop, replicate}
use Rattle.line.specs.Frame.{flag_bits, frame}
use Rattle.entry.specs.declared.Entry.{Entry}
use Rattle.queue.specs.declared.Queue.{Queue}
use Rattle.sdlc.specs.declared.Addressing.{Addressing}
use Rattle.sdlc.specs.declared.Listener.{Listener}
use Rattle.settings.specs.Settings.{command_in}
use Rattle.chip.specs.declared.Chip.{Chip}
use Rattle.chip.specs.Event.{Event, ControlWrite, Transmit}
use Rattle.whole.specs.Start.{flag_head}
use Rattle.whole.specs.Heard.{hear_all, flag_free, end_marks}
use Rattle.stories.specs.Story.{Which, number, chan, happens, after}
use Rattle.stories.specs.Sent.{is_tick, line_of, ticks}
use Rattle.stories.specs.Received.{bits_of, took_of}
use Rattle.history.specs.Sending.Side.{side_of}
use Rattle.history.specs.Receiving.Side as receiving
use Rattle.history.specs.Receiving.Events.{Hearing}
use Rattle.history.specs.Receiving.Stories.{HearsWhere}
use Rattle.timely.specs.Start.{Start}
use Rattle.history.specs.Sending.Stories.{anew}
use Rattle.hosts.specs.Loaded.{loaded, passed, flags, closed, Host}

-- "An abort during that flag or later": Send Abort is a write to WR0 with command 1
pub record SendsAbort (w : Which) (c : Chip) (v : ℕ) : Type 0 where
  pub to_wr0 : (chan w c).pointer ≡ 0
  pub command : command_in v ≡ 1

-- "before the closing flag's last bit": behind the story xs of any host from demand 3's start, the
-- host writes v
pub record Cuts (w : Which) (c : Chip) (p : ℕ) (xs : List Event) (v : ℕ) : Type 0 where
  pub start : Start w c p
  pub host : Host w c xs
  pub before : closed w (after c xs) ≡ false
  pub write : SendsAbort w (after c xs) v

-- "left to run and with no break": ticks, and whatever leaves the unit under way, an owed zero and
-- what the sender heeds as they are. The host may write, preset the check and clear the latch
abbrev pub UnitKept : Which → Chip → Chip → Type 0
UnitKept w c d =
    ((chan w d).sender.unit ≡ (chan w c).sender.unit)
    × ((chan w d).sender.insertion.owed ≡ (chan w c).sender.insertion.owed)
    × ((side_of w d).heeds ≡ (side_of w c).heeds)

pub data LeftToRun (w : Which) : Chip → List Event → Type 0 where
  ended : {c : Chip} → LeftToRun w c []
  kept : {c : Chip} {e : Event} {st : List Event} → is_tick w e ≡ false
      → UnitKept w c (happens c e).chip
      → LeftToRun w (happens c e).chip st → LeftToRun w c (e ∷ st)
  ticking : {c : Chip} {st : List Event} → LeftToRun w (happens c (Transmit (number w))).chip st
      → LeftToRun w c (Transmit (number w) ∷ st)

-- The line

-- so much of an abort and of the flag behind it
abbrev pub abort_line : List Bool
abort_line = replicate 8 true ++ flag_bits

-- what is sent from the opening flag's first bit on
abbrev pub sent : Which → Chip → ℕ → List Event → List Bool
sent w c p xs = flag_head p ++ line_of w c xs

-- behind the story xs the host writes v to WR0
pub record Aborted (w : Which) (c : Chip) (p : ℕ) (xs : List Event) (v : ℕ) : Type 0 where
  -- eight ones and a new flag follow what was sent: "bytes written after the abort belong to
  -- another frame"
  pub line : (ys : List Event)
      → LeftToRun w (happens (after c xs) (ControlWrite (number w) v)).chip ys
      → ticks w ys ≤ 16
      → line_of w c (xs ++ (ControlWrite (number w) v ∷ ys))
      ≡ line_of w c xs ++ take (ticks w ys) abort_line
  -- whatever the receiver's state, behind that flag, or what was sent of it, no end mark is handed
  -- over up to and including the next flag, zs being the bits between and b the last of that flag
  pub no_end_lem : (g : Addressing) (r : Listener) (zs : List Bool) (b : Bool) → flag_free 7 zs ≡ true
      → end_marks (hear_all g (hear_all g r (take 8 (sent w c p xs))).listener
      (drop 8 (sent w c p xs) ++ (replicate 8 true ++ (zs ++ (b ∷ []))))).got ≡ 0

abbrev pub AbortCuts : Type 0
AbortCuts =
    (w : Which) (c : Chip) (p : ℕ) (xs : List Event) (v : ℕ) → Cuts w c p xs v → Aborted w c p xs v

-- What another chip tells

-- the entries that wait
abbrev pub waiting_in : Queue → List Entry
waiting_in q = take q.count q.entries

abbrev pub waiting_of : Which → Chip → List Entry
waiting_of u r = waiting_in (chan u r).queue

-- "a receiver that was listening": in SDLC and on, it hears, is read or not as it comes, and all
-- else leaves its side as it is. Its queue may overflow
abbrev pub Attends : Which → Chip → List Event → Type 0
Attends u r st = HearsWhere (receiving.side_of u) (λ d b. Unit) u r st

pub record Listens (u : Which) (r : Chip) (rs : List Event) : Type 0 where
  pub hearing : Hearing (receiving.side_of u r).settings
  pub attends : Attends u r rs

-- the ends that are told in a story: among the entries that are read, and among those that wait
-- behind it
abbrev pub ends_told : Which → Chip → List Event → ℕ
ends_told u r rs = end_marks (took_of u r rs) + end_marks (waiting_of u (after r rs))

-- "never reports an end for the frame which that flag opened": from the host's write of Send Abort
-- to what channel u of another chip tells. That chip hears, in qs, the opening flag or what was
-- sent of it, and in rs what follows on the line, up to the end of the next flag: no end is told
-- but those that waited before
abbrev pub AbortUntold : Type 0
AbortUntold = (w : Which) (c : Chip) (p : ℕ) (xs ys : List Event) (v : ℕ) → Cuts w c p xs v
    → let write = ControlWrite (number w) v in
    LeftToRun w (happens (after c xs) write).chip ys → ticks w ys ≤ 16
    → (u : Which) (r : Chip) (qs rs : List Event) → Listens u r (qs ++ rs)
    → bits_of u qs ≡ take 8 (sent w c p xs)
    → bits_of u rs ≡ drop 8 (sent w c p xs) ++ line_of w (after c xs) (write ∷ ys)
    → ends_told u (after r qs) rs ≤ end_marks (waiting_of u (after r qs))

-- and whatever follows the eight ones, zs being the bits up to the last one, b, of the next flag
abbrev pub AbortDeaf : Type 0
AbortDeaf = (w : Which) (c : Chip) (p : ℕ) (xs : List Event) (v : ℕ) → Cuts w c p xs v
    → (u : Which) (r : Chip) (qs rs : List Event) (zs : List Bool) (b : Bool)
    → Listens u r (qs ++ rs)
    → bits_of u qs ≡ take 8 (sent w c p xs)
    → bits_of u rs ≡ drop 8 (sent w c p xs) ++ (replicate 8 true ++ (zs ++ (b ∷ [])))
    → flag_free 7 zs ≡ true
    → ends_told u (after r qs) rs ≤ end_marks (waiting_of u (after r qs))

-- "bytes written after the abort belong to another frame": behind a preset and a clear, whatever
-- the host then ticks and writes and whenever, the bytes loaded are the frame that follows
pub record Followed (w : Which) (c : Chip) (k : ℕ) (ys : List Event) : Type 0 where
  pub begun : line_of w c ys
      ≡ take (ticks w ys) (replicate k true ++ (flags (passed w c ys) ++ frame (loaded w c ys)))
  pub whole : closed w (after c ys) ≡ true
      → line_of w c ys ≡ replicate k true ++ (flags (passed w c ys) ++ frame (loaded w c ys))

abbrev pub AbortFollowed : Type 0
AbortFollowed = (w : Which) (c : Chip) (p : ℕ) (xs ys : List Event) (v : ℕ) → Cuts w c p xs v
    → let d = (happens (after c xs) (ControlWrite (number w) v)).chip in
    (chan w d).pointer ≡ 0 → Host w (after d (anew w)) ys → Followed w (after d (anew w)) 8 ys
