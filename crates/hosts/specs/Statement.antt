-- Demand 3 of every host, not only of the punctual one: whatever it ticks and writes and whenever,
-- the line is the frame of the bytes loaded. Proofs: Line, Late. Assumes nothing.
use Rattle.std.specs.Prelude.{◌≡◌, ◌≢◌, true, false, List, [], ◌∷◌, ◌++◌, ℕ, ◌+◌, ◌*◌, ◌≤◌, ◌<◌, length, take}
use Rattle.line.specs.Bits.{Below}
use Rattle.line.specs.Frame.{frame}
use Rattle.sdlc.specs.Sending.{aborting}
use Rattle.chip.specs.declared.Chip.{Chip}
use Rattle.chip.specs.Event.{Event, Transmit}
use Rattle.whole.specs.Start.{flag_head}
use Rattle.stories.specs.Story.{Which, number, chan, happens, after}
use Rattle.stories.specs.Sent.{line_of, ticks, d6}
use Rattle.history.specs.Sending.Side.{good, side_of}
use Rattle.timely.specs.Start.{Start}
use Rattle.timely.specs.Free.{Free}
use Rattle.sending.specs.Statement.{RunsDry, status_latched}
use Rattle.hosts.specs.Loaded.{loaded, passed, flags, closed, Host}

-- From demand 3's start on, at every moment so much of the frame of the bytes loaded is sent,
-- behind the flags that passed before the first of them; once the closing flag is out it is that
-- frame, and it holds a byte
pub record Carried (w : Which) (c : Chip) (p : ℕ) (st : List Event) : Type 0 where
  pub begun : flag_head p ++ line_of w c st
      ≡ take (p + ticks w st) (flags (passed w c st) ++ frame (loaded w c st))
  pub whole : closed w (after c st) ≡ true
      → flag_head p ++ line_of w c st ≡ flags (passed w c st) ++ frame (loaded w c st)
  pub some : closed w (after c st) ≡ true → 1 ≤ length (loaded w c st)
  -- before that it is not all of it, and the last flag that opens it is begun; no abort is under
  -- way, and the sender is as it was set
  pub unfinished : closed w (after c st) ≡ false
      → p + ticks w st < length (flags (passed w c st) ++ frame (loaded w c st))
  pub begins : 8 * passed w c st < p + ticks w st
  pub heeds : (side_of w (after c st)).heeds ≡ good
  pub uncut : aborting (side_of w (after c st)).sender.unit ≡ false

abbrev pub EveryHost : Type 0
EveryHost =
    (w : Which) (c : Chip) (p : ℕ) (st : List Event) → Start w c p → Host w c st → Carried w c p st

-- every story of a free host is such a story, or begins with one that ends with the closing flag
pub record Front (w : Which) (c : Chip) (st : List Event) : Type 0 where
  pub front : List Event
  pub behind : List Event
  pub joined : st ≡ front ++ behind
  pub host : Host w c front
  pub ended : closed w (after c front) ≡ false → behind ≡ []

abbrev pub HostFront : Type 0
HostFront = (w : Which) (c : Chip) (st : List Event) → Free w c st → Front w c st

-- "If the buffer is empty at the first tick after a byte and any owed zero, the frame holds just
-- the bytes loaded so far": the line runs dry behind the story xs of any host, and the host does as
-- it likes until the frame is closed
abbrev pub FedLate : Type 0
FedLate =
    (w : Which) (c : Chip) (p : ℕ) (xs ys : List Event) → Start w c p → Host w c xs
    → RunsDry w (after c xs)
    → Host w (happens (after c xs) (Transmit (number w))).chip ys
    → closed w (after c (xs ++ (Transmit (number w) ∷ ys))) ≡ true
    → flag_head p ++ line_of w c (xs ++ (Transmit (number w) ∷ ys))
    ≡ flags (passed w c xs) ++ frame (loaded w c xs)

-- "One morning the planner fed the software chip late. The line ran dry .., the frame closed with a
-- good check, and the underrun bit on which the planner aborts never came up": of the bytes meant a
-- true front part was loaded when the line ran dry, with status not latched, and the host looks at
-- D6 behind the closing flag
pub record Starved (w : Which) (c : Chip) (p : ℕ) (meant : List ℕ)
    (xs ys : List Event) : Type 0 where
  pub start : Start w c p
  pub fed : Host w c xs
  pub missing : ℕ
  pub more : List ℕ
  pub front : meant ≡ loaded w c xs ++ (missing ∷ more)
  pub dry : RunsDry w (after c xs)
  pub unlatched : status_latched w (after c xs) ≡ false
  pub late : Host w (happens (after c xs) (Transmit (number w))).chip ys
  pub ends : closed w (after c (xs ++ (Transmit (number w) ∷ ys))) ≡ true
  pub looks : (chan w (after c (xs ++ (Transmit (number w) ∷ ys)))).pointer ≡ 0

-- then the frame of that front part went out, which is not the frame of what was meant, and D6
-- tells so
pub record Shortened (w : Which) (c : Chip) (p : ℕ) (meant : List ℕ)
    (xs ys : List Event) : Type 0 where
  pub line : flag_head p ++ line_of w c (xs ++ (Transmit (number w) ∷ ys))
      ≡ flags (passed w c xs) ++ frame (loaded w c xs)
  pub other : Below 256 meant → frame (loaded w c xs) ≢ frame meant
  pub seen : d6 w (after c (xs ++ (Transmit (number w) ∷ ys))) ≡ true

abbrev pub IncidentTold : Type 0
IncidentTold =
    (w : Which) (c : Chip) (p : ℕ) (meant : List ℕ) (xs ys : List Event) → Starved w c p meant xs ys
    → Shortened w c p meant xs ys

-- the incident is that story with D6 read as 0. There is none
pub record Incident (w : Which) (c : Chip) (p : ℕ) (meant : List ℕ)
    (xs ys : List Event) : Type 0 where
  pub starved : Starved w c p meant xs ys
  pub unseen : d6 w (after c (xs ++ (Transmit (number w) ∷ ys))) ≡ false

abbrev pub NoIncident : Type 0
NoIncident =
    (w : Which) (c : Chip) (p : ℕ) (meant : List ℕ) (xs ys : List Event)
    → Incident w c p meant xs ys → ⊥
