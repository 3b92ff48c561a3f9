-- Hosts that are not in time, computed: a byte that comes between the eighth and the ninth tick,
-- one written over another, one that lets the opening flag pass, and the incident's. Then the
-- theorems, said of them. Assumes nothing.
use Rattle.std.specs.Prelude.{◌≡◌, refl, true, false, List, [], ◌∷◌, ◌++◌}
use Rattle.line.specs.Frame.{frame}
use Rattle.chip.specs.Computing.{computing}
use Rattle.chip.specs.Event.{Event, DataWrite, Transmit}
use Rattle.whole.specs.Start.{flag_head}
use Rattle.stories.specs.Story.{A, happens, after, throughout}
use Rattle.stories.specs.Sent.{line_of}
use Rattle.stories.specs.Sending.{times, tick, begin, dry, late, whole, choosing}
use Rattle.timely.specs.Tests.{timely}
use Rattle.sending.proofs.Example as sending
use Rattle.hosts.specs.Loaded.{loaded, passed, flags, closed}
use Rattle.hosts.specs.Statement.{Shortened}
use Rattle.hosts.specs.Tests.{hosting, host_of}
use Rattle.hosts.proofs.Line.{every_host}
use Rattle.hosts.proofs.Late.{incident_told}

-- 1F owes a zero behind its five ones, so it lasts nine ticks: the next byte comes behind the
-- eighth of them
abbrev pub ninth : List Event
ninth = DataWrite 0 0x1F ∷ (times 6 tick ++ (times 8 tick ++ (DataWrite 0 0 ∷ times 32 tick)))

-- 1 is written over before the flag ends, and 3 comes once the latch is set
abbrev pub over : List Event
over =
    DataWrite 0 1 ∷
    (times 2 tick ++ (DataWrite 0 2 ∷ (times 12 tick ++ (DataWrite 0 3 ∷ times 23 tick))))

-- the opening flag passes, and the next one is the frame's
abbrev pub idle : List Event
idle = times 7 tick ++ (DataWrite 0 2 ∷ times 38 tick)

pub record Examples : Type 0 where
  -- too late by the eight-tick rule, and loaded
  pub ninth_late : timely A begin 2 (0x1F ∷ 0 ∷ []) ninth ≡ false
  pub ninth_hosted : hosting A begin ninth ≡ true
  pub ninth_loaded : loaded A begin ninth ≡ 0x1F ∷ 0 ∷ []
  pub ninth_passed : passed A begin ninth ≡ 0
  pub ninth_closed : closed A (after begin ninth) ≡ true
  pub over_hosted : hosting A begin over ≡ true
  pub over_loaded : loaded A begin over ≡ 2 ∷ []
  pub over_passed : passed A begin over ≡ 0
  pub over_closed : closed A (after begin over) ≡ true
  pub idle_hosted : hosting A begin idle ≡ true
  pub idle_loaded : loaded A begin idle ≡ 2 ∷ []
  pub idle_passed : passed A begin idle ≡ 1
  pub idle_closed : closed A (after begin idle) ≡ true
  pub dry_hosted : hosting A begin dry ≡ true
  pub dry_loaded : loaded A begin dry ≡ 0 ∷ []
  pub late_hosted : hosting A (happens choosing (Transmit 0)).chip late ≡ true
  pub late_closed : closed A (after begin whole) ≡ true

pub examples : Examples
unfolding computing timely throughout loaded passed times after
examples = record {
  ninth_late = refl;
  ninth_hosted = refl;
  ninth_loaded = refl;
  ninth_passed = refl;
  ninth_closed = refl;
  over_hosted = refl;
  over_loaded = refl;
  over_passed = refl;
  over_closed = refl;
  idle_hosted = refl;
  idle_loaded = refl;
  idle_passed = refl;
  idle_closed = refl;
  dry_hosted = refl;
  dry_loaded = refl;
  late_hosted = refl;
  late_closed = refl;
}

-- the theorems speak of these stories

ninth_sent : flag_head 3 ++ line_of A begin ninth ≡ frame (0x1F ∷ 0 ∷ [])
unfolding flags
ninth_sent =
    rw (examples.ninth_loaded, examples.ninth_passed) at
    ((every_host A begin 3 ninth sending.starts
    (host_of A begin ninth examples.ninth_hosted)).whole examples.ninth_closed)

over_sent : flag_head 3 ++ line_of A begin over ≡ frame (2 ∷ [])
unfolding flags
over_sent =
    rw (examples.over_loaded, examples.over_passed) at
    ((every_host A begin 3 over sending.starts (host_of A begin over examples.over_hosted)).whole
    examples.over_closed)

idle_sent : flag_head 3 ++ line_of A begin idle ≡ flags 1 ++ frame (2 ∷ [])
idle_sent =
    rw (examples.idle_loaded, examples.idle_passed) at
    ((every_host A begin 3 idle sending.starts (host_of A begin idle examples.idle_hosted)).whole
    examples.idle_closed)

-- two bytes were meant and one went out
late_short : Shortened A begin 3 (0 ∷ 0 ∷ []) dry late
late_short =
    incident_told A begin 3 (0 ∷ 0 ∷ []) dry late (record {
      start = sending.starts;
      fed = host_of A begin dry examples.dry_hosted;
      missing = 0;
      more = [];
      front = rw examples.dry_loaded refl;
      dry = (sending.examples).runs_dry;
      unlatched = (sending.examples).unlatched;
      late = host_of A (happens choosing (Transmit 0)).chip late examples.late_hosted;
      ends = examples.late_closed;
      looks = (sending.examples).late_wr0;
    })
