-- Aborts, computed: amid a byte, inside the opening flag, and by a host whose receiver is not read,
-- so that its queue overflows; and the frame that follows. Then the theorems, said of them. Assumes
-- nothing.
use Rattle.std.specs.Prelude.{◌≡◌, refl, Bool, true, false, List, [], ◌∷◌, ◌++◌, ℕ, ◌≤◌, take, drop, replicate}
use Rattle.std.proofs.Common.{arith}
use Rattle.line.specs.Frame.{frame}
use Rattle.receiver.specs.Receiver.{listener_of, reset}
use Rattle.chip.specs.Computing.{computing}
use Rattle.chip.specs.declared.Chip.{Chip}
use Rattle.chip.specs.Event.{Event, ControlWrite, DataWrite}
use Rattle.whole.specs.Heard.{hear_all, end_marks}
use Rattle.stories.specs.Story.{A, B, chan, happens, after, throughout}
use Rattle.stories.specs.Sent.{line_of, ticks}
use Rattle.stories.specs.Received.{bits_of}
use Rattle.settings.specs.Bytes.{send_abort}
use Rattle.stories.specs.Sending.{times, tick, begin, begun, gone}
use Rattle.stories.specs.Receiving.{listening, story}
use Rattle.history.specs.Receiving.Side as receiving
use Rattle.history.specs.Receiving.Events.{Hearing}
use Rattle.timely.specs.Tests.{freely, free_of}
use Rattle.sending.proofs.Example as sending
use Rattle.history.specs.Sending.Stories.{anew}
use Rattle.hosts.specs.Loaded.{loaded, passed, flags, closed}
use Rattle.hosts.specs.Tests.{hosting, host_of}
use Rattle.aborts.specs.Statement.{Cuts, sent, abort_line, waiting_of, Aborted, ends_told}
use Rattle.aborts.proofs.Abort.{abort3, abort_unheard}
use Rattle.aborts.proofs.Next.{after_abort}
use Rattle.aborts.specs.Tests.{free_runs, attending, attends_of}

-- a receiver behind a reset, in SDLC and on, that hears a line: the end marks
abbrev pub ends_in : List Bool → ℕ
ends_in line =
    end_marks (hear_all (receiving.side_of A begin).settings.addressing (listener_of reset) line).got

-- eight bytes are begun, each written when the one before it is loaded
abbrev pub long : List Event
long = times 8 (DataWrite 0 7 ∷ times 8 tick)

-- five bits of the opening flag are sent
abbrev pub early : List Event
early = times 2 tick

-- B hears a line and is not read
abbrev pub unread : List Bool → List Event
unread line = story B [] line

-- the opening flag, or what was sent of it; then the rest, the eight ones and the next flag
abbrev pub first_of : List Event → List Event
first_of xs = unread (take 8 (sent A begin 3 xs))

abbrev pub rest_of : List Event → List Event
rest_of xs =
    unread (drop 8 (sent A begin 3 xs)
    ++ line_of A (after begin xs) (ControlWrite 0 send_abort ∷ gone))

abbrev pub cut_chip : List Event → Chip
cut_chip xs = (happens (after begin xs) (ControlWrite 0 send_abort)).chip

-- a byte is written behind the abort, a preset and a clear
abbrev pub next : List Event
next = DataWrite 0 7 ∷ times 48 tick

pub record Cut (xs : List Event) : Type 0 where
  pub hosted : hosting A begin xs ≡ true
  pub before : closed A (after begin xs) ≡ false
  pub to_wr0 : (chan A (after begin xs)).pointer ≡ 0
  pub runs : freely A (cut_chip xs) gone ≡ true
  pub attends : attending B (listening B) (first_of xs ++ rest_of xs) ≡ true
  pub first_bits : bits_of B (first_of xs) ≡ take 8 (sent A begin 3 xs)
  pub rest_bits : bits_of B (rest_of xs)
      ≡ drop 8 (sent A begin 3 xs) ++ line_of A (after begin xs) (ControlWrite 0 send_abort ∷ gone)
  pub none_waits_lem : end_marks (waiting_of B (after (listening B) (first_of xs))) ≡ 0

pub record Examples : Type 0 where
  pub amid : Cut begun
  pub in_flag : Cut early
  pub overflows : Cut long
  pub overran : (chan B (after (listening B) (first_of long ++ rest_of long))).queue.count ≡ 3
  pub no_end_lem : ends_in (sent A begin 3 begun ++ abort_line) ≡ 0
  pub an_end : ends_in (frame (1 ∷ 2 ∷ [])) ≡ 1
  pub settings : Hearing (receiving.side_of B (listening B)).settings
  pub pointer : (chan A (cut_chip begun)).pointer ≡ 0
  pub next_hosted : hosting A (after (cut_chip begun) (anew A)) next ≡ true
  pub next_loaded : loaded A (after (cut_chip begun) (anew A)) next ≡ 7 ∷ []
  pub next_passed : passed A (after (cut_chip begun) (anew A)) next ≡ 0
  pub next_closed : closed A (after (after (cut_chip begun) (anew A)) next) ≡ true

pub examples : Examples
unfolding computing throughout hear_all bits_of story times line_of after loaded passed
examples = record {
  amid = record {
    hosted = refl;
    before = refl;
    to_wr0 = refl;
    runs = refl;
    attends = refl;
    first_bits = refl;
    rest_bits = refl;
    none_waits_lem = refl;
  };
  in_flag = record {
    hosted = refl;
    before = refl;
    to_wr0 = refl;
    runs = refl;
    attends = refl;
    first_bits = refl;
    rest_bits = refl;
    none_waits_lem = refl;
  };
  overflows = record {
    hosted = refl;
    before = refl;
    to_wr0 = refl;
    runs = refl;
    attends = refl;
    first_bits = refl;
    rest_bits = refl;
    none_waits_lem = refl;
  };
  overran = refl;
  no_end_lem = refl;
  an_end = refl;
  settings = record { mode = refl; on = refl };
  pointer = refl;
  next_hosted = refl;
  next_loaded = refl;
  next_passed = refl;
  next_closed = refl;
}

-- the theorems speak of these stories

cuts : (xs : List Event) → Cut xs → Cuts A begin 3 xs send_abort
cuts xs k = record {
  start = sending.starts;
  host = host_of A begin xs k.hosted;
  before = k.before;
  write = record { to_wr0 = k.to_wr0; command = refl };
}

aborted_sent : Aborted A begin 3 begun send_abort
aborted_sent = abort3 A begin 3 begun send_abort (cuts begun examples.amid)

unheard : (xs : List Event) → Cut xs → ends_told B (after (listening B) (first_of xs)) (rest_of xs) ≤ 0
unfolding ticks times
unheard xs k =
    omega (
      arith,
      k.none_waits_lem,
      abort_unheard A begin 3 xs gone send_abort (cuts xs k)
          (free_runs A (free_of A (cut_chip xs) gone k.runs)) (omega arith) B
          (listening B) (first_of xs) (rest_of xs)
          (record {
            hearing = examples.settings;
            attends = attends_of B (listening B)
                (first_of xs ++ rest_of xs) k.attends;
          })
          k.first_bits k.rest_bits,
    )

amid_unheard : ends_told B (after (listening B) (first_of begun)) (rest_of begun) ≤ 0
amid_unheard = unheard begun examples.amid

early_unheard : ends_told B (after (listening B) (first_of early)) (rest_of early) ≤ 0
early_unheard = unheard early examples.in_flag

long_unheard : ends_told B (after (listening B) (first_of long)) (rest_of long) ≤ 0
long_unheard = unheard long examples.overflows

next_sent : line_of A (after (cut_chip begun) (anew A)) next ≡ replicate 8 true ++ frame (7 ∷ [])
unfolding flags
next_sent =
    rw (examples.next_loaded, examples.next_passed) at
    ((after_abort A begin 3 begun next send_abort (cuts begun examples.amid) examples.pointer
    (host_of A (after (cut_chip begun) (anew A)) next examples.next_hosted)).whole
    examples.next_closed)
