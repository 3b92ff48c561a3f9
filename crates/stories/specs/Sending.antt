-- Stories of a sender, computed: a frame amid all sorts of other events, one fed late, one that
-- follows without a preset, one cut by an abort. Each is told by the chip and by no wrong one of
-- must-fail. Assumes nothing.
use Rattle.std.specs.Prelude.{◌≡◌, refl, true, false, List, [], ◌∷◌, ◌++◌, ℕ, zero, suc, ◌+◌, ◌*◌, replicate}
use Rattle.line.specs.Check.{check_bits}
use Rattle.line.specs.Insertion.{stuff}
use Rattle.line.specs.Frame.{flag_bits, note_bits, check_of, frame}
use Rattle.settings.specs.Bytes.{send_abort, reset_status, channel_reset, preset_sent, clear_underrun}
use Rattle.settings.specs.Bytes.{sdlc_mode}
use Rattle.chip.specs.Computing.{computing}
use Rattle.chip.specs.declared.Chip.{Chip}
use Rattle.chip.specs.Chip.{hard_reset}
use Rattle.chip.specs.Event.{Event, ControlWrite, ControlRead, DataWrite, DataRead, Transmit}
use Rattle.chip.specs.Event.{Receive, SetLines, Acknowledge, Reti}
use Rattle.whole.specs.Start.{flag_head}
use Rattle.stories.specs.Story.{A, happens, after}
use Rattle.stories.specs.Sent.{line_of, ticks, d6}

unfoldable pub times : ℕ → List Event → List Event
times zero es = []
times (suc n) es = es ++ times n es

abbrev pub tick : List Event
tick = Transmit 0 ∷ []

-- from a hard reset: WR4 for SDLC, WR5 with the sender on and the check included, the check preset,
-- the latch cleared, the receiver on, status shown afresh twice, since the cleared latch and the
-- hunt had latched it; then three bits of a flag
abbrev pub set_up : List Event
set_up =
    ControlWrite 0 4 ∷ ControlWrite 0 sdlc_mode ∷ ControlWrite 0 5 ∷ ControlWrite 0 0b1001
    ∷ ControlWrite 0 preset_sent ∷ ControlWrite 0 clear_underrun
    ∷ ControlWrite 0 3 ∷ ControlWrite 0 0b1 ∷ ControlWrite 0 reset_status ∷ times 3 tick

abbrev pub begin : Chip
begin = after hard_reset set_up

-- A's frame FF 88 goes out, while B is written, ticked and reset, A listens, is read and
-- acknowledged, lines change, WR1, WR3, WR4 and WR5 are written as far as they leave the sender
-- alone, and calls are refused
abbrev pub noisy : List Event
noisy =
    Transmit 0 ∷ DataWrite 1 7 ∷ DataWrite 0 255 ∷ Receive 0 1 ∷ Transmit 0 ∷ Transmit 0
    ∷ Transmit 0 ∷ Transmit 1 ∷ Transmit 7 ∷ Transmit 0
    ∷ SetLines 0 1 1 ∷ ControlWrite 0 reset_status ∷ Acknowledge
    ∷ ControlWrite 0 3 ∷ ControlWrite 0 0b11000001 ∷ ControlWrite 0 4 ∷ ControlWrite 0 0xFF
    ∷ ControlWrite 0 0b100011 ∷ ControlWrite 0 5 ∷ ControlWrite 0 0b1101001
    ∷ ControlWrite 0 1 ∷ ControlRead 0 ∷ ControlWrite 1 channel_reset
    ∷ Transmit 0 ∷ DataWrite 0 136 ∷ Reti ∷ times 41
    (Transmit 0 ∷ Transmit 1 ∷ Receive 0 1 ∷ DataRead 0 ∷ [])

-- one byte, up to where the line runs dry, and what is left of its frame, a byte that comes too
-- late within it
abbrev pub dry : List Event
dry = DataWrite 0 0 ∷ times 13 tick

abbrev pub late : List Event
late = DataWrite 0 0 ∷ times 23 tick

abbrev pub whole : List Event
whole = dry ++ (Transmit 0 ∷ late)

abbrev pub choosing : Chip
choosing = after begin dry

-- DCD has latched status before the tick that finds the line dry
abbrev pub held : Chip
held = after choosing (SetLines 0 1 0 ∷ Transmit 0 ∷ [])

-- another frame behind the closing flag, the latch cleared and the check not preset
abbrev pub unpreset : List Event
unpreset = ControlWrite 0 clear_underrun ∷ times 32 tick

-- Send Abort amid the second byte, and a byte of the next frame
abbrev pub begun : List Event
begun = DataWrite 0 1 ∷ (times 9 tick ++ (DataWrite 0 2 ∷ times 8 tick))

abbrev pub gone : List Event
gone = DataWrite 0 3 ∷ times 16 tick

-- F8 has gone out to its last bit, its five ones owe a zero, and the sender is switched off
abbrev pub owing : Chip
owing =
    after begin (DataWrite 0 0xF8 ∷
    (times 13 tick ++ (ControlWrite 0 5 ∷ ControlWrite 0 0b0001 ∷ [])))

pub record Told : Type 0 where
  pub noisy_line : flag_head 3 ++ line_of A begin noisy ≡ frame (255 ∷ 136 ∷ [])
  pub noisy_ticks : 3 + ticks A noisy ≡ 8 * (2 + 2) + 16 + 2
  -- the line runs dry: D6 reads 0 before the tick that finds it so and 1 behind it, and the frame
  -- is that of the one byte
  pub before_choice : d6 A choosing ≡ false
  pub at_choice : d6 A (happens choosing (Transmit 0)).chip ≡ true
  pub late_line : flag_head 3 ++ line_of A begin whole ≡ frame (0 ∷ [])
  pub late_d6 : d6 A (after begin whole) ≡ true
  -- status latched before: D6 reads as before, and behind Reset External/Status as it is
  pub held_back : d6 A held ≡ false
  pub shown_afresh : d6 A (happens held (ControlWrite 0 reset_status)).chip ≡ true
  -- no flag presets the check: that of the next frame, of the byte that came too late, runs on from
  -- this one's
  pub check_runs_on : line_of A (after begin whole) unpreset
      ≡ stuff 0 (note_bits (0 ∷ []) ++ check_bits (check_of (0 ∷ 0 ∷ []))) ++ flag_bits
  -- off: the zero that is owed goes out before the mark
  pub owed_first : line_of A owing (times 3 tick) ≡ false ∷ true ∷ true ∷ []
  -- an abort: eight ones and a flag
  pub aborted_line_lem : line_of A begin (begun ++ (ControlWrite 0 send_abort ∷ gone))
      ≡ line_of A begin begun ++ (replicate 8 true ++ flag_bits)

pub told : Told
unfolding computing times line_of ticks after
told = record {
  noisy_line = refl;
  noisy_ticks = refl;
  before_choice = refl;
  at_choice = refl;
  late_line = refl;
  late_d6 = refl;
  held_back = refl;
  shown_afresh = refl;
  check_runs_on = refl;
  owed_first = refl;
  aborted_line_lem = refl;
}
