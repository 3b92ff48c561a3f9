-- Stories of a receiver, computed: 01's marked example 4, "Frame 2 received: FF, 00, FF; the last
-- ends, good", with other events behind every bit, and the same with a bit flipped. Each is told by
-- the chip and by no wrong one of must-fail. Assumes nothing.
use Rattle.std.specs.Prelude.{◌≡◌, refl, Bool, false, List, [], ◌∷◌, ◌++◌, drop}
use Rattle.line.specs.Bits.{one_if}
use Rattle.line.specs.Insertion.{stuff}
use Rattle.line.specs.Frame.{flag_bits, content_of, frame}
use Rattle.settings.specs.Bytes.{channel_reset, sdlc_mode}
use Rattle.channel.specs.declared.Answer.TheVariants.{Gave}
use Rattle.chip.specs.Computing.{computing}
use Rattle.chip.specs.declared.Chip.{Chip}
use Rattle.chip.specs.Chip.{hard_reset}
use Rattle.chip.specs.Event.{Event, ControlWrite, ControlRead, DataWrite, DataRead, Transmit}
use Rattle.chip.specs.Event.{Receive, SetLines, Acknowledge, Reti}
use Rattle.stories.specs.Story.{Which, A, number, happens, after}
use Rattle.stories.specs.Received.{bits_of, values_of, good_end, bad_end}

-- from a hard reset: WR4 for SDLC, WR3 on
abbrev pub listening : Which → Chip
listening w =
    after hard_reset
    (ControlWrite (number w) 4 ∷ ControlWrite (number w) sdlc_mode ∷ ControlWrite
    (number w) 3 ∷ ControlWrite (number w) 0b1 ∷ [])

-- each bit of a line, with the same events behind it
unfoldable pub story : Which → List Event → List Bool → List Event
story w noise [] = []
story w noise (b ∷ bs) = Receive (number w) (one_if b) ∷ (noise ++ story w noise bs)

-- the other channel's ticks, reads and reset, this sender's, status reads, lines, interrupts, and
-- calls that are refused
abbrev pub noise : List Event
noise =
    Receive 1 1 ∷ DataRead 0 ∷ ControlWrite 0 0b10001 ∷ ControlRead 0 ∷ DataWrite 0 3
    ∷ Transmit 0 ∷ SetLines 0 1 1 ∷ DataRead 1 ∷ ControlWrite 1 channel_reset
    ∷ Acknowledge ∷ Reti ∷ Receive 0 2 ∷ DataRead 2 ∷ []

abbrev pub noisy : List Event
noisy = story A noise (frame (0xFF ∷ []))

abbrev pub unread : List Event
unread = story A [] (frame (0xFF ∷ []))

-- all but the last of three are read, and RR1 is named
abbrev pub name_last : List Event
name_last = DataRead 0 ∷ DataRead 0 ∷ ControlWrite 0 1 ∷ []

abbrev pub named : List Event
named = unread ++ name_last

-- the frame of FF with its first content bit flipped
abbrev pub unflipped : List Bool
unflipped = drop 1 (content_of (0xFF ∷ []))

abbrev pub flipped_line : List Bool
flipped_line = flag_bits ++ (stuff 0 (false ∷ unflipped) ++ flag_bits)

-- two frames with one flag between them
abbrev pub two_frames : List Event
two_frames =
    story A (DataRead 0 ∷ [])
    (flag_bits ++ (stuff 0 (content_of (0xFF ∷ []))
    ++ (flag_bits ++ (stuff 0 (content_of (0x00 ∷ [])) ++ flag_bits))))

pub record Told : Type 0 where
  pub noisy_bits : bits_of A noisy ≡ frame (0xFF ∷ [])
  pub noisy_values : values_of A (listening A) noisy ≡ 0xFF ∷ 0x00 ∷ 0xFF ∷ []
  pub two_values : values_of A (listening A) two_frames ≡ 0xFF ∷ 0x00 ∷ 0xFF ∷ 0x00 ∷ 0x78 ∷ 0xF0 ∷ []
  -- RR1 shows the mark of the last one when the two before it are read
  pub mark : (happens (after (listening A) named) (ControlRead 0)).answer ≡ Gave good_end
  pub flipped_mark : (happens (after (listening A) (story A [] flipped_line ++ name_last))
      (ControlRead 0)).answer ≡ Gave bad_end

pub told : Told
unfolding computing bits_of values_of story after
told = record {
  noisy_bits = refl;
  noisy_values = refl;
  two_values = refl;
  mark = refl;
  flipped_mark = refl;
}
