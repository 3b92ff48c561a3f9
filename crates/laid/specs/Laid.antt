-- A note's frame as it is laid out a byte at a time, from the start of a buffer, by tables that are
-- lent, whatever they hold. Assumes nothing.
use Rattle.std.specs.Prelude.{List, ℕ}
use Rattle.pen.specs.Pen.{flag_put}
use Rattle.bytewise.specs.Bytewise.{Plate}
use Rattle.tabled.specs.Tabled.{content_stamped}

module _ (checks stamps fours : List ℕ) where
  -- the flag that opens the frame, and the content behind it
  abbrev pub opened_by : List ℕ → List ℕ → Plate
  opened_by buffer note = content_stamped checks stamps fours (flag_put buffer 0) note

  -- the place of the flag that closes it, and that flag
  unfoldable pub end_stamped : List ℕ → List ℕ → ℕ
  end_stamped buffer note = (opened_by buffer note).press.at

  unfoldable pub frame_stamped : List ℕ → List ℕ → List ℕ
  frame_stamped buffer note = flag_put (opened_by buffer note).buffer (opened_by buffer note).press.at
