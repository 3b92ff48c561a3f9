-- A note's frame as it is laid out, piece by piece, from the start of a buffer. Assumes nothing.
use Rattle.std.specs.Prelude.{List, [], ◌∷◌, ℕ}
use Rattle.line.specs.Frame.{with_check}
use Rattle.mirror.specs.Mirror.{mirrored_byte}
use Rattle.pen.specs.Pen.{Sheet, sheet, pen_at, byte_put, flag_put}

-- bytes put down one after another
unfoldable pub bytes_put : Sheet → List ℕ → Sheet
bytes_put s [] = s
bytes_put s (v ∷ vs) = bytes_put (byte_put s v) vs

-- the mirrored check register after them
unfoldable pub mirrored_over : ℕ → List ℕ → ℕ
mirrored_over m [] = m
mirrored_over m (v ∷ vs) = mirrored_over (mirrored_byte m v) vs

-- the flag that opens the frame, and behind it the note and its check
unfoldable pub content_put : List ℕ → List ℕ → Sheet
content_put buffer note = bytes_put (sheet (flag_put buffer 0) (pen_at 8 0)) (with_check note)

-- and the flag that closes it
unfoldable pub frame_put : List ℕ → List ℕ → List ℕ
frame_put buffer note =
    flag_put (content_put buffer note).buffer (content_put buffer note).pen.at
