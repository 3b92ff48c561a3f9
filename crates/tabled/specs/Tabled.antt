-- A note's content as it is put down a byte at a time over a buffer, by tables that are lent,
-- whatever they hold. Assumes nothing.
use Rattle.std.specs.Prelude.{List, [], ◌∷◌, ℕ}
use Rattle.line.specs.Check.{ones}
use Rattle.lookup.specs.Lookup.{with_lookup}
use Rattle.bytewise.specs.Bytewise.{Plate, plate, press_at, byte_stamped}
use Rattle.tabled.specs.declared.Going.{Going}

-- bytes put down one after another
unfoldable pub bytes_stamped : List ℕ → List ℕ → Plate → List ℕ → Plate
bytes_stamped stamps fours s [] = s
bytes_stamped stamps fours s (v ∷ vs) = bytes_stamped stamps fours (byte_stamped stamps fours s v) vs

-- behind the eight cells of a flag the note and its check
unfoldable pub content_stamped : List ℕ → List ℕ → List ℕ → List ℕ → List ℕ → Plate
content_stamped checks stamps fours buffer note =
    bytes_stamped stamps fours (plate buffer (press_at 8 0)) (with_lookup checks ones note)

-- what a content that has come so far ends as: the bytes that are left, and the check
abbrev pub ahead : List ℕ → List ℕ → List ℕ → List ℕ → List ℕ → Going → Plate
ahead checks stamps fours rest buffer g =
    bytes_stamped stamps fours (plate buffer g.press) (with_lookup checks g.check rest)
