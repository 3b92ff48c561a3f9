-- Stories: lists of events that happen to a chip, one after another. Assumes nothing.
use Rattle.std.specs.Prelude.{◌≡◌, refl, Bool, true, ◌&&◌, List, [], ◌∷◌, ◌++◌, ℕ}
use Rattle.common.specs.Tools.{both_left, both_right}
use Rattle.channel.specs.declared.Channel.{Channel}
use Rattle.chip.specs.declared.Chip.{Chip}
use Rattle.chip.specs.Event.{Event}
pub use Rattle.stories.specs.Happens.{happens}

-- 01, The part we model: "two channels, A (0) and B (1)"
pub data Which : Type 0 where
  A : Which
  B : Which

abbrev pub number : Which → ℕ
number A = 0
number B = 1

abbrev pub chan : Which → Chip → Channel
chan A c = c.a
chan B c = c.b

-- the chip behind a story
unfoldable pub after : Chip → List Event → Chip
after c [] = c
after c (e ∷ st) = after (happens c e).chip st

pub after_join : (c : Chip) (xs ys : List Event) → after c (xs ++ ys) ≡ after (after c xs) ys
unfolding after
after_join c [] ys = refl
after_join c (x ∷ xs) ys = after_join (happens c x).chip xs ys

-- a test of each event of a story, with the chip that it finds
unfoldable pub throughout : (Chip → Event → Bool) → Chip → List Event → Bool
throughout t c [] = true
throughout t c (e ∷ st) = t c e && throughout t (happens c e).chip st

-- what holds of no events, and of one more if its test comes out true, holds of the story
pub throughout_holds : (t : Chip → Event → Bool) (P : Chip → List Event → Type 0)
    → ((c : Chip) → P c [])
    → ((c : Chip) (e : Event) (st : List Event) → t c e ≡ true → P (happens c e).chip st
    → P c (e ∷ st))
    → (c : Chip) (st : List Event) → throughout t c st ≡ true → P c st
unfolding throughout
throughout_holds t P none more c [] h = none c
throughout_holds t P none more c (e ∷ st) h =
    let d = (happens c e).chip in
    more c e st (both_left (t c e) (throughout t d st) h)
    (throughout_holds t P none more d st (both_right (t c e) (throughout t d st) h))
