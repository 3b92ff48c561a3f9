-- Stories of a channel's receiver in which a bit comes where it may, reads come as they like, and
-- all else leaves a side of the receiver as it is; the same as a test that a reader can run on a
-- story. Whatever that side is. Assumes nothing.
use Rattle.std.specs.Prelude.{◌≡◌, refl, Bool, true, List, [], ◌∷◌}
use Rattle.chip.specs.declared.Chip.{Chip}
use Rattle.chip.specs.Event.{Event}
use Rattle.stories.specs.Story.{Which, happens, throughout, throughout_holds}
use Rattle.stories.specs.Received.{ToReceiver, Hears, Reads, Else, to_receiver}

pub data HearsWhere {X : Type 0} (side : Chip → X) (May : Chip → Bool → Type 0)
    (w : Which) : Chip → List Event → Type 0 where
  over : {c : Chip} → HearsWhere side May w c []
  hears : {c : Chip} {e : Event} {st : List Event} {b : Bool} → to_receiver w e ≡ Hears b
      → May c b → HearsWhere side May w (happens c e).chip st → HearsWhere side May w c (e ∷ st)
  reads : {c : Chip} {e : Event} {st : List Event} → to_receiver w e ≡ Reads
      → HearsWhere side May w (happens c e).chip st → HearsWhere side May w c (e ∷ st)
  still : {c : Chip} {e : Event} {st : List Event} → to_receiver w e ≡ Else
      → side (happens c e).chip ≡ side c → HearsWhere side May w (happens c e).chip st
      → HearsWhere side May w c (e ∷ st)

-- As a test

abbrev heard_where : (Chip → Bool → Bool) → (Chip → Event → Bool) → Chip → Event → ToReceiver → Bool
heard_where may quiet c e (Hears b) = may c b
heard_where may quiet c e Reads = true
heard_where may quiet c e Else = quiet c e

abbrev pub hears_where : (Chip → Bool → Bool) → (Chip → Event → Bool) → Which → Chip → List Event
    → Bool
hears_where may quiet w c st =
    throughout (λ d e. heard_where may quiet d e (to_receiver w e)) c st

module _ {X : Type 0} (side : Chip → X) (May : Chip → Bool → Type 0) (may : Chip → Bool → Bool)
    (quiet : Chip → Event → Bool)
    (may-holds : (c : Chip) (b : Bool) → may c b ≡ true → May c b)
    (quiet_keeps : (c : Chip) (e : Event) → quiet c e ≡ true → side (happens c e).chip ≡ side c)
    (w : Which) where
  one_more_lem : (c : Chip) (e : Event) (st : List Event) (r : ToReceiver) → to_receiver w e ≡ r
      → heard_where may quiet c e r ≡ true → HearsWhere side May w (happens c e).chip st
      → HearsWhere side May w c (e ∷ st)
  one_more_lem c e st (Hears b) p a f = hears p (may-holds c b a) f
  one_more_lem c e st Reads p a f = reads p f
  one_more_lem c e st Else p a f = still p (quiet_keeps c e a) f

  pub hears_where_lem : (c : Chip) (st : List Event) → hears_where may quiet w c st ≡ true
      → HearsWhere side May w c st
  hears_where_lem c st t =
      throughout_holds (λ d e. heard_where may quiet d e (to_receiver w e)) (HearsWhere side May w)
      (λ d. over) (λ d e xs. one_more_lem d e xs (to_receiver w e) refl) c st t
