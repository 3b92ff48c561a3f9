-- What the writer by tables answers in each case. Assumes nothing.
use Rattle.std.proofs.Common.{◌≡◌, refl, ℕ, ◌-◌, Bool, true, false, List, Result, Ok, Err, ltb, length, drop, sym, ◌∙◌}
use Rattle.common.specs.declared.Refusal.{Refusal}
use Rattle.common.specs.declared.Refusal.TheVariants.{NoteLength, NoRoom}
use Rattle.common.specs.Tools.{bool_or}
use Rattle.line.specs.Frame.{ticks_of}
use Rattle.line.specs.Line.{note_fits}
use Rattle.zeros.specs.Zeros.{room_of}
use Rattle.lent.specs.Lent.{zeros_stamped, write_by}

module _ (checks stamps fours note out : List ℕ) (at : ℕ) where
  pub unfit_refused : note_fits (length note) ≡ false → write_by checks stamps fours note out at ≡ Err NoteLength
  unfolding write_by
  unfit_refused f = rw f

  module _ {a : Bool} (e : a ≡ note_fits (length note)) (f : a ≡ true) where
    pub short_refused : ltb (length out - at) (ticks_of note) ≡ true → write_by checks stamps fours note out at ≡ Err NoRoom
    unfolding write_by
    short_refused t = rw (sym e ∙ f, t)

    pub room_laid : ltb (length out - at) (ticks_of note) ≡ false
        → write_by checks stamps fours note out at ≡ Ok (zeros_stamped checks stamps fours (drop at out) note)
    unfolding write_by
    room_laid t = rw (sym e ∙ f, t)

  -- what refuses a line in that room refuses the writing
  pub refused_by_room : (k : Refusal) → Err k ≡ room_of note (length out - at)
      → write_by checks stamps fours note out at ≡ Err k
  unfolding room_of
  refused_by_room k e =
      bool_or (note_fits (length note))
      (λ f. bool_or (ltb (length out - at) (ticks_of note))
      (λ r. let p = rw (f, r) at e in rw (short_refused refl f r) cc)
      (λ r. let p = rw (f, r) at e in cc))
      (λ f. let p = rw f at e in rw (unfit_refused f) cc)
