-- What the writer answers in each case, and the buffer that comes back. Assumes nothing.
use Rattle.std.proofs.Common.{◌≡◌, refl, ℕ, ◌+◌, ◌-◌, Bool, true, false, List, ◌++◌, Result, Ok, Err, ltb, length, take, drop, append-nil, length-drop, drop-drop, sym, ◌∙◌}
use lib.Seq.{take-length, drop-length}
use Rattle.common.specs.declared.Refusal.{Refusal}
use Rattle.common.specs.declared.Refusal.TheVariants.{NoteLength, NoRoom}
use Rattle.common.specs.Tools.{bool_or}
use Rattle.line.specs.Frame.{zeros_of, ticks_of}
use Rattle.line.specs.Line.{note_fits}
use Rattle.zeros.specs.Zeros.{room_of}
use Rattle.writer.specs.Writer.{write_of}

module _ (note out : List ℕ) (at : ℕ) where
  pub unfit_refused : note_fits (length note) ≡ false → write_of note out at ≡ Err NoteLength
  unfolding write_of
  unfit_refused f = rw f

  module _ {a : Bool} (e : a ≡ note_fits (length note)) (f : a ≡ true) where
    pub short_refused : ltb (length out - at) (ticks_of note) ≡ true → write_of note out at ≡ Err NoRoom
    unfolding write_of
    short_refused t = rw (sym e ∙ f, t)

    pub room_counted : ltb (length out - at) (ticks_of note) ≡ false → write_of note out at ≡ Ok (zeros_of note)
    unfolding write_of
    room_counted t = rw (sym e ∙ f, t)

  -- what refuses a line in that room refuses the writing
  pub refused_by_room : (k : Refusal) → Err k ≡ room_of note (length out - at) → write_of note out at ≡ Err k
  unfolding room_of
  refused_by_room k e =
      bool_or (note_fits (length note))
      (λ f. bool_or (ltb (length out - at) (ticks_of note))
      (λ r. let p = rw (f, r) at e in rw (short_refused refl f r) cc)
      (λ r. let p = rw (f, r) at e in cc))
      (λ f. let p = rw f at e in rw (unfit_refused f) cc)

-- the whole buffer after a part from a place on has come back with n new cells at its start
pub part_back : (old new : List ℕ) (n at : ℕ)
    → take at old ++ ((new ++ drop n (take (length old - at) (drop at old))) ++ drop (length old - at) (drop at old))
    ≡ take at old ++ (new ++ drop (at + n) old)
part_back old new n at =
    let e : length old - at ≡ length (drop at old) = sym (length-drop at old) in
    simp (e, take-length, drop-length, append-nil, drop-drop)
