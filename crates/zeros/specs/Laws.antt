-- What the answer of room for a line says: a refusal is the writer's own, and where there is room the note has a line and the place is
-- inside the buffer. Assumes nothing.
use Rattle.std.specs.Prelude.{◌≡◌, refl, Bool, true, false, List, ℕ, ◌-◌, ◌≤◌, Result, Ok, Err, ltb, length, if◌then◌else◌}
use Rattle.std.specs.Result.{result_unwrap_or}
use Rattle.std.proofs.Common.{sym, ◌∙◌, arith, ltb-false}
use Rattle.common.specs.declared.Refusal.{Refusal}
use Rattle.common.specs.declared.Refusal.TheVariants.{NoteLength, NoRoom}
use Rattle.common.specs.Tools.{bool_or}
use Rattle.line.specs.Frame.{ticks_of}
use Rattle.line.specs.Line.{note_fits}
use Rattle.line.specs.Laws.Frame.{ticks_are}
use Rattle.zeros.specs.Counted.{counted_zeros}
use Rattle.zeros.specs.Zeros.{line_ticks, room_of}

module _ (note : List ℕ) (room : ℕ) where
  -- what a writer answers that gives x of a line
  abbrev pub answer : {T : Type 0} → T → Result T Refusal
  answer x =
      if note_fits (length note) then (if ltb room (ticks_of note) then Err NoRoom else Ok x) else Err NoteLength

  pub refused_alike : {T : Type 0} (x : T) (k : Refusal) → Err k ≡ room_of note room → answer x ≡ Err k
  unfolding room_of
  refused_alike x k e =
      bool_or (note_fits (length note))
      (λ f. bool_or (ltb room (ticks_of note))
      (λ r.
      let p : ◌≡◌ {A = Result (Unit {0}) Refusal} (Err k) (Err NoRoom) = rw (f, r) at e in rw (f, r) cc)
      (λ r. let p = rw (f, r) at e in cc))
      (λ f. let p : ◌≡◌ {A = Result (Unit {0}) Refusal} (Err k) (Err NoteLength) = rw f at e in rw f cc)

  pub line_there : (u : Unit {0}) → Ok u ≡ room_of note room
      → (note_fits (length note) ≡ true) × (ltb room (ticks_of note) ≡ false)
  unfolding room_of
  line_there u e =
      bool_or (note_fits (length note))
      (λ f. bool_or (ltb room (ticks_of note)) (λ r. let p = rw (f, r) at e in cc) (λ r. (f, r)))
      (λ f. let p = rw f at e in cc)

-- the zeros of an answer, as `unwrap_or(0)` gives them
pub zeros_unwrapped : (r : Result ℕ Refusal) → result_unwrap_or r 0 ≡ counted_zeros r
zeros_unwrapped (Ok z) = refl
zeros_unwrapped (Err k) = refl

-- a line is never empty, so that a place with room for one is inside the buffer
pub room_there : (note out : List ℕ) (at : ℕ) → ltb (length out - at) (ticks_of note) ≡ false
    → (ticks_of note ≤ length out - at) × (at ≤ length out)
room_there note out at t =
    let h = ltb-false (length out - at) (ticks_of note) t in (h, omega (arith, ticks_are note))

-- the ticks against the room from a place on
pub test_said : (note out : List ℕ) (at : ℕ) {a b : Bool} {room : ℕ} → a ≡ note_fits (length note)
    → a ≡ true → room ≡ length out - at → b ≡ ltb room (line_ticks note)
    → ltb (length out - at) (ticks_of note) ≡ b
unfolding line_ticks
test_said note out at e f r t = sym (rw (sym e ∙ f, r) at t)
