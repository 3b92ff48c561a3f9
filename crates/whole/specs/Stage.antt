-- Demand 3: "each next one after the buffer empties and before the eighth tick after that". The
-- ticks since the buffer emptied, when a tick is in time, and the stages through which a frame in
-- time goes. Assumes nothing.
use Rattle.std.specs.Prelude.{Bool, true, false, not, ◌&&◌, ◌||◌, Option, Some, None, List, [], ◌∷◌, ℕ, ◌+◌, ◌≤◌, ltb, if◌then◌else◌}
use Rattle.shared.specs.Shared.{shared}
use Rattle.sdlc.specs.declared.LineUnit.TheVariants.{Flag, Byte, Check, Abort}
use Rattle.sdlc.specs.declared.Framer.{Framer}
use Rattle.sdlc.specs.Sending.{insertion, not_counted, framer}

-- a tick after which the buffer is empty and was full begins the count anew
abbrev pub since_after : Bool → Bool → ℕ → ℕ
since_after was is n = if was && not is then 0 else n + 1

-- a tick is in time: all is written, or the next byte waits, or this is not yet the eighth tick
-- since the buffer emptied
abbrev pub in_time : Bool → ℕ → List ℕ → Bool
in_time full n [] = true
in_time full n (v ∷ rest) = full || ltb (n + 1) 8

-- something waits or is still to be written
abbrev pub Remains : Option ℕ → List ℕ → Type 0
Remains (Some b) rest = Unit
Remains None [] = ⊥
Remains None (v ∷ rest) = Unit

-- A frame's stages: a sender, n ticks after its buffer emptied, with `rest` still to write. A unit
-- with k bits left has had 8 - k ticks or more, so 7 ≤ n + k is the whole deadline. The Bool says
-- whether an abort may be under way
pub data Stage : Bool → Framer → ℕ → List ℕ → Type 0 where
  opening : {a : Bool} (k : ℕ) (b : Option ℕ) (c n : ℕ) (rest : List ℕ) → 7 ≤ n + k → Remains b rest
      → Stage a (framer (Flag k) not_counted (shared b false c)) n rest
  in_byte : {a : Bool} (k v r : ℕ) (o : Bool) (b : Option ℕ) (c n : ℕ) (rest : List ℕ)
      → 7 ≤ n + k
      → Stage a (framer (Byte k v) (insertion r o) (shared b false c)) n rest
  in_check : {a : Bool} (k v r : ℕ) (o : Bool) (b : Option ℕ) (c n : ℕ)
      → Stage a (framer (Check k v) (insertion r o) (shared b true c)) n []
  closing : {a : Bool} (k : ℕ) (b : Option ℕ) (c n : ℕ)
      → Stage a (framer (Flag k) not_counted (shared b true c)) n []
  cut_off : (k : ℕ) (b : Option ℕ) (c n : ℕ)
      → Stage true (framer (Abort k) not_counted (shared b true c)) n []
