-- 01, Sending: "After five ones in a row in byte and check bits, counted on from the opening flag,
-- one 0 is owed and sent next, even before the flag." The run is the number of ones just sent, and
-- is below five before each bit; a greater one, which no history makes, counts as four. Assumes
-- nothing.
use Rattle.std.specs.Prelude.{Bool, true, false, not, ◌&&◌, List, [], ◌∷◌, ◌++◌, ℕ, ◌+◌, eqb, ltb, if◌then◌else◌}
use Rattle.line.specs.declared.Insertion.{Insertion}
use Rattle.line.specs.Bits.{one_if}

-- this bit is the fifth one in a row
abbrev pub owes : ℕ → Bool → Bool
owes run b = b && not (ltb run 4)

-- the run after this bit and the 0 that it owes
abbrev pub run_after : ℕ → Bool → ℕ
run_after run true = if ltb run 4 then run + 1 else 0
run_after run false = 0

-- both of them, as whoever sends a bit counts it
abbrev pub counted : ℕ → Bool → Insertion
counted run b = record { run = run_after run b; owed = owes run b }

abbrev pub zero_if : Bool → List Bool
zero_if true = false ∷ []
zero_if false = []

-- the stream with its inserted zeros, their number, and the run that it leaves
unfoldable pub stuff : ℕ → List Bool → List Bool
stuff run [] = []
stuff run (b ∷ bs) = b ∷ (zero_if (owes run b) ++ stuff (run_after run b) bs)

unfoldable pub zeros : ℕ → List Bool → ℕ
zeros run [] = 0
zeros run (b ∷ bs) = one_if (owes run b) + zeros (run_after run b) bs

unfoldable pub run_over : ℕ → List Bool → ℕ
run_over run [] = run
run_over run (b ∷ bs) = run_over (run_after run b) bs

-- 01, Receiving: "a 0 after five ones is dropped"
abbrev pub seen : ℕ → Bool → ℕ
seen run true = run + 1
seen run false = 0

abbrev pub kept : Bool → Bool → List Bool
kept true b = []
kept false b = b ∷ []

unfoldable pub unstuff : ℕ → List Bool → List Bool
unstuff run [] = []
unstuff run (b ∷ bs) = kept (eqb run 5) b ++ unstuff (seen run b) bs
