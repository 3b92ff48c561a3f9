-- Ones counted in fives: behind each five that is closed a zero is inserted, and the ones beyond
-- the closed fives are the run. Assumes nothing.
use Rattle.std.specs.Prelude.{Bool, true, false, List, ℕ, ◌+◌, ◌-◌, ◌*◌, ◌≤◌, ◌<◌, eqb, ltb, if◌then◌else◌}
use Rattle.line.specs.Insertion.{zeros, run_over}
use Rattle.tally.specs.declared.Tally.{Tally}

abbrev pub tally : ℕ → ℕ → Tally
tally ones closed = record { ones = ones; closed = closed }

-- the ones behind a bit: one more, or those of the closed fives alone
abbrev pub ones_after : ℕ → ℕ → Bool → ℕ
ones_after ones closed true = ones + 1
ones_after ones closed false = closed

-- the ones in closed fives: five more once they are there
abbrev pub closed_after : ℕ → ℕ → ℕ
closed_after ones closed = if eqb ones (closed + 5) then ones else closed

abbrev pub run_of : Tally → ℕ
run_of t = t.ones - t.closed

-- a tally of a note: no five is left open, and no note has more ones
abbrev pub Running : Tally → Type 0
Running t = (t.closed ≤ t.ones) × ((t.ones < t.closed + 5) × (t.ones ≤ 60000))

-- the tally behind bits of content
abbrev pub tallied : Tally → List Bool → Tally
tallied t bits =
    tally (t.closed + 5 * zeros (run_of t) bits + run_over (run_of t) bits)
    (t.closed + 5 * zeros (run_of t) bits)

-- the ones at the top of a byte, four at most
abbrev pub top_ones : ℕ → ℕ
top_ones v =
    if ltb v 128 then 0
    else (if ltb v 192 then 1 else (if ltb v 224 then 2 else (if ltb v 240 then 3 else 4)))
