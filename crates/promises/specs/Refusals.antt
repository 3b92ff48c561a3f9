-- 01, Events: the table of refusals, rows 1 to 4, 02's row 10, and the rows that each event knows.
-- Assumes nothing.
use Rattle.std.specs.Prelude.{Bool, not, ◌&&◌, ◌||◌, List, [], ◌∷◌, ℕ, eqb, leb, if◌then◌else◌}
use Rattle.queue.specs.Queue.{waits}
use Rattle.interrupts.specs.Interrupts.{may_take}
use Rattle.settings.specs.Settings.{not_built}
use Rattle.chip.specs.declared.Chip.{Chip}
use Rattle.chip.specs.Interrupts.{pending_of}
use Rattle.chip.specs.Event.{Event, HardReset, ControlWrite, ControlRead, DataWrite, DataRead}
use Rattle.chip.specs.Event.{Transmit, Receive, SetLines, Acknowledge, Reti}

-- a row: its number, and whether it holds
abbrev pub Row : Type 0
Row = ℕ × Bool

-- 1: "channel above 1"
abbrev pub channel_above : ℕ → Row
channel_above ch = (1, leb 2 ch)

-- 2: "a line bit, DCD or CTS above 1"
abbrev pub bit_above : ℕ → Row
bit_above bit = (2, leb 2 bit)

abbrev pub lines_above : ℕ → ℕ → Row
lines_above dcd cts = (2, leb 2 dcd || leb 2 cts)

-- 3: "a WR4 write with D7-6 not 00, or D3-2 = 10, or D3-2 = 00 and D5-4" external sync, 11, as 02,
-- P3 leaves it: a control write is one to WR4 while the pointer is at 4
abbrev pub pointer_of : Chip → ℕ → ℕ
pointer_of c ch = if eqb ch 0 then c.a.pointer else c.b.pointer

abbrev pub setting_not_built : Chip → ℕ → ℕ → Row
setting_not_built c ch v = (3, eqb (pointer_of c ch) 4 && not_built v)

-- 4: "acknowledge with no pending source above all those in service"; Laws/Priority.antt has it
-- in just these words
abbrev pub nothing_above : Chip → Row
nothing_above c = (4, not (may_take (pending_of c) c.service))

-- 10 (02, P5): "data read with nothing waiting"
abbrev pub waits_in : Chip → ℕ → Bool
waits_in c ch = if eqb ch 0 then waits c.a.queue else waits c.b.queue

abbrev pub none_waits : Chip → ℕ → Row
none_waits c ch = (10, not (waits_in c ch))

-- "The lowest number wins": the rows that an event knows, the lowest first
abbrev pub rows_of : Chip → Event → List Row
rows_of c HardReset = []
rows_of c (ControlWrite ch v) = channel_above ch ∷ setting_not_built c ch v ∷ []
rows_of c (ControlRead ch) = channel_above ch ∷ []
rows_of c (DataWrite ch v) = channel_above ch ∷ []
rows_of c (DataRead ch) = channel_above ch ∷ none_waits c ch ∷ []
rows_of c (Transmit ch) = channel_above ch ∷ []
rows_of c (Receive ch bit) = channel_above ch ∷ bit_above bit ∷ []
rows_of c (SetLines ch dcd cts) = channel_above ch ∷ lines_above dcd cts ∷ []
rows_of c Acknowledge = nothing_above c ∷ []
rows_of c Reti = []

-- the number of the first row that holds, 0 if none does
abbrev pub first_row : List Row → ℕ
first_row [] = 0
first_row (r ∷ rs) = if r.1 then r.0 else first_row rs
