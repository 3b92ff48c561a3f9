-- What only byte-synchronous parts with a history have: a unit's bits still to be sent are fewer
-- than the unit has, in hunt at most sixteen bits are counted, and of a character at most seven.
-- Assumes nothing.
use Rattle.std.specs.Prelude.{Bool, true, false, ℕ, ◌≤◌}
use Rattle.bytesync.specs.declared.BlockUnit.{BlockUnit}
use Rattle.bytesync.specs.declared.BlockUnit.TheVariants.{Mark, Sync, Byte, Check}
use Rattle.bytesync.specs.declared.Reception.{Reception}

abbrev pub SoundBlockUnit : BlockUnit → Type 0
SoundBlockUnit Mark = Unit
SoundBlockUnit (Sync n v) = n ≤ 15
SoundBlockUnit (Byte n v) = n ≤ 7
SoundBlockUnit (Check n v) = n ≤ 15

abbrev Seen : Bool → ℕ → Type 0
Seen true n = n ≤ 16
Seen false n = n ≤ 7

abbrev pub SoundReception : Reception → Type 0
SoundReception r = Seen r.hunt r.count
