-- What a unit of Monosync and Bisync is, told by tests, for the making of wrong chips. Assumes
-- nothing.
use Rattle.std.specs.Prelude.{Bool, false, eqb}
use Rattle.bytesync.specs.declared.BlockUnit.{BlockUnit}
use Rattle.bytesync.specs.declared.BlockUnit.TheVariants.{Mark, Sync, Byte, Check}

-- a byte whose last bit is sent
abbrev pub byte_ended : BlockUnit → Bool
byte_ended Mark = false
byte_ended (Sync n v) = false
byte_ended (Byte n v) = eqb n 0
byte_ended (Check n v) = false

-- a sync whose first bit is sent, of Monosync
abbrev pub sync_begun : BlockUnit → Bool
sync_begun Mark = false
sync_begun (Sync n v) = eqb n 7
sync_begun (Byte n v) = false
sync_begun (Check n v) = false
