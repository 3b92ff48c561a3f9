-- 02, P3: what sending and receiving of the two byte-synchronous modes share: the sync characters
-- and the check's polynomial. Assumes nothing.
use Rattle.std.specs.Prelude.{Bool, ℕ, ◌+◌, ◌*◌, if◌then◌else◌}
use Rattle.line.specs.Check.{sdlc}
use Rattle.bytesync.specs.declared.Syncs.{Syncs}

-- both: Bisync, the sync is two characters; first is WR6, second WR7
abbrev pub syncs : Bool → ℕ → ℕ → Syncs
syncs both a b = record { both = both; first = a; second = b }

-- "Bisync uses WR6 then WR7 for both": the two as a number of sixteen bits, the first bit lowest
abbrev pub pair : Syncs → ℕ
pair s = s.first + s.second * 256

-- "WR5 D2 = 1 chooses x^16+x^15+x^2+1, 0 the SDLC polynomial"
abbrev pub crc16 : ℕ
crc16 = 0x8005

abbrev pub polynomial_of : Bool → ℕ
polynomial_of d2 = if d2 then crc16 else sdlc
