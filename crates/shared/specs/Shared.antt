-- 01, Sending: what the senders of all modes share, the buffer, the underrun latch and the check.
-- Assumes nothing.
use Rattle.std.specs.Prelude.{Bool, true, false, ℕ, Option, Some, None, is_some, unwrap_or, if◌then◌else◌}
use Rattle.line.specs.Bits.{low_bits}
use Rattle.line.specs.Check.{ones, check_over}
use Rattle.shared.specs.declared.Shared.{Shared}

abbrev pub shared : Option ℕ → Bool → ℕ → Shared
shared b l c = record { buffer = b; latch = l; check = c }

-- a byte waits in the buffer
abbrev pub full : Shared → Bool
full k = is_some k.buffer

-- the byte that waits; of an empty buffer 0
abbrev pub waiting_byte : Shared → ℕ
waiting_byte k = unwrap_or k.buffer 0

-- 01, Registers: "A channel reset .. empties buffer and queue, .. sets D6, .. presets both checks
-- to ones"
abbrev pub shared_at_reset : Shared
shared_at_reset = shared None true ones

-- "A data write fills the buffer, replacing what is there."
abbrev pub filled : Shared → ℕ → Shared
filled k v = shared (Some v) k.latch k.check

abbrev pub emptied : Shared → Shared
emptied k = shared None k.latch k.check

abbrev pub latched : Shared → Shared
latched k = shared k.buffer true k.check

-- 01, Registers: WR0 "D7-6: .. 3 clear Underrun latch"
abbrev pub cleared : Shared → Shared
cleared k = shared k.buffer false k.check

abbrev pub check_set : Shared → ℕ → Shared
check_set k c = shared k.buffer k.latch c

-- "A byte enters the check at its load if WR5 D0 is set.": v, over the polynomial p
abbrev pub byte_entered : ℕ → Bool → ℕ → Shared → Shared
byte_entered p included v k =
    check_set k (if included then check_over p k.check (low_bits 8 v) else k.check)

-- the byte in the buffer enters it
abbrev pub entered : ℕ → Bool → Shared → Shared
entered p included k = byte_entered p included (waiting_byte k) k
