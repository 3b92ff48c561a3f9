-- 01, Interrupts and external status: the sources of a chip, RR2, acknowledge and RETI. What they
-- are of two channels is said in crate reading. Assumes nothing.
use Rattle.std.specs.Prelude.{Bool, ℕ}
use Rattle.interrupts.specs.declared.Six.{Six}
use Rattle.interrupts.specs.Interrupts.{any_of, ended}
use Rattle.channel.specs.declared.Channel.{Channel}
use Rattle.reading.specs.declared.Taking.{Taking}
use Rattle.reading.specs.Both.{pending_both, vector_both, taking}
use Rattle.chip.specs.declared.Chip.{Chip}
use Rattle.chip.specs.declared.Acknowledged.{Acknowledged}

abbrev pub chip : Channel → Channel → Six → Chip
chip a b s = record { a = a; b = b; service = s }

-- what changes one of its parts
abbrev pub with_a : Chip → Channel → Chip
with_a c x = chip x c.b c.service

abbrev pub with_b : Chip → Channel → Chip
with_b c x = chip c.a x c.service

-- these sources are in service, and nothing else changes
abbrev pub in_service : Chip → Six → Chip
in_service c s = chip c.a c.b s

-- What is read of the sources

unfoldable pub pending_of : Chip → Six
pending_of c = pending_both c.a c.b

-- RR0 "D1 any source pending"
unfoldable pub any_pending : Chip → Bool
any_pending c = any_of (pending_of c)

unfoldable pub rr2 : Chip → ℕ
rr2 c = vector_both c.a c.b

-- Acknowledge and RETI

-- an acknowledge answers, and puts in service, what it takes
abbrev pub taken_from : Chip → Taking → Acknowledged
taken_from c t = record { acked = t.acked; chip = in_service c t.service }

unfoldable pub acknowledge : Chip → Acknowledged
acknowledge c = taken_from c (taking (pending_of c) c.service (rr2 c))

-- "RETI ends the highest in service, or does nothing if there is none."
unfoldable pub reti : Chip → Chip
reti c = in_service c (ended c.service)
