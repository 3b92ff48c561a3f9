-- 01, Interrupts and external status: the sources of two channels, RR2, which stay in service under
-- a control write, and what an acknowledge takes. Assumes nothing.
use Rattle.std.specs.Prelude.{Bool, ◌&&◌, ℕ, eqb, Option, if◌then◌else◌}
use Rattle.interrupts.specs.declared.Source.{Source}
use Rattle.interrupts.specs.declared.Six.{Six}
use Rattle.interrupts.specs.Interrupts.{no_sources, six, highest, may_take, acknowledged, ended}
use Rattle.vector.specs.declared.Special.{Special}
use Rattle.vector.specs.Vector.{vector_of, acked_by}
use Rattle.settings.specs.Settings.{command_in, status_affects}
use Rattle.channel.specs.declared.Channel.{Channel}
use Rattle.channel.specs.Events.{special_waits, pending_in}
use Rattle.reading.specs.declared.Taking.{Taking}

-- The six sources: those that are pending, and those in service under a control write

abbrev pub pending_both : Channel → Channel → Six
pending_both a b = six (pending_in a) (pending_in b)

-- the write goes to WR0, with this command
abbrev pub commands : Channel → ℕ → ℕ → Bool
commands c v k = eqb c.pointer 0 && eqb (command_in v) k

-- "7 as RETI (A only, none in B)"
abbrev pub ends_service : Channel → ℕ → Bool
ends_service a v = commands a v 7

-- "A channel reset .. ends that channel's pending and in-service sources"
abbrev pub resets : Channel → ℕ → Bool
resets c v = commands c v 3

abbrev pub service_under_a : Channel → Six → ℕ → Six
service_under_a a s v =
    if ends_service a v then ended s else (if resets a v then six no_sources s.b else s)

abbrev pub service_under_b : Channel → Six → ℕ → Six
service_under_b b s v = if resets b v then six s.a no_sources else s

-- What is read and taken of them

abbrev pub special_both : Channel → Channel → Special
special_both a b = record { a = special_waits a; b = special_waits b }

-- the vector of a source: "WR2: vector, B only", "D2 status affects vector (B)"
abbrev pub vector_at : Channel → Channel → Option Source → ℕ
vector_at a b source =
    vector_of b.registers.wr2 (status_affects b.registers.wr1) source (special_both a b)

-- "RR2 that of the highest pending"
abbrev pub vector_both : Channel → Channel → ℕ
vector_both a b = vector_at a b (highest (pending_both a b))

-- "Acknowledge puts the highest source in service and leaves it pending"; it "gives the vector of
-- the source it takes", which is the highest pending
abbrev pub taking : Six → Six → ℕ → Taking
taking pending service vector =
    record {
      acked = acked_by (may_take pending service) vector;
      service = acknowledged pending service;
    }
