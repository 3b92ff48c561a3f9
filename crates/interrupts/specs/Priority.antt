-- 01, Interrupts: "Priority: A receive, transmit, external, then B." Refusal 4 in the paper's own
-- words: which sources are there, and what it is for a pending source to lie above all those in
-- service. Assumes nothing.
use Rattle.std.specs.Prelude.{◌≡◌, Bool, true, ℕ, ◌<◌, Option, None, Some}
use Rattle.interrupts.specs.declared.Source.{Source}
use Rattle.interrupts.specs.declared.Source.TheVariants.{AReceive, ATransmit, AExternal}
use Rattle.interrupts.specs.declared.Source.TheVariants.{BReceive, BTransmit, BExternal}
use Rattle.interrupts.specs.declared.Six.{Six}
use Rattle.interrupts.specs.Interrupts.{place}

abbrev pub source_at : Six → Source → Bool
source_at s AReceive = s.a.receive
source_at s ATransmit = s.a.transmit
source_at s AExternal = s.a.external
source_at s BReceive = s.b.receive
source_at s BTransmit = s.b.transmit
source_at s BExternal = s.b.external

-- the priority as a number: 0 for A's receive, 6 for none
abbrev pub level : Option Source → ℕ
level None = 6
level (Some s) = place s

-- a "pending source above all those in service"
pub record SourceAbove (pending service : Six) : Type 0 where
  pub source : Source
  pub waits : source_at pending source ≡ true
  pub above : (k : Source) → source_at service k ≡ true → place source < place k
