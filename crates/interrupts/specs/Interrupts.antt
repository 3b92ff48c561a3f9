-- 01, Interrupts and external status: a channel's sources, their priority, acknowledge and RETI.
-- Assumes nothing.
use Rattle.std.specs.Prelude.{Bool, true, false, ℕ, eqb, ltb, Option, None, Some, if◌then◌else◌}
use Rattle.interrupts.specs.declared.Source.{Source}
use Rattle.interrupts.specs.declared.Source.TheVariants.{AReceive, ATransmit, AExternal}
use Rattle.interrupts.specs.declared.Source.TheVariants.{BReceive, BTransmit, BExternal}
use Rattle.interrupts.specs.declared.Sources.{Sources}
use Rattle.interrupts.specs.declared.Six.{Six}

-- The sources of a channel, and of both

abbrev pub sources : Bool → Bool → Bool → Sources
sources r t e = record { receive = r; transmit = t; external = e }

abbrev pub no_sources : Sources
no_sources = sources false false false

abbrev pub six : Sources → Sources → Six
six a b = record { a = a; b = b }

abbrev pub no_six : Six
no_six = six no_sources no_sources

-- one of them put on or off
unfoldable pub with_source : Six → Source → Bool → Six
with_source s AReceive t = six (sources t s.a.transmit s.a.external) s.b
with_source s ATransmit t = six (sources s.a.receive t s.a.external) s.b
with_source s AExternal t = six (sources s.a.receive s.a.transmit t) s.b
with_source s BReceive t = six s.a (sources t s.b.transmit s.b.external)
with_source s BTransmit t = six s.a (sources s.b.receive t s.b.external)
with_source s BExternal t = six s.a (sources s.b.receive s.b.transmit t)

-- Priority

-- "Priority: A receive, transmit, external, then B."
abbrev pub place : Source → ℕ
place AReceive = 0
place ATransmit = 1
place AExternal = 2
place BReceive = 3
place BTransmit = 4
place BExternal = 5

-- the source that has this place, its level; at six and above there is none
unfoldable pub source_named : ℕ → Option Source
source_named level =
    if eqb level 0 then Some AReceive else (if eqb level 1 then Some ATransmit
    else (if eqb level 2 then Some AExternal else (if eqb level 3 then Some BReceive
    else (if eqb level 4 then Some BTransmit else (if eqb level 5 then Some BExternal
    else None)))))

unfoldable pub highest : Six → Option Source
highest s =
    if s.a.receive then Some AReceive else (if s.a.transmit then Some ATransmit
    else (if s.a.external then Some AExternal else (if s.b.receive then Some BReceive
    else (if s.b.transmit then Some BTransmit else (if s.b.external then Some BExternal
    else None)))))

-- there is one
abbrev pub some_source : Option Source → Bool
some_source None = false
some_source (Some s) = true

-- RR0 "D1 any source pending"
unfoldable pub any_of : Six → Bool
any_of s = some_source (highest s)

-- Acknowledge and RETI

-- the first of these is there and lies above the second, if that is there too
abbrev pub lies_above : Option Source → Option Source → Bool
lies_above None served = false
lies_above (Some waiting) None = true
lies_above (Some waiting) (Some served) = ltb (place waiting) (place served)

-- refusal 4: "acknowledge with no pending source above all those in service"
unfoldable pub may_take : Six → Six → Bool
may_take pending service = lies_above (highest pending) (highest service)

-- a source, if there is one, put on or off
abbrev pub with_any : Six → Option Source → Bool → Six
with_any s None t = s
with_any s (Some source) t = with_source s source t

-- "Acknowledge puts the highest source in service and leaves it pending"
unfoldable pub acknowledged : Six → Six → Six
acknowledged pending service =
    if may_take pending service then with_any service (highest pending) true else service

-- "RETI ends the highest in service, or does nothing if there is none."
unfoldable pub ended : Six → Six
ended service = with_any service (highest service) false
