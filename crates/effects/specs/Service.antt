-- 01, Interrupts: "Events on B never change A's .., nor the reverse; interrupts and hard reset are
-- shared." Of the events on A one is an interrupt's: WR0 with "7 as RETI". Assumes nothing.
use Rattle.std.specs.Prelude.{Bool, false, ℕ}
use Rattle.chip.specs.declared.Chip.{Chip}
use Rattle.channel.specs.declared.Channel.{Channel}
use Rattle.chip.specs.Chip.{ends_service, resets}
use Rattle.chip.specs.Event.{Event}
use Rattle.promises.specs.Isolation.{On, control_write_lem, control_read_lem, data_write, data_read_lem}
use Rattle.promises.specs.Isolation.{transmit}
use Rattle.promises.specs.Isolation.{receive, set_lines}

-- an event on A that may end a source of B in service
abbrev pub acts_as_reti : {e : Event} → Chip → On 0 e → Bool
acts_as_reti c (control_write_lem v) = ends_service c.a v
acts_as_reti c control_read_lem = false
acts_as_reti c (data_write v) = false
acts_as_reti c data_read_lem = false
acts_as_reti c transmit = false
acts_as_reti c (receive bit) = false
acts_as_reti c (set_lines dcd cts) = false

-- an event on a channel that resets it
abbrev pub acts_as_reset : {ch : ℕ} {e : Event} → Channel → On ch e → Bool
acts_as_reset x (control_write_lem v) = resets x v
acts_as_reset x control_read_lem = false
acts_as_reset x (data_write v) = false
acts_as_reset x data_read_lem = false
acts_as_reset x transmit = false
acts_as_reset x (receive bit) = false
acts_as_reset x (set_lines dcd cts) = false
