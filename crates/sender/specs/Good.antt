-- Demand 3: "with the SDLC sender on .., check .. included, .. no break". What else the settings
-- hold, SDLC does not look at. Assumes nothing.
use Rattle.std.specs.Prelude.{◌≡◌, true, false}
use Rattle.common.specs.declared.Mode.TheVariants.{Sdlc}
use Rattle.sender.specs.declared.Sending.{Sending}

pub record Good (g : Sending) : Type 0 where
  pub sdlc_mode_lem : g.mode ≡ Sdlc
  pub on : g.framing.on ≡ true
  pub included : g.framing.included ≡ true
  pub no_break : g.broken ≡ false
