-- A control write of a byte is refused with 1 for a channel above 1, with 3 exactly for the WR4
-- that row 3 names by its bits, and else with nothing. Assumes nothing.
use Rattle.std.specs.Prelude.{◌≡◌, Bool, ◌&&◌, [], ◌∷◌, ℕ, ◌<◌, T, eqb}
use Rattle.std.proofs.Common.{ap, ◌∙◌}
use Rattle.std.specs.Bool.{beq}
use Rattle.common.specs.Tools.{below, below→, beq→}
use Rattle.settings.specs.Settings.{not_built}
use Rattle.channel.specs.Answer.{answer_number}
use Rattle.chip.specs.declared.Chip.{Chip}
use Rattle.chip.specs.Event.{ControlWrite, step}
use Rattle.promises.specs.Refusals.{channel_above, pointer_of, first_row}
use Rattle.promises.specs.Laws.Refusals.{refused_by_the_table}
use Rattle.effects.specs.Setting.{setting_refused, refused_setting}

-- for all 256 bytes
every_byte : T (below (λ v. beq (not_built v) (setting_refused v)) 256)
unfolding not_built
every_byte = tt

pub setting_in_bits : (v : ℕ) → v < 256 → not_built v ≡ setting_refused v
setting_in_bits v h =
    beq→ (not_built v) (setting_refused v)
    (below→ (λ v. beq (not_built v) (setting_refused v)) 256 every_byte v h)

pub refused_by_bits : (c : Chip) (ch v : ℕ) → v < 256
    → answer_number (step c (ControlWrite ch v)).answer
    ≡ first_row (channel_above ch ∷ refused_setting c ch v ∷ [])
refused_by_bits c ch v h =
    refused_by_the_table c (ControlWrite ch v)
    ∙ ap (λ (b : Bool). first_row (channel_above ch ∷ (3, eqb (pointer_of c ch) 4 && b) ∷ []))
    (setting_in_bits v h)
