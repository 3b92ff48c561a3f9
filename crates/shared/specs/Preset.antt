-- What WR0's presets load into a check, sender's and receiver's alike. Assumes nothing.
use Rattle.std.specs.Prelude.{ℕ, if◌then◌else◌}
use Rattle.common.specs.Mode.{in_blocks}
use Rattle.common.specs.declared.Mode.{Mode}
use Rattle.line.specs.Check.{ones}

abbrev pub zeros : ℕ
zeros = 0

-- 01, Sending: "preset ones"; 02, P3: "preset to zeros here"
abbrev pub preset_for : Mode → ℕ
preset_for m = if in_blocks m then zeros else ones
