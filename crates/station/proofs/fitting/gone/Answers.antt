-- `station::fitting::gone` meets its contract: the zeros are what the ticks leave. Assumes nothing.
use mathlib.Core.Path.{◌≡◌}
use Prim.Native.Nat.{◌+◌, ◌-◌, ◌*◌}
use native.Mathlib.Omega.{arith}
use lib.ListN.{length}
use Rattle.line.specs.Frame.{zeros_of, ticks_of}
use Rattle.line.specs.Laws.Frame.{ticks_are}
use Rattle.report.specs.Laws.Ticks.{ticks_few}
use Rattle.station.proofs.fitting.gone.Goals as goal

pub overflow_add-ticks : goal.overflow_add-ticks
overflow_add-ticks c = omega (arith, c.requires.flag_bits_value, ticks_few c.args.note.now c.requires.note_value)

pub overflow_sub-result : goal.overflow_sub-result
overflow_sub-result c = omega (arith, c.requires.flag_bits_value, ticks_are c.args.note.now)

pub returns : goal.returns
returns c =
    let note = c.args.note.now in
    let ticks : c.args.behind + 8 ≡ ticks_of note = omega (arith, c.requires.flag_bits_value) in
    let zeros : c.args.behind + 8 - (8 * (length note + 2) + 16) ≡ zeros_of note =
    omega (arith, ticks, ticks_are note) in
    λ i. record { zeros = zeros i; ticks = ticks i }
