-- `station::fitting::open_next` meets its contract. Assumes nothing.
use mathlib.Core.Path.{ap, ◌∙◌}
use mathlib.Core.List.{[]}
use Prim.Native.Nat.{ℕ}
use Rattle.chip.specs.declared.Chip.{Chip}
use Rattle.drive.specs.Drive.{driven, frame_opened}
use Rattle.station.specs.Fed.{flag_gone}
use Rattle.station.proofs.fitting.open_next.Goals as goal

pub returns : goal.returns
returns c =
    let a = c.args in
    let flag = ap (λ (n : ℕ). driven n a.c []) c.flag_ticks.ensures in
    c.open_frame.ensures
    ∙ ap (λ (x : Chip). frame_opened x a.first)
    (c.ticked-c.ensures ∙ flag ∙ flag_gone a.between a.earlier a.c)
