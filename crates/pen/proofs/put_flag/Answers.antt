-- `pen::put_flag` meets its contract: where there is room, the flag's cells are copied there at once. Assumes nothing.
use Rattle.std.proofs.Common.{refl, sym, ◌∙◌, ◌+◌, ◌-◌, ◌≤◌, length, arith}
use Rattle.std.proofs.lemmas.List.Edits.{sets-eq}
use Rattle.std.proofs.lemmas.Slice.{put_mid-paste}
use Rattle.line.specs.Bits.{cells}
use Rattle.line.specs.Frame.{flag_bits}
use Rattle.pen.specs.Laws.{flag_fits, flag_left_out}
use Rattle.pen.proofs.put_flag.Goals as goal

pub returns-then-saturating_sub-lt-FLAG_CELLS : goal.returns-then-saturating_sub-lt-FLAG_CELLS
returns-then-saturating_sub-lt-FLAG_CELLS c =
    let a = c.args in
    sym (flag_left_out a.out.now a.at (omega (arith, c.saturating_sub.ensures, c.if-saturating_sub-lt-FLAG_CELLS.true)))

pub returns : goal.returns
unfolding cells
returns c =
    let a = c.args in
    let out = a.out.now in
    let room : 8 ≤ length out - a.at = omega (arith, c.saturating_sub.ensures, c.if-saturating_sub-lt-FLAG_CELLS.false) in
    put_mid-paste a.at (a.at + 8 - a.at) out _ (cells flag_bits) 8 c.copy_from_slice.ensures.after (omega arith) refl
    ∙ sym (sets-eq (cells flag_bits) out a.at (omega arith))
    ∙ sym (flag_fits out a.at room)
