-- `bytewise::put_four` meets its contract: the number's bytes, lowest first, are copied there at once. Assumes nothing.
use Rattle.std.proofs.Common.{refl, sym, ◌∙◌, ◌+◌, ◌-◌, arith}
use lib.ListN.{get_or}
use Rattle.std.proofs.lemmas.List.Edits.{sets-eq}
use Rattle.std.proofs.lemmas.Slice.{put_mid-paste}
use Rattle.stamp.specs.Stamp.{four_cells}
use Rattle.bytewise.proofs.put_four.Goals as goal

pub returns : goal.returns
unfolding four_cells
returns c =
    let a = c.args in
    let out = a.out.now in
    let cells = four_cells (get_or a.fours.now a.n 0) in
    put_mid-paste a.at (a.at + 4 - a.at) out _ cells 4 (c.copy_from_slice.ensures.after ∙ c.to_le_bytes.ensures) (omega arith) refl
    ∙ sym (sets-eq cells out a.at c.requires.at_in_bounds)
