-- `station::rows::put_row` meets its contract: a row copied is a row stored, number by number. Assumes nothing.
use Rattle.std.specs.Prelude.{refl, Bool, ◌+◌, ◌*◌}
use Rattle.std.proofs.Common.{◌∙◌, sym, subst}
use native.Mathlib.Omega.{arith}
use mathlib.Core.List.{append_assoc}
use lib.ListN.{take, drop}
use Rattle.std.proofs.lemmas.List.Edits.{sets-eq, paste_all}
use Rattle.std.proofs.lemmas.Slice.{put_mid-paste}
use Rattle.report.specs.Report.{row_length, row_of}
use Rattle.station.specs.Walk.{Room}
use Rattle.station.proofs.rows.put_row.Goals as goal

pub returns-then-told : goal.returns-then-told
returns-then-told c =
    let a = c.args in
    let at = row_length * a.earlier in
    let row = row_of (a.earlier + 1) a.note.now in
    let copied = put_mid-paste at _ a.rows.now c.copy_from_slice.new.self row row_length (c.copy_from_slice.ensures.after ∙ simp c.requires.gone_value refl) (omega arith) refl in
    simp c.if-told.true
    (copied
    ∙ paste_all a.rows.now at row row_length refl
    ∙ sym (append_assoc (take at a.rows.now) row (drop (at + row_length) a.rows.now))
    ∙ sym (sets-eq row a.rows.now at (subst (λ (b : Bool). Room b at a.rows.now) c.if-told.true c.requires.room)))
