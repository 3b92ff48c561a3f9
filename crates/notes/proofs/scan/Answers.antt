-- `notes::scan` meets its contract: the count so far, carried over what is left of the list, is always the whole list's answer. Assumes nothing.
use Rattle.std.specs.Prelude.{◌≡◌, ◌+◌, ◌≤◌, false, eqb, length, Ok, Err, Some, None}
use Rattle.std.proofs.Common.{sym, ◌∙◌, arith, le-ltb}
use Rattle.std.proofs.lemmas.Bool.Decides.{nat_tests}
use Rattle.head.specs.NoteHead.{length_bytes, head_of}
use Rattle.notes.specs.NoteList.{rest_from, read_list, first_note, longest_list}
use Rattle.notes.specs.Laws.Reading.{one_more, walk_end, walk_note, walk_bad, scanned_walk}
use Rattle.notes.proofs.scan.Goals as goal

pub notes-init : goal.notes-init
unfolding read_list
notes-init c =
    let list = c.args.list.now in
    let some : eqb (length list) 0 ≡ false = sym c.if-is_empty.ensures in
    let first : 1 ≤ length list = grind (arith, nat_tests) in
    simp (c.if-list-ne-VERSION.false, some, le-ltb longest_list _ c.if-list-gt-LONGEST_LIST.false)
    (sym (scanned_walk (rest_from list first_note)), omega arith, first)

pub notes-preserved : goal.notes-preserved
notes-preserved c =
    let l = c.notes in
    let list = c.args.list.now in
    let stands : head_of list l.i ≡ Ok (Some c.in-Ok-Some.k) = cc in
    let k = c.in-Ok-Some.k in
    let within = rw c.in-Ok-Some.field-0-is at c.in-Ok-Some.ensures.within in
    let at : l.i + (2 + k) ≡ l.i + length_bytes + k = omega arith in
    let walked = rw (← at) at (sym (walk_note one_more Ok Err l.n list l.i k stands)) in
    (walked ∙ l.invariant.0, omega arith, omega (arith, within))

pub returns-in-Ok-None : goal.returns-in-Ok-None
returns-in-Ok-None c =
    let l = c.notes in
    let list = c.args.list.now in
    let stands : head_of list l.i ≡ Ok None = cc in
    sym (walk_end one_more Ok Err l.n list l.i stands) ∙ l.invariant.0

pub returns-in-Err : goal.returns-in-Err
returns-in-Err c =
    let l = c.notes in
    let list = c.args.list.now in
    sym (walk_bad one_more Ok Err l.n list l.i _ (sym c.in-Err.ensures.value)) ∙ l.invariant.0
