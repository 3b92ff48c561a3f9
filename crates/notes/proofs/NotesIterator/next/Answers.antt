-- `notes::Notes::next` meets its contract: what stands at its place decides. Assumes nothing.
use Rattle.std.specs.Prelude.{◌≡◌, Ok, Some, [], length}
use Rattle.std.proofs.Common.{rules, ap, arith}
use Rattle.head.specs.NoteHead.{head_of}
use Rattle.head.specs.Laws.{note_at_note}
use Rattle.notes.specs.Laws.Notes.{notes_head, next_note}
use Rattle.notes.specs.Notes.{notes_left}
use Rattle.notes.proofs.NotesIterator.next.Goals as goal

pub returns-in_default-clause-steps : goal.returns-in_default-clause-steps
returns-in_default-clause-steps c =
    let none : notes_left c.args.self.now ≡ [] = rw (notes_head c.args.self.now.list.now c.args.self.now.at) (search rules) in
    (none, none)

pub returns-clause-steps : goal.returns-clause-steps
returns-clause-steps c =
    let at = c.args.self.now.at in
    let k = c.in-Ok-Some.k in
    let stands : head_of c.args.self.now.list.now at ≡ Ok (Some k) = cc in
    let text = note_at_note c.args.self.now.list.now at k stands in
    let next = next_note c.args.self.now.list.now at k stands in
    cc (c.note_at-text.ensures, text, next)

pub returns-clause-goes : goal.returns-clause-goes
returns-clause-goes c =
    let at = c.args.self.now.at in
    let stands : head_of c.args.self.now.list.now at ≡ Ok (Some c.in-Ok-Some.k) = cc in
    let next = next_note c.args.self.now.list.now at c.in-Ok-Some.k stands in
    record { on = λ _. (tt, tt, omega (arith, ap length next)); keeps = tt; rests = λ _. tt }
