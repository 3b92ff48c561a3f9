-- `feed::feed_frame` meets its contract. Assumes nothing.
use Rattle.std.proofs.Common.{◌≡◌, sym, ap, ◌∙◌, true, ◌&&◌}
use lib.Dec.{ltb}
use lib.ListN.{length}
use borrow.Author.Tests.{ltb-true}
use Rattle.common.specs.Tools.{both_left, both_right}
use Rattle.line.specs.declared.Insertion.{Insertion}
use Rattle.sdlc.specs.declared.LineUnit.TheVariants.{Flag}
use Rattle.sdlc.specs.Sending.{framer}
use Rattle.feed.specs.Feeding.{ran, to_the_end, flag_sent, begins, most_to_write, frame_fed}
use Rattle.feed.specs.Laws.Feeding.{if_true, begins_stage, begins_few}
use Rattle.feed.proofs.feed_frame.Goals as goal

pub to_the_end-requires : goal.to_the_end-requires
to_the_end-requires c =
    let k = c.args.k in
    let rest = c.args.rest.now in
    let fits = ltb (length rest) most_to_write in
    let test : begins k && fits ≡ true = rw (← c.is_some.ensures) c.if-begins-rest.true in
    let first = both_left (begins k) fits test in
    let few = ltb-true (length rest) most_to_write (both_right (begins k) fits test) in
    rw c.not_counted.ensures record { stage = begins_stage k rest first; rest_len_bound = begins_few k rest first few }

pub returns-then-begins-rest : goal.returns-then-begins-rest
unfolding frame_fed
returns-then-begins-rest c =
    let k = c.args.k in
    let rest = c.args.rest.now in
    let fits = ltb (length rest) most_to_write in
    let test : begins k && fits ≡ true = rw (← c.is_some.ensures) c.if-begins-rest.true in
    c.to_the_end.ensures
    ∙ ap (λ (i : Insertion). to_the_end (framer (Flag 0) i k) rest) c.not_counted.ensures
    ∙ sym (if_true (to_the_end (flag_sent k) rest) (ran 0 (flag_sent k)) test)

pub returns : goal.returns
unfolding frame_fed
returns c = simp (← c.is_some.ensures, c.if-begins-rest.false, c.not_counted.ensures)
