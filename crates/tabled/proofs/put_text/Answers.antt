-- `tabled::put_text` meets its contract: the bytes that are left, put down from the press on, make what all of them made from the
-- first place. Assumes nothing.
use Rattle.std.proofs.Common.{◌<◌, length, refl, arith}
use Rattle.std.proofs.lemmas.List.{take_rest}
use Rattle.lookup.specs.Laws.{lookup_step, lookup_two}
use Rattle.tabled.specs.Tabled.{bytes_stamped, content_stamped}
use Rattle.tabled.proofs.put_text.Goals as goal

pub loop-rest-init : goal.loop-rest-init
unfolding content_stamped
loop-rest-init c = refl

pub loop-rest-preserved : goal.loop-rest-preserved
unfolding bytes_stamped
loop-rest-preserved c =
    let l = c.loop-rest in
    let list = l.rest.now in
    let two : 1 < length list = omega (arith, c.in-len2-up.len_at_least) in
    let put = c.put_two-press.ensures in
    rw (take_rest list 2, put.value, put.out_after, c.looked_up-check-in-len2-up.ensures, c.looked_up-check.ensures)
    (rw (lookup_two c.args.tables.now.checks list 0 l.check two) at l.invariant)

pub loop-v-preserved : goal.loop-v-preserved
unfolding bytes_stamped
loop-v-preserved c =
    let l = c.loop-v in
    let put = c.put_byte-press.ensures in
    let step = lookup_step c.args.tables.now.checks c.loop-rest.rest.now l.v-index l.check c.loop-v-test.true in
    rw (put.value, put.out_after, c.looked_up-check-in-loop-v.ensures) (rw step at l.invariant)
