-- `tabled::put_text` meets its contract: the bytes that are left, put down from the press on, make what all of them made from the
-- first place. Assumes nothing.
use Rattle.std.proofs.Common.{◌≡◌, length, drop}
use Rattle.tabled.specs.Tabled.{content_stamped, ahead}
use Rattle.tabled.proofs.put_text.Given as goal

abbrev pub invariant-loop-rest : goal.invariant-loop-rest
invariant-loop-rest l =
    let t = l.tables in
    ahead t.checks t.stamps t.fours l.rest l.out (record { press = l.press; check = l.check })
    ≡ content_stamped t.checks t.stamps t.fours l.fn.out l.note

abbrev pub decreases-loop-rest : goal.decreases-loop-rest
decreases-loop-rest l = length l.rest

abbrev pub invariant-loop-v : goal.invariant-loop-v
invariant-loop-v l =
    let t = l.tables in
    ahead t.checks t.stamps t.fours (drop l.v-index l.v-items) l.out (record { press = l.press; check = l.check })
    ≡ content_stamped t.checks t.stamps t.fours l.fn.out l.note
