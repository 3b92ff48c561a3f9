-- `bytewise::put_two` meets its contract: where two bytes fit there is room for the first, and behind it for the second; else the
-- tests of each decide. Assumes nothing.
use mathlib.Core.Path.{◌≡◌, sym, ap, ap₂, ◌∙◌}
use native.Mathlib.Omega.{arith}
use Prim.Native.Nat.{ℕ, ◌+◌, ◌≤◌}
use mathlib.Core.Bool.{Bool, true, ◌&&◌}
use borrow.Author.Tests.{leb-true}
use lib.Dec.{leb}
use lib.ListN.{length}
use Rattle.common.specs.Tools.{both_left}
use Rattle.bytewise.specs.Bytewise.{Plate, plate, stamped, byte_stamped}
use Rattle.bytewise.specs.Laws.{byte_stamped_lem}
use Rattle.bytewise.proofs.put_two.Goals as goal

-- what the test of both says of the room
roomy : (at row len : ℕ) (fit : Bool) → fit ≡ leb (at + 27) len && leb row 1024 → fit ≡ true
    → at + 27 ≤ len
roomy at row len fit told e =
    leb-true (at + 27) len (both_left (leb (at + 27) len) (leb row 1024) (sym told ∙ e))

pub returns-then-two_fit : goal.returns-then-two_fit
returns-then-two_fit c =
    let second = c.put_stamp in
    let first = c.put_stamp-q in
    let e = c.stamp_for-e in
    let f = c.stamp_for-f in
    let len = length c.args.out.now in
    let fit = c.two_fit in
    let room =
    roomy c.args.p.at c.args.p.row len fit.result fit.ensures c.if-two_fit.true in
    let stamps = c.args.stamps.now in
    let fours = c.args.fours.now in
    let start = plate c.args.out.now c.args.p in
    let behind-first = plate first.new.out first.result in
    let one : byte_stamped stamps fours start c.args.v ≡ behind-first =
    byte_stamped_lem stamps fours start c.args.v (omega (arith, room))
    ∙ ap (stamped fours start) (sym e.ensures)
    ∙ sym (ap₂ plate first.ensures.out_after first.ensures.value) in
    let two : byte_stamped stamps fours behind-first c.args.w
    ≡ plate second.new.out second.result =
    byte_stamped_lem stamps fours behind-first c.args.w
    (omega (arith, first.ensures.at_bound, first.auto.out, room))
    ∙ ap (stamped fours behind-first) (sym f.ensures)
    ∙ sym (ap₂ plate second.ensures.out_after second.ensures.value) in
    let both = sym (ap (λ (x : Plate). byte_stamped stamps fours x c.args.w) one ∙ two) in
    record { value = ap (λ (x : Plate). x.press) both; out_after = ap (λ (x : Plate). x.buffer) both }
