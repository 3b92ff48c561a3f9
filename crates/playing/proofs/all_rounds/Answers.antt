-- `playing::all_rounds` meets its contract: the rounds that are left from here make what all of them made from the first. Assumes
-- nothing.
use mathlib.Core.Path.{refl, sym, ap, ◌∙◌}
use native.Mathlib.Omega.{arith}
use Rattle.items.specs.Laws.{dealt_less}
use Rattle.chip.specs.declared.Outcome.{Outcome}
use Rattle.playing.specs.Playing.{Play, playing, behind, round, all_rounds}
use Rattle.playing.proofs.Laws.{rounds_step, rounds_none}
use Rattle.playing.proofs.all_rounds.Goals as goal

pub loop-t-init : goal.loop-t-init
loop-t-init c = (refl, refl, refl)

pub loop-t-smaller : goal.loop-t-smaller
loop-t-smaller c =
    let a = c.args in
    rw c.next-s.ensures.value
    (dealt_less a.input.now c.loop-t.desk c.loop-t.s _ _ _ (sym c.stops.ensures ∙ c.loop-t-test.true))

pub loop-t-preserved : goal.loop-t-preserved
unfolding round
loop-t-preserved c =
    let a = c.args in
    let l = c.loop-t in
    let input = a.input.now in
    let here = playing l.s l.t.chip l.desk l.out in
    let n = c.next-s.ensures in
    let played = ap (λ (t : Outcome). all_rounds input (behind input here t)) c.turned-t.ensures in (
      omega arith,
      omega arith,
      (λ i. all_rounds input (playing (n.value i) c.turned-t.result.chip (n.desk_after i) (n.out_after i)))
          ∙ played ∙ sym (rounds_step input here (sym c.stops.ensures ∙ c.loop-t-test.true)) ∙ l.invariant.2,
    )

pub returns : goal.returns
returns c =
    let a = c.args in
    let l = c.loop-t in
    let here = playing l.s l.t.chip l.desk l.out in
    let e = sym (rounds_none _ a.input.now here (sym c.stops.ensures ∙ c.loop-t-test.false)) ∙ l.invariant.2 in record { value = ap (λ (p : Play). p.sheet) e; desk_after = ap (λ (p : Play). p.desk) e; out_after = ap (λ (p : Play). p.out) e }
