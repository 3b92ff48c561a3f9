-- An abort over a story of chip events: no end mark among what was read and what waits, if there
-- was none among what waited. Assumes nothing.
use Rattle.std.specs.Prelude.{◌≡◌, refl, Bool, true, List, [], ◌++◌, ℕ, ◌≤◌}
use Rattle.std.proofs.Common.{ap, ◌∙◌, append-nil, arith}
use Rattle.entry.specs.declared.Entry.{Entry}
use Rattle.queue.specs.Holding.{Holds}
use Rattle.whole.specs.Heard.{Final, hear_all, flag_free, aborted_line, end_marks}
use Rattle.whole.specs.Laws.Deaf.{end_marks_join, abort_no_end}
use Rattle.chip.specs.declared.Chip.{Chip}
use Rattle.chip.specs.Event.{Event}
use Rattle.stories.specs.Story.{Which, chan}
use Rattle.stories.specs.Received.{bits_of, took_of}
use Rattle.history.specs.Receiving.Side.{Side, side_of}
use Rattle.receiving.specs.Statement.{Fed, NoEndTold}
use Rattle.history.specs.Receiving.Events.{Hearing}
use Rattle.receiving.specs.Conserved.{conserved}

pub abort_untold : (w : Which) (c : Chip) (st : List Event) (p o : Bool) (es : List Entry)
    (xs : List Bool) (n : ℕ) (zs : List Bool) (b : Bool) → Hearing (side_of w c).settings
    → Holds p o (chan w c).queue es → end_marks es ≡ 0 → Fed w c st
    → bits_of w st ≡ aborted_line xs n zs b
    → 7 ≤ n → flag_free (chan w c).receiver.content.ones xs ≡ true → flag_free 7 zs ≡ true
    → NoEndTold w c st p o
unfolding hear_all
abort_untold w c st p o es xs n zs b t h z f e k i j =
    let x = side_of w c in
    let g = x.settings.addressing in
    let q = conserved w f x.listener x.queue x.settings es t refl h in
    let a = abort_no_end g x.listener xs n zs b k i j in
    let u = ap (λ (y : Final). end_marks y.got) (q.whole []) in
    let v =
    ap (λ (l : List Bool). end_marks (es ++ (hear_all g x.listener l).got))
    (append-nil (bits_of w st) ∙ e) in
    record {
      waiting = q.waiting;
      holds = rw (ap (λ (y : Side). y.queue) q.there) q.holds;
      untold = omega (
        arith,
        u,
        v,
        a,
        z,
        end_marks_join es (hear_all g x.listener (aborted_line xs n zs b)).got,
        end_marks_join (took_of w c st ++ q.waiting) [],
      );
    }
