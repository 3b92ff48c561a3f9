-- `imprint::stamp_for` meets its contract: a part from a place on, read further on. Assumes nothing.
use Rattle.std.proofs.Common.{◌≡◌, ℕ, ◌+◌, ◌-◌, ◌%◌, ◌<◌, List, get_or, take, drop, get_or-take, get_or-drop, ap, ◌∙◌, arith}
use borrow.Author.Tests.{le-leb, lt-leb}
use Rattle.imprint.specs.Imprint.{stamp_for}
use Rattle.imprint.proofs.stamp_for.Goals as goal

further : (l : List ℕ) (n byte row : ℕ) → row < n - byte
    → get_or (take (n - byte) (drop byte l)) row 0 ≡ get_or l (row + byte) 0
further l n byte row h =
    get_or-take (n - byte) (drop byte l) row 0 h
    ∙ get_or-drop byte l row 0
    ∙ ap (λ (k : ℕ). get_or l k 0) (omega arith)

pub returns-then-row-gt-LAST_ROW : goal.returns-then-row-gt-LAST_ROW
unfolding stamp_for
returns-then-row-gt-LAST_ROW c = rw (lt-leb c.args.row 1024 c.if-row-gt-LAST_ROW.true)

pub returns : goal.returns
unfolding stamp_for
returns c =
    let byte : c.args.v % 256 ≡ c.args.v = omega (arith, c.ranges.v.fits) in
    rw (le-leb c.args.row 1024 c.if-row-gt-LAST_ROW.false, byte, ← c.from.ensures)
    (further c.args.stamps.now 1280 c.from.result c.args.row (omega (arith, c.from.ensures)))
