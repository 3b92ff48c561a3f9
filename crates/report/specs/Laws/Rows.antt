-- Rows in a lent part. Assumes nothing.
use Rattle.std.specs.Prelude.{◌≡◌, Bool, List, ℕ, ◌*◌, ◌/◌, ◌<◌, length}
use Rattle.std.proofs.Common.{ap, arith}
use Rattle.std.proofs.lemmas.Bool.{lt-leb}
use Rattle.report.specs.Report.{row_length, report, told_at, rows_in}

-- a part that is too short for all of them is left as it was
pub rows_untold : (lent rows : List ℕ) (notes ticks : ℕ) → length lent < row_length * notes
    → rows_in lent (report rows notes ticks) ≡ lent
rows_untold lent rows notes ticks h =
    let few : length lent / row_length < notes = omega arith in
    ap (λ (told : Bool). told_at told lent 0 rows) (lt-leb notes (length lent / row_length) few)
