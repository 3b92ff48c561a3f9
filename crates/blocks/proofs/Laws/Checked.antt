-- A text and its check leave 0 in the register, over any polynomial. Assumes nothing.
use Rattle.std.specs.Prelude.{◌≡◌, ℕ, List, ◌<◌}
use Rattle.std.proofs.Common.{ap, ◌∙◌, arith}
use Rattle.line.specs.Bits.{text_bits}
use Rattle.line.specs.Check.{check_over, top_bits}
use Rattle.line.specs.Laws.Check.{check_join, check_lt}
use Rattle.blocks.specs.Check.{with_check}
use Rattle.blocks.proofs.Laws.Check.{with_check_bits, check_emptied}

-- a text and its check leave 0
pub with_check_zero : (p : ℕ) (vs : List ℕ) → p < 65536
    → check_over p 0 (text_bits 8 (with_check p vs)) ≡ 0
with_check_zero p vs h =
    let bs = text_bits 8 vs in
    let c = check_over p 0 bs in
    ap (check_over p 0) (with_check_bits p vs) ∙ check_join p 0 bs (top_bits 16 c)
    ∙ check_emptied p c (check_lt p h 0 bs (omega arith))
