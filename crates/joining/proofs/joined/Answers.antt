-- `joining::joined` meets its contract: the law that checks join. Assumes nothing.
use mathlib.Core.Path.{ap, ◌∙◌}
use lib.Bits.{bit_xor}
use Rattle.joining.specs.Join.{joined_by}
use Rattle.joining.specs.Laws.Join.{checks_join}
use Rattle.joining.proofs.joined.Goals as goal

pub returns-clause-joins : goal.returns-clause-joins
unfolding joined_by
returns-clause-joins c =
    let a = c.args in
    let is = ap (bit_xor a.body) c.advance.ensures in
    λ front back h b k. is ∙ rw (h, b, k) at (checks_join a.rule front back)
