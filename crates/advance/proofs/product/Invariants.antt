-- `advance::product` meets its contract: the sum and the product of what is left is the whole product. Assumes nothing.
use mathlib.Core.Path.{◌≡◌}
use Prim.Native.Nat.{◌<◌}
use lib.Bits.{bit_xor}
use Rattle.advance.specs.Advance.{product}
use Rattle.advance.proofs.product.Given as goal

abbrev pub invariant-loop-rest : goal.invariant-loop-rest
invariant-loop-rest l = (l.rest < 65536) × (bit_xor l.sum (product l.p l.power l.rest) ≡ product l.p l.a l.b)

abbrev pub decreases-loop-rest : goal.decreases-loop-rest
decreases-loop-rest l = l.rest
