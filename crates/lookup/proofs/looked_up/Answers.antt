-- `lookup::looked_up` meets its contract: a byte is below 256. Assumes nothing.
use mathlib.Core.Path.{◌≡◌}
use native.Mathlib.Omega.{arith}
use Prim.Native.Nat.{◌%◌}
use Rattle.lookup.specs.Lookup.{looked_up}
use Rattle.lookup.proofs.looked_up.Goals as goal

pub returns : goal.returns
unfolding looked_up
returns c =
    let byte : c.args.v % 256 ≡ c.args.v = omega (arith, c.ranges.v.fits) in
    rw (byte, c.from-2.ensures, c.from.ensures)
