-- `mirror::mirrored_byte` meets its contract: the law of a byte at once. Assumes nothing.
use Rattle.mirror.specs.Laws.{mirrored_byte_is}
use Rattle.mirror.proofs.mirrored_byte.Goals as goal

pub returns : goal.returns
returns c = rw c.from.ensures (mirrored_byte_is c.args.m c.args.v c.ranges.m.fits c.ranges.v.fits)
