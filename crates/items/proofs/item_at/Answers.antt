-- `items::item_at` meets its contract: the bytes that are left begin with it. Assumes nothing.
use Rattle.std.proofs.Common.{drop, lt-ltb, le-ltb}
use Rattle.items.specs.Item.{item_at}
use Rattle.items.proofs.Laws.{left_from, length_behind}
use Rattle.items.proofs.item_at.Goals as goal

pub returns-in_default : goal.returns-in_default
unfolding item_at
returns-in_default c =
    let left = left_from c.args.bytes.now c.args.at c.min.result c.min.ensures in
    rw (c.empty.ensures, lt-ltb _ _ (rw left at c.in_default.len_below))

pub returns : goal.returns
unfolding item_at
returns c =
    let left = left_from c.args.bytes.now c.args.at c.min.result c.min.ensures in
    rw (c.min-2.ensures, c.bytes_behind.ensures, c.three_bytes.ensures, c.from-kind.ensures, left, le-ltb _ _ (rw left at c.in-len8-up.len_at_least), length_behind 8 (drop c.args.at c.args.bytes.now))
