-- `calls::line_right` meets its contract: the page holds the part that was lent and what is behind it. Assumes nothing.
use Rattle.calls.specs.Calls.{line_right}
use Rattle.zeros.specs.Laws.{zeros_unwrapped}
use Rattle.calls.proofs.Laws.{same_is}
use Rattle.calls.proofs.line_right.Goals as goal

pub returns : goal.returns
unfolding line_right
returns c =
    let written = c.write_line-c.ensures in
    let room = c.room-room in
    rw (
      c.eq.ensures,
      same_is,
      c.is.ensures,
      c.unwrap_or.ensures,
      zeros_unwrapped c.write_line-c.result,
      c.number_in.ensures,
      written.value,
      written.out_after,
      c.place.ensures,
      room.ensures.value,
      c.page-space.ensures,
    )
