-- `playing::list::list_value` meets its contract: the rows hold the part that was lent and what is behind it. Assumes nothing.
use Rattle.playing.specs.List.{list_gave}
use Rattle.playing.proofs.list.list_value.Goals as goal

pub returns : goal.returns
unfolding list_gave
returns c =
    let sent = c.sent-l.ensures in
    let room = c.room-room in
    rw (
      c.list_value.ensures,
      sent.value,
      sent.rows_after,
      c.between_of.ensures,
      c.part.ensures,
      room.ensures.value,
      c.rows-space.ensures,
    )
