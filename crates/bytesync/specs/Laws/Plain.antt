-- What the byte-synchronous modes hand over is plain. Assumes nothing.
use Rattle.std.specs.Prelude.{Option, IfSome, Bool, ◌&&◌, ℕ, ltb}
use Rattle.common.specs.Tools.{if_elim}
use Rattle.entry.specs.declared.Entry.{Entry}
use Rattle.queue.specs.Holding.{Plain, plain}
use Rattle.bytesync.specs.declared.Matching.{Matching}
use Rattle.bytesync.specs.declared.Reception.{Reception}
use Rattle.bytesync.specs.declared.Matched.{Matched}
use Rattle.bytesync.specs.Hearing.{shift_in, counted, sync_seen, hunting, last_bit, arrived}
use Rattle.bytesync.specs.Hearing.{last_eight, leads, assembling}
use Rattle.bytesync.specs.Hearing.{hear_block}

abbrev PlainMatched : Matched → Type 0
PlainMatched h = IfSome h.entry Plain

module _ (g : Matching) (r : Reception) (c : ℕ) (b : Bool) where
  hunting_plain : PlainMatched (hunting g r c b)
  unfolding hunting
  hunting_plain =
      if_elim PlainMatched
      (sync_seen g.syncs (counted r.count) (shift_in b r.bits)) tt tt

  assembling_plain : PlainMatched (assembling g r c b)
  unfolding assembling arrived
  assembling_plain =
      if_elim PlainMatched (ltb r.count last_bit) tt
      (if_elim (λ (e : Option Entry). IfSome e Plain)
      (leads g.syncs r.block (last_eight (shift_in b r.bits)) && g.strip) tt plain)

  pub hear_plain : IfSome (hear_block g r c b).entry Plain
  unfolding hear_block
  hear_plain = if_elim PlainMatched r.hunt hunting_plain assembling_plain
