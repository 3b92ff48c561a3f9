-- `station::fitting::send_next` meets its contract: what the sender alone was fed is what the drive of the whole chip leaves. Assumes
-- nothing.
use mathlib.Core.Path.{ap, ◌∙◌}
use Rattle.feed.specs.Feeding.{frame_fed}
use Rattle.listline.specs.ListLine.{before_note}
use Rattle.station.specs.Fed.{feeds, rest_whole}
use Rattle.station.proofs.fitting.send_next.Goals as goal

pub gone-requires-clause-flag_bits_value : goal.gone-requires-clause-flag_bits_value
gone-requires-clause-flag_bits_value c =
    let a = c.args in
    let d = c.open_next-c.result in
    let f = feeds (before_note a.between a.earlier a.c) a.note.now d c.feed_frame-r.result c.requires c.open_next-c.ensures
    (c.feed_frame-r.ensures ∙ ap (frame_fed d.a.sender.shared) (rest_whole a.note.now)) in
    f.ticks

pub returns : goal.returns
returns c =
    let a = c.args in
    let d = c.open_next-c.result in
    let f = feeds (before_note a.between a.earlier a.c) a.note.now d c.feed_frame-r.result c.requires c.open_next-c.ensures
    (c.feed_frame-r.ensures ∙ ap (frame_fed d.a.sender.shared) (rest_whole a.note.now)) in
    let chip = c.chip_with-c.ensures ∙ f.chip in
    λ i. (c.gone.ensures i, chip i)
