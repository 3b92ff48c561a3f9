-- A block sent in time: what was sent, followed by what is to come, is the block at every moment.
-- One induction over the story. Assumes nothing.
use Rattle.std.specs.Prelude.{◌≡◌, refl, Bool, false, List, [], ◌∷◌, ◌++◌, ℕ, ◌+◌, ◌≤◌, length, take, None}
use Rattle.std.proofs.Common.{sym, ap, ◌∙◌, subst, append_assoc, append-nil, arith, length-append, take_at, length-take-le}
use Rattle.common.specs.Tools.{no_items}
use Rattle.line.specs.Bits.{low_bits}
use Rattle.shared.specs.Preset.{zeros}
use Rattle.shared.specs.Shared.{shared, full}
use Rattle.shared.specs.Laws.Buffer.{buffer_empty}
use Rattle.bytesync.specs.declared.BlockUnit.TheVariants.{Sync}
use Rattle.bytesync.specs.declared.Syncing.{Syncing}
use Rattle.bytesync.specs.Sending.{tick_block}
use Rattle.blocks.specs.Come.{Sends, sends, ticked, filled_with, sync_bits, closed, to_come, in_time}
use Rattle.blocks.specs.Come.{Stage}
use Rattle.blocks.specs.Come.{opening, sync_head, block_bits}
use Rattle.blocks.proofs.Laws.Come.{takes, moves, moves_behind}
use Rattle.blocks.proofs.Laws.Sent.{sync_length_lem, closed_length}
use Rattle.chip.specs.declared.Chip.{Chip}
use Rattle.chip.specs.Event.{Event, DataWrite, Transmit}
use Rattle.stories.specs.Story.{Which, number, chan, happens, after}
use Rattle.stories.specs.Sent.{ticks_by, is_tick, line_of, ticks}
use Rattle.history.specs.Sending.Events.{tick_counts, write_no_tick, skip_line, skip_ticks}
use Rattle.history.specs.Sending.Events.{line_length}
use Rattle.dispatch.specs.Side.{Heeded, Good, SenderSide, side, side_of, syncing_of}
use Rattle.dispatch.specs.Events.{tick_side, tick_bit, write_side}
use Rattle.dispatch.specs.Statement.{syncs_of, Start, InTime, over, still, writes}
use Rattle.dispatch.specs.Statement.{writes_behind, ticking, block_ticks, BlockSent}
use Rattle.dispatch.specs.Statement.{BlockBegun}

-- behind a story: what was sent and what is to come are what was to come
pub record Conserved (w : Which) (c : Chip) (st : List Event) (h : Heeded) (s : Sends)
    (rest tail left more : List ℕ) : Type 0 where
  pub last : Sends
  pub there : side_of w (after c st) ≡ side last h
  pub stage : Stage last left more
  pub whole : line_of w c st ++ to_come h.syncing last left more ≡ to_come h.syncing s rest tail

-- a story that begins with an event that is no tick, from what is so behind it
skip : (w : Which) (c : Chip) (e : Event) (st : List Event) (h : Heeded) (s t : Sends)
    (rest tail wait late left more : List ℕ) → is_tick w e ≡ false
    → to_come h.syncing s rest tail ≡ to_come h.syncing t wait late
    → Conserved w (happens c e).chip st h t wait late left more
    → Conserved w c (e ∷ st) h s rest tail left more
unfolding after
skip w c e st h s t rest tail wait late left more z q k = record {
  last = k.last;
  there = k.there;
  stage = k.stage;
  whole =
      ap (λ (l : List Bool). l ++ to_come h.syncing k.last left more) (skip_line w c e st z)
      ∙ k.whole ∙ sym q;
}

pub conserved : (w : Which) {left more : List ℕ} {c : Chip} {rest tail : List ℕ} {st : List Event}
    → InTime w left more c rest tail st → (h : Heeded) → Good h → (s : Sends)
    → side_of w c ≡ side s h → Stage s rest tail
    → ticks w st ≤ length (to_come h.syncing s rest tail)
    → Conserved w c st h s rest tail left more
unfolding line_of ticks after
conserved w over h d s e g l = record { last = s; there = e; stage = g; whole = refl }
conserved w {left} {more} (still {c = c} {rest = rest} {tail = tail} {e = x} {st = st} r k i)
    h d s e g l =
    let z = ap ticks_by r in
    skip w c x st h s s rest tail rest tail left more z refl
    (conserved w i h d s (k ∙ e) g (omega (arith, skip_ticks w x st z)))
conserved w {left} {more} (writes {c = c} {v = v} {rest = rest} {tail = tail} {st = st} f i)
    h d s e g l =
    let m = moves h.syncing g (sym (ap (λ (x : SenderSide). full x.sender.shared) e) ∙ f) in
    let z = write_no_tick w v in
    skip w c (DataWrite (number w) v) st h s (filled_with s v) (v ∷ rest) tail rest tail left more z
    m.0
    (conserved w i h d (filled_with s v)
    (write_side w c v ∙ ap (λ (x : SenderSide). side (filled_with x.sender v) x.heeds) e)
    m.1
    (omega (arith, ap length m.0, skip_ticks w (DataWrite (number w) v) st z)))
conserved w {left} {more}
    (writes_behind {c = c} {v = v} {rest = rest} {tail = tail} {st = st} b f i)
    h d s e g l =
    let m = moves_behind h.syncing g
    (sym (ap (λ (x : SenderSide). x.sender.shared.latch) e) ∙ b)
    (sym (ap (λ (x : SenderSide). full x.sender.shared) e) ∙ f) in
    let z = write_no_tick w v in
    skip w c (DataWrite (number w) v) st h s (filled_with s v) rest (v ∷ tail) rest tail left more z
    m.0
    (conserved w i h d (filled_with s v)
    (write_side w c v ∙ ap (λ (x : SenderSide). side (filled_with x.sender v) x.heeds) e)
    m.1
    (omega (arith, ap length m.0, skip_ticks w (DataWrite (number w) v) st z)))
conserved w {left} {more} (ticking {c = c} {rest = rest} {tail = tail} {st = st} f i) h d s e g l =
    let o = rw (tick_counts w) at l in
    let y = h.syncing in
    let good = subst Good (sym (ap (λ (x : SenderSide). x.heeds) e)) d in
    let timely = ap (λ (x : SenderSide). in_time x.sender rest tail) (sym e) ∙ f in
    let t = takes y d.syncing g timely (omega arith) in
    let next = (happens c (Transmit (number w))).chip in
    let bit = (tick_block y s.unit s.shared).bit in
    let there : side_of w next ≡ side (ticked y s) h =
    tick_side w c good
    ∙ ap (λ (x : SenderSide). side (ticked x.heeds.syncing x.sender) x.heeds) e in
    let k = conserved w i h d (ticked y s) there t.stage (omega (arith, ap length t.head)) in
    record {
      last = k.last;
      there = k.there;
      stage = k.stage;
      whole =
          ap (λ (b : List Bool). (b ++ line_of w next st) ++ to_come y k.last left more)
          (tick_bit w c good ∙ ap (λ (x : SenderSide).
          (tick_block x.heeds.syncing x.sender.unit x.sender.shared).bit ∷ []) e)
          ∙ ap (λ (b : List Bool). bit ∷ b) k.whole ∙ sym t.head;
    }

-- From the start

abbrev start_at : ℕ → ℕ → Sends
start_at n x = sends (Sync n x) (shared None false zeros)

start_side : (w : Which) (c : Chip) (p : ℕ) (s : Start w c p)
    → side_of w c ≡ side (start_at s.n s.x) (side_of w c).heeds
start_side w c p s =
    let k = (chan w c).sender.shared in
    λ i. side (sends (s.sync i) (shared (buffer_empty k s.empty i) (s.cleared i) (s.preset i)))
    (side_of w c).heeds

head_length : (w : Which) (c : Chip) (p : ℕ) → Start w c p → length (sync_head (syncs_of w c) p) ≡ p
head_length w c p s =
    let y = syncs_of w c in
    let i = s.inside in
    let m = sync_length_lem y in
    length-take-le p (sync_bits y) (omega arith)

module _ (w : Which) (c : Chip) (p v : ℕ) (vs tail left more : List ℕ) (st : List Event)
    (s : Start w c p) (i : InTime w left more c (v ∷ vs) tail st)
    (l : p + ticks w st ≤ block_ticks (syncs_of w c) (v ∷ vs) tail) where
  abbrev g : Syncing
  g = syncing_of w c

  abbrev from : Sends
  from = start_at s.n s.x

  to_come_lem : sync_head (syncs_of w c) p ++ to_come g from (v ∷ vs) tail ≡ block_bits g (v ∷ vs) tail
  to_come_lem =
      sym (append_assoc (sync_head (syncs_of w c) p) (low_bits s.n s.x)
      (closed g zeros (v ∷ vs) tail))
      ∙ ap (λ (x : List Bool). x ++ closed g zeros (v ∷ vs) tail) s.left

  block_length : length (block_bits g (v ∷ vs) tail) ≡ block_ticks (syncs_of w c) (v ∷ vs) tail
  block_length =
      let a = length-append (sync_bits (syncs_of w c)) (closed g zeros (v ∷ vs) tail) in
      let b = sync_length_lem (syncs_of w c) in
      let d = closed_length g zeros (v ∷ vs) tail in
      omega arith

  pub kept : Conserved w c st (side_of w c).heeds from (v ∷ vs) tail left more
  kept =
      let a = length-append (sync_head (syncs_of w c) p) (to_come g from (v ∷ vs) tail) in
      let d = head_length w c p s in
      let e = ap length to_come_lem in
      let f = block_length in
      conserved w i (side_of w c).heeds s.settings from (start_side w c p s)
      (opening s.n s.x None zeros (v ∷ vs) tail tt) (omega arith)

  pub sent_whole : (sync_head (syncs_of w c) p ++ line_of w c st)
      ++ to_come g kept.last left more ≡ block_bits g (v ∷ vs) tail
  sent_whole =
      append_assoc (sync_head (syncs_of w c) p) (line_of w c st) (to_come g kept.last left more)
      ∙ ap (λ (x : List Bool). sync_head (syncs_of w c) p ++ x) kept.whole ∙ to_come_lem

  pub sent_length : length (sync_head (syncs_of w c) p ++ line_of w c st) ≡ p + ticks w st
  sent_length =
      omega (
        arith,
        length-append (sync_head (syncs_of w c) p) (line_of w c st),
        head_length w c p s,
        line_length w c st,
      )

  -- when all ticks have come nothing is to come
  pub all_come : p + ticks w st ≡ block_ticks (syncs_of w c) (v ∷ vs) tail
      → to_come g kept.last left more ≡ []
  all_come n =
      let t = to_come g kept.last left more in
      let sent = sync_head (syncs_of w c) p ++ line_of w c st in
      no_items t (omega (
        arith,
        length-append sent t,
        ap length sent_whole,
        block_length,
        sent_length,
      ))

pub block_begun : BlockBegun
block_begun w c p v vs tail left more st s i l =
    let sent = sync_head (syncs_of w c) p ++ line_of w c st in
    let t = to_come (syncing_of w c) (kept w c p v vs tail left more st s i l).last left more in
    sym (take_at sent t (p + ticks w st) (sent_length w c p v vs tail left more st s i l))
    ∙ ap (take (p + ticks w st)) (sent_whole w c p v vs tail left more st s i l)

pub block_sent : BlockSent
block_sent w c p v vs tail st s i n =
    let l : p + ticks w st ≤ block_ticks (syncs_of w c) (v ∷ vs) tail = omega arith in
    let sent = sync_head (syncs_of w c) p ++ line_of w c st in
    sym (append-nil sent)
    ∙ ap (λ (x : List Bool). sent ++ x) (sym (all_come w c p v vs tail [] [] st s i l n))
    ∙ sent_whole w c p v vs tail [] [] st s i l
