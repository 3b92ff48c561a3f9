-- The sender's half, over stories in which everything else may happen too, for either channel of
-- any chip and both polynomials. Proofs: Block, Shown, Chain. Assumes nothing.
use Rattle.std.specs.Prelude.{◌≡◌, true, false, List, [], ◌∷◌, ◌++◌, ℕ, ◌+◌, ◌*◌, ◌≤◌, length, take, None}
use Rattle.line.specs.Bits.{low_bits}
use Rattle.line.specs.Check.{top, shifted}
use Rattle.shared.specs.Preset.{zeros}
use Rattle.bytesync.specs.declared.Syncs.{Syncs}
use Rattle.bytesync.specs.declared.BlockUnit.TheVariants.{Sync, Byte, Check}
use Rattle.blocks.specs.Come.{sync_bits, in_time, sync_length, sync_head, block_bits}
use Rattle.chip.specs.declared.Chip.{Chip}
use Rattle.chip.specs.Event.{Event, DataWrite, Transmit}
use Rattle.stories.specs.Story.{Which, number, chan, happens, after}
use Rattle.stories.specs.Sent.{Else, to_sender, line_of, ticks, d6}
use Rattle.history.specs.Sending.Side.{full_of, latch_of}
use Rattle.history.specs.Sending.Stories.{anew}
use Rattle.dispatch.specs.Side.{Good, side_of, syncing_of}

abbrev pub syncs_of : Which → Chip → Syncs
syncs_of w c = (syncing_of w c).syncs

-- "From a sync with the sender on .., latch clear, check preset and included", buffer empty: p bits
-- of the sync are sent, and n, those of x, are left
pub record Start (w : Which) (c : Chip) (p : ℕ) : Type 0 where
  pub inside : p ≤ sync_length (syncs_of w c)
  pub n : ℕ
  pub x : ℕ
  pub sync : (chan w c).sender.block ≡ Sync n x
  pub left : sync_head (syncs_of w c) p ++ low_bits n x ≡ sync_bits (syncs_of w c)
  pub empty : full_of w c ≡ false
  pub preset : (chan w c).sender.shared.check ≡ zeros
  pub cleared : latch_of w c ≡ false
  pub settings : Good (side_of w c).heeds

-- "n bytes written in time", and m straight behind the check: each into an empty buffer, those
-- behind the check once the latch is set, and no tick that chooses a unit comes too early; `left`
-- and `more` are unwritten when the story ends. Whatever leaves the sender's side as it is may
-- happen at any moment
pub data InTime (w : Which) (left more : List ℕ) : Chip → List ℕ → List ℕ → List Event
    → Type 0 where
  over : {c : Chip} → InTime w left more c left more []
  still : {c : Chip} {rest tail : List ℕ} {e : Event} {st : List Event} → to_sender w e ≡ Else
      → side_of w (happens c e).chip ≡ side_of w c
      → InTime w left more (happens c e).chip rest tail st
      → InTime w left more c rest tail (e ∷ st)
  writes : {c : Chip} {v : ℕ} {rest tail : List ℕ} {st : List Event} → full_of w c ≡ false
      → InTime w left more (happens c (DataWrite (number w) v)).chip rest tail st
      → InTime w left more c (v ∷ rest) tail (DataWrite (number w) v ∷ st)
  writes_behind : {c : Chip} {v : ℕ} {rest tail : List ℕ} {st : List Event} → latch_of w c ≡ true
      → full_of w c ≡ false
      → InTime w left more (happens c (DataWrite (number w) v)).chip rest tail st
      → InTime w left more c rest (v ∷ tail) (DataWrite (number w) v ∷ st)
  ticking : {c : Chip} {rest tail : List ℕ} {st : List Event}
      → in_time (side_of w c).sender rest tail ≡ true
      → InTime w left more (happens c (Transmit (number w))).chip rest tail st
      → InTime w left more c rest tail (Transmit (number w) ∷ st)

-- both syncs, n bytes, the check, m bytes
abbrev pub block_ticks : Syncs → List ℕ → List ℕ → ℕ
block_ticks y vs tail = 2 * sync_length y + 8 * length vs + 16 + 8 * length tail

-- "the line is that sync, the bytes, their check, a sync", with m bytes straight behind the check
abbrev pub BlockSent : Type 0
BlockSent =
    (w : Which) (c : Chip) (p v : ℕ) (vs tail : List ℕ) (st : List Event) → Start w c p
    → InTime w [] [] c (v ∷ vs) tail st
    → p + ticks w st ≡ block_ticks (syncs_of w c) (v ∷ vs) tail
    → sync_head (syncs_of w c) p ++ line_of w c st ≡ block_bits (syncing_of w c) (v ∷ vs) tail

-- at every moment before that: so much of it is sent
abbrev pub BlockBegun : Type 0
BlockBegun =
    (w : Which) (c : Chip) (p v : ℕ) (vs tail left more : List ℕ) (st : List Event) → Start w c p
    → InTime w left more c (v ∷ vs) tail st
    → p + ticks w st ≤ block_ticks (syncs_of w c) (v ∷ vs) tail
    → sync_head (syncs_of w c) p ++ line_of w c st
    ≡ take (p + ticks w st) (block_bits (syncing_of w c) (v ∷ vs) tail)

-- the byte under way has ended, no other waits, and the latch is clear
pub record RunsDry (w : Which) (c : Chip) : Type 0 where
  pub last : ℕ
  pub byte : (chan w c).sender.block ≡ Byte 0 last
  pub empty : full_of w c ≡ false
  pub cleared : latch_of w c ≡ false
  pub settings : Good (side_of w c).heeds

-- "the latch is set and shown on the check's first bit", unless status was latched
pub record CheckBegins (w : Which) (c d : Chip) : Type 0 where
  pub line : line_of w c (Transmit (number w) ∷ []) ≡ top (chan w c).sender.shared.check ∷ []
  pub unit : (chan w d).sender.block ≡ Check 15 (shifted (chan w c).sender.shared.check)
  pub set : latch_of w d ≡ true
  pub shown : (chan w c).status.latched ≡ None → (chan w c).pointer ≡ 0 → d6 w d ≡ true

abbrev pub LatchShown : Type 0
LatchShown =
    (w : Which) (c : Chip) → RunsDry w c
    → CheckBegins w c (happens c (Transmit (number w))).chip

-- Two blocks in a row

-- where a block has ended the next one starts, its check preset and the latch cleared, and its line
-- is what follows
abbrev pub NextBlock : Type 0
NextBlock =
    (w : Which) (c : Chip) (p v : ℕ) (vs tail : List ℕ) (st : List Event) → Start w c p
    → InTime w [] [] c (v ∷ vs) tail st
    → p + ticks w st ≡ block_ticks (syncs_of w c) (v ∷ vs) tail → (chan w (after c st)).pointer ≡ 0
    → Start w (after (after c st) (anew w)) (sync_length (syncs_of w c))
