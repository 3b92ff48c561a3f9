-- Off: the unit under way ends, then marks; latch, buffer and check stay. Assumes nothing.
use Rattle.std.specs.Prelude.{◌≡◌, Bool, false, ℕ, zero, suc, ◌+◌, ◌/◌, replicate, if◌then◌else◌}
use Rattle.std.proofs.Math.Path.{refl, ap}
use Rattle.std.proofs.Common.{◌∙◌, arith}
use Rattle.std.proofs.Math.Bool.{true}
use mathlib.Core.List.{List, [], ◌∷◌, ◌++◌}
use Rattle.line.specs.Bits.{odd, low_bits}
use Rattle.line.specs.Check.{top, shifted, top_bits}
use Rattle.shared.specs.declared.Shared.{Shared}
use Rattle.bytesync.specs.declared.BlockUnit.{BlockUnit}
use Rattle.bytesync.specs.declared.BlockUnit.TheVariants.{Mark, Sync, Byte, Check}
use Rattle.bytesync.specs.declared.Syncing.{Syncing}
use Rattle.bytesync.specs.declared.Synced.{Synced}
use Rattle.bytesync.specs.Sending.{sent_bit, start_mark, following, tick_block}
use Rattle.bytesync.specs.Within.{unit_left}
use Rattle.blocks.specs.Come.{sends, Tick, acts_line, last_of}
use Rattle.blocks.proofs.Laws.Come.{tick_sync, tick_byte, tick_check}

-- what is left of the unit under way
abbrev pub unit_bits : BlockUnit → List Bool
unit_bits Mark = []
unit_bits (Sync n v) = low_bits n v
unit_bits (Byte n v) = low_bits n v
unit_bits (Check n v) = top_bits n v

-- the line of n ticks and nothing else, and what is shared behind them
abbrev OffSends : Syncing → BlockUnit → Shared → ℕ → List Bool → Type 0
OffSends g u k n bits =
    (acts_line g (sends u k) (replicate n Tick) ≡ bits)
    × ((last_of g (sends u k) (replicate n Tick)).shared ≡ k)

module _ (g : Syncing) (off : g.on ≡ false) where
  ticks_on : (u : BlockUnit) (k : Shared) (n : ℕ) (b : Bool) (m : BlockUnit) (bits : List Bool)
      → tick_block g u k ≡ sent_bit b m k → OffSends g m k n bits
      → OffSends g u k (suc n) (b ∷ bits)
  unfolding acts_line last_of
  ticks_on u k n b m bits e h = (
    ap (λ (t : Synced). t.bit ∷ acts_line g (sends t.unit t.shared) (replicate n Tick)) e
        ∙ ap (λ (l : List Bool). b ∷ l) h.0,
    ap (λ (t : Synced). (last_of g (sends t.unit t.shared) (replicate n Tick)).shared) e ∙ h.1,
  )

  -- a unit of which nothing is left
  next_off : (u : BlockUnit) (k : Shared)
      → (if g.on then following g u k else start_mark k) ≡ sent_bit true Mark k
  next_off u k = ap (λ (o : Bool). if o then following g u k else start_mark k) off

  marks : (k : Shared) (j : ℕ) → OffSends g Mark k j (replicate j true)
  marks k zero = (unfold acts_line in refl, unfold last_of in refl)
  marks k (suc j) =
      ticks_on Mark k j true Mark (replicate j true) (unfold tick_block in (next_off Mark k))
      (marks k j)

  -- a unit that has ended, and marks
  ended : (u : BlockUnit) (k : Shared) (j : ℕ) → tick_block g u k ≡ sent_bit true Mark k
      → OffSends g u k j (replicate j true)
  ended u k zero e = (unfold acts_line in refl, unfold last_of in refl)
  ended u k (suc j) e = ticks_on u k j true Mark (replicate j true) e (marks k j)

  -- a unit of any kind, by its bits and its ticks
  unit_off : (of : ℕ → ℕ → BlockUnit) (bit : ℕ → Bool) (shift : ℕ → ℕ) (bits : ℕ → ℕ → List Bool)
      → ((v : ℕ) → bits 0 v ≡ []) → ((n v : ℕ) → bits (suc n) v ≡ bit v ∷ bits n (shift v))
      → ((v : ℕ) (k : Shared) → tick_block g (of 0 v) k ≡ sent_bit true Mark k)
      → ((k : Shared) (n v : ℕ) → tick_block g (of (suc n) v) k ≡ sent_bit (bit v) (of n (shift v)) k)
      → (n v : ℕ) (k : Shared) (j : ℕ)
      → OffSends g (of n v) k (n + j) (bits n v ++ replicate j true)
  unit_off of bit shift bits a b c d zero v k j =
      let z : 0 + j ≡ j = omega arith in rw (z, a v) (ended (of 0 v) k j (c v k))
  unit_off of bit shift bits a b c d (suc n) v k j =
      let z : suc n + j ≡ suc (n + j) = omega arith in
      rw (z, b n v) (ticks_on (of (suc n) v) k (n + j) (bit v) (of n (shift v))
      (bits n (shift v) ++ replicate j true) (d k n v)
      (unit_off of bit shift bits a b c d n (shift v) k j))

  -- "Off lets the unit under way end; latch and buffer stay"
  pub off_ends : (u : BlockUnit) (k : Shared) (j : ℕ)
      → OffSends g u k (unit_left u + j) (unit_bits u ++ replicate j true)
  off_ends Mark k j = let z : 0 + j ≡ j = omega arith in rw z (marks k j)
  off_ends (Sync n v) k j =
      unit_off Sync odd (λ x. x / 2) low_bits (λ x. unfold low_bits in refl)
      (λ m x. unfold low_bits in refl) (λ x l. unfold tick_block in (next_off (Sync 0 x) l))
      (tick_sync g) n v k j
  off_ends (Byte n v) k j =
      unit_off Byte odd (λ x. x / 2) low_bits (λ x. unfold low_bits in refl)
      (λ m x. unfold low_bits in refl) (λ x l. unfold tick_block in (next_off (Byte 0 x) l))
      (tick_byte g) n v k j
  off_ends (Check n v) k j =
      unit_off Check top shifted top_bits (λ x. unfold top_bits in refl)
      (λ m x. unfold top_bits in refl) (λ x l. unfold tick_block in (next_off (Check 0 x) l))
      (tick_check g) n v k j
