-- What a history gives is kept by every tick. Assumes nothing.
use Rattle.std.specs.Prelude.{Bool, true, false, not, ◌&&◌, ℕ, ◌+◌, ◌≤◌, eqb, ltb, if◌then◌else◌}
use Rattle.std.proofs.Common.{arith}
use borrow.Author.Tests.{ltb-true}
use Rattle.common.specs.Tools.{if_elim, by_test, ltb_elim}
use Rattle.shared.specs.declared.Shared.{Shared}
use Rattle.shared.specs.Shared.{full}
use Rattle.bytesync.specs.declared.Syncs.{Syncs}
use Rattle.bytesync.specs.declared.BlockUnit.{BlockUnit}
use Rattle.bytesync.specs.declared.BlockUnit.TheVariants.{Mark, Sync, Byte, Check}
use Rattle.bytesync.specs.declared.Syncing.{Syncing}
use Rattle.bytesync.specs.declared.Synced.{Synced}
use Rattle.bytesync.specs.declared.Matching.{Matching}
use Rattle.bytesync.specs.declared.Reception.{Reception}
use Rattle.bytesync.specs.declared.Matched.{Matched}
use Rattle.bytesync.specs.Sending.{sync_left, byte_or_sync, underrun, following, next}
use Rattle.bytesync.specs.Sending.{tick_block}
use Rattle.bytesync.specs.Hearing.{shift_in, counted, sync_seen, hunting, last_bit, arrived}
use Rattle.bytesync.specs.Hearing.{assembling}
use Rattle.bytesync.specs.Hearing.{searching, hear_block}
use Rattle.bytesync.specs.Sound.{SoundBlockUnit, SoundReception}

-- Sending

abbrev SoundSynced : Synced → Type 0
SoundSynced t = SoundBlockUnit t.unit

left_few : (y : Syncs) → sync_left y ≤ 15
left_few y = if_elim (λ n. n ≤ 15) y.both (omega arith) (omega arith)

module _ (g : Syncing) (k : Shared) where
  either_sound : SoundSynced (byte_or_sync g k)
  either_sound = if_elim SoundSynced (full k) (omega arith) (left_few g.syncs)

  underrun_sound : SoundSynced (underrun g k)
  underrun_sound =
      if_elim SoundSynced (not k.latch && g.included) (omega arith) (left_few g.syncs)

  following_sound : (u : BlockUnit) → SoundSynced (following g u k)
  unfolding following
  following_sound Mark = left_few g.syncs
  following_sound (Sync n v) = either_sound
  following_sound (Byte n v) = if_elim SoundSynced (full k) (omega arith) underrun_sound
  following_sound (Check n v) = either_sound

  next_sound : (u : BlockUnit) → SoundSynced (next g u k)
  next_sound u = if_elim SoundSynced g.on (following_sound u) tt

  pub tick_sound : (u : BlockUnit) → SoundBlockUnit u → SoundBlockUnit (tick_block g u k).unit
  unfolding tick_block
  tick_sound Mark h = next_sound Mark
  tick_sound (Sync n v) h = if_elim SoundSynced (eqb n 0) (next_sound (Sync n v)) (omega arith)
  tick_sound (Byte n v) h = if_elim SoundSynced (eqb n 0) (next_sound (Byte n v)) (omega arith)
  tick_sound (Check n v) h = if_elim SoundSynced (eqb n 0) (next_sound (Check n v)) (omega arith)

-- Receiving

abbrev SoundMatched : Matched → Type 0
SoundMatched h = SoundReception h.reception

counted_few : (n : ℕ) → counted n ≤ 16
counted_few n =
    ltb_elim (λ t. (if t then n + 1 else 16) ≤ 16) n 16 (λ l. omega arith) (λ l. omega arith)

module _ (g : Matching) (r : Reception) (c : ℕ) (b : Bool) where
  hunting_sound : SoundMatched (hunting g r c b)
  unfolding hunting
  hunting_sound =
      if_elim SoundMatched (sync_seen g.syncs (counted r.count) (shift_in b r.bits))
      (omega arith) (counted_few r.count)

  assembling_sound : SoundMatched (assembling g r c b)
  unfolding assembling arrived
  assembling_sound =
      by_test SoundMatched (ltb r.count last_bit)
      (λ e. omega (arith, ltb-true r.count last_bit e)) (λ e. omega arith)

  pub hear_sound : SoundReception (hear_block g r c b).reception
  unfolding hear_block
  hear_sound = if_elim SoundMatched r.hunt hunting_sound assembling_sound

pub searching_sound : (h : Bool) → SoundReception (searching h)
searching_sound true = omega arith
searching_sound false = omega arith
