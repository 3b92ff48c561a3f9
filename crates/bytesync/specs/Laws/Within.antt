-- A tick for which a test of Within holds is the form of Within. Assumes nothing.
use Rattle.std.specs.Prelude.{◌≡◌, refl, ◌≢◌, Bool, true, false, not, ℕ, eqb, ltb}
use Rattle.common.specs.Tools.{tests, void, both_left, both_right, not_true}
use Rattle.shared.specs.declared.Shared.{Shared}
use Rattle.bytesync.specs.declared.BlockUnit.{BlockUnit}
use Rattle.bytesync.specs.declared.BlockUnit.TheVariants.{Mark, Sync, Byte, Check}
use Rattle.bytesync.specs.declared.Syncing.{Syncing}
use Rattle.bytesync.specs.declared.Matching.{Matching}
use Rattle.bytesync.specs.declared.Reception.{Reception}
use Rattle.bytesync.specs.Sending.{next, tick_block}
use Rattle.bytesync.specs.Hearing.{unmatched, last_bit, assembling, hear_block}
use Rattle.bytesync.specs.Within.{unit_left, going_on, within, tick_within, hears_on, moved_on}

-- a unit that has ended, and one that has a bit left
pub ended : (g : Syncing) (u : BlockUnit) (k : Shared) → unit_left u ≡ 0
    → tick_block g u k ≡ next g u k
unfolding tick_block
ended g Mark k e = refl
ended g (Sync n v) k e = simp (tests, e)
ended g (Byte n v) k e = simp (tests, e)
ended g (Check n v) k e = simp (tests, e)

pub under_way_lem : (g : Syncing) (u : BlockUnit) (k : Shared) → unit_left u ≢ 0
    → tick_block g u k ≡ going_on u k
unfolding tick_block
under_way_lem g Mark k e = absurd (e refl)
under_way_lem g (Sync n v) k e = simp (tests, e)
under_way_lem g (Byte n v) k e = simp (tests, e)
under_way_lem g (Check n v) k e = simp (tests, e)

-- while a byte has bits left; it loads nothing and leaves the latch
pub block_within : (g : Syncing) (u : BlockUnit) (k : Shared) → within u ≡ true
    → tick_block g u k ≡ tick_within u k
unfolding tick_block tick_within
block_within g Mark k e = void e
block_within g (Sync n v) k e = void e
block_within g (Byte n v) k e = rw (not_true (eqb n 0) e)
block_within g (Check n v) k e = void e

pub within_loaded : (u : BlockUnit) (k : Shared) → (tick_within u k).loaded ≡ false
unfolding tick_within
within_loaded u k = refl

pub within_latch : (u : BlockUnit) (k : Shared) → (tick_within u k).shared.latch ≡ k.latch
unfolding tick_within
within_latch u k = refl

-- outside hunt, a bit that ends no character
pub hears_found : (r : Reception) → hears_on r ≡ true → r.hunt ≡ false
unfolding hears_on
hears_found r w = not_true r.hunt (both_left (not r.hunt) _ w)

pub moved_hunt : (r : Reception) (b : Bool) → (moved_on r b).hunt ≡ false
unfolding moved_on
moved_hunt r b = refl

pub hear_within : (g : Matching) (r : Reception) (c : ℕ) (b : Bool) → hears_on r ≡ true
    → hear_block g r c b ≡ unmatched (moved_on r b) c
unfolding hears_on hear_block assembling moved_on
hear_within g r c b w =
    let h = not_true r.hunt (both_left (not r.hunt) _ w) in
    let few = both_right (not r.hunt) (ltb r.count last_bit) w in
    rw (h, few)
