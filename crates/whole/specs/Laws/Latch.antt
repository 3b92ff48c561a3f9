-- The underrun latch: a tick never lowers it, the tick that finds the line dry sets it, and while
-- it is clear a tick leaves an opening flag or a byte, or sets it. Assumes nothing.
use Rattle.std.specs.Prelude.{◌≡◌, None, true, false, not, ◌&&◌, ℕ, eqb}
use Rattle.std.proofs.Math.Path.{refl}
use Rattle.std.proofs.Common.{ap, ◌∙◌}
use Rattle.common.specs.Tools.{if_elim, void}
use Rattle.shared.specs.declared.Shared.{Shared}
use Rattle.shared.specs.Shared.{shared, full}
use Rattle.sdlc.specs.declared.LineUnit.{LineUnit}
use Rattle.sdlc.specs.declared.LineUnit.TheVariants.{Mark, Flag, Byte, Check, Abort}
use Rattle.sdlc.specs.declared.Framing.{Framing}
use Rattle.sdlc.specs.declared.Framer.{Framer}
use Rattle.sdlc.specs.declared.Framed.{Framed}
use Rattle.sdlc.specs.Sending.{insertion, framer, following, next, going, tick_sdlc}
use Rattle.sdlc.specs.Laws.Tick.{tick_chooses, next_byte_check}
use Rattle.whole.specs.Come.{good, opens}

-- The tick that finds the line dry

pub dry_sets : (v r c : ℕ)
    → (tick_sdlc good
    (framer (Byte 0 v) (insertion r false) (shared None false c))).framer.shared.latch
    ≡ true
dry_sets v r c =
    let k = shared None false c in
    ap (λ (t : Framed). t.framer.shared.latch)
    (tick_chooses good r k (Byte 0 v) refl ∙ next_byte_check good r k refl 0 v refl refl refl)

-- A tick never lowers the latch

abbrev Set : Framed → Type 0
Set t = t.framer.shared.latch ≡ true

module _ (g : Framing) (r : ℕ) (k : Shared) (l : k.latch ≡ true) where
  following_set : (u : LineUnit) → Set (following g u r k)
  unfolding following
  following_set Mark = l
  following_set (Flag n) = if_elim Set (full k) l l
  following_set (Byte n v) =
      if_elim Set (full k) l (if_elim Set (not k.latch && g.included) refl refl)
  following_set (Check n v) = l
  following_set (Abort n) = l

  next_set : (u : LineUnit) → Set (next g u r k)
  next_set u = if_elim Set g.on (following_set u) l

  going_set : (u : LineUnit) → Set (going g u r k)
  unfolding going
  going_set Mark = next_set Mark
  going_set (Flag n) = if_elim Set (eqb n 0) (next_set (Flag n)) l
  going_set (Byte n v) = if_elim Set (eqb n 0) (next_set (Byte n v)) l
  going_set (Check n v) = if_elim Set (eqb n 0) (next_set (Check n v)) l
  going_set (Abort n) = if_elim Set (eqb n 0) (next_set (Abort n)) l

pub tick_set : (g : Framing) (s : Framer) → s.shared.latch ≡ true
    → (tick_sdlc g s).framer.shared.latch ≡ true
unfolding tick_sdlc
tick_set g s l =
    if_elim Set s.insertion.owed l (going_set g s.insertion.run s.shared l s.unit)

-- While it is clear

pub data Went (s : Framer) : Type 0 where
  opened : s.shared.latch ≡ false → opens s.unit ≡ true → Went s
  latched : s.shared.latch ≡ true → Went s

abbrev WentOn : Framed → Type 0
WentOn t = Went t.framer

module _ (r : ℕ) (k : Shared) (l : k.latch ≡ false) where
  next_went : (u : LineUnit) → opens u ≡ true → WentOn (next good u r k)
  unfolding following
  next_went Mark o = void o
  next_went (Flag n) o = if_elim WentOn (full k) (opened l refl) (opened l refl)
  next_went (Byte n v) o =
      if_elim WentOn (full k) (opened l refl)
      (if_elim WentOn (not k.latch && true) (latched refl) (latched refl))
  next_went (Check n v) o = void o
  next_went (Abort n) o = void o

  going_went : (u : LineUnit) → opens u ≡ true → WentOn (going good u r k)
  unfolding going
  going_went Mark o = void o
  going_went (Flag n) o = if_elim WentOn (eqb n 0) (next_went (Flag n) refl) (opened l refl)
  going_went (Byte n v) o = if_elim WentOn (eqb n 0) (next_went (Byte n v) refl) (opened l refl)
  going_went (Check n v) o = void o
  going_went (Abort n) o = void o

pub tick_went : (s : Framer) → s.shared.latch ≡ false → opens s.unit ≡ true
    → Went (tick_sdlc good s).framer
unfolding tick_sdlc
tick_went s l o =
    if_elim WentOn s.insertion.owed (opened l o)
    (going_went s.insertion.run s.shared l s.unit o)
