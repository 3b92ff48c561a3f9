-- A frame that was fed to its end leaves the sender behind the closing flag with an empty buffer:
-- the latch is set only where no byte waits, and then no byte is left to write. Assumes nothing.
use Rattle.std.specs.Prelude.{◌≡◌, refl, true, false, not, ◌&&◌, List, [], ◌∷◌, ℕ, zero, suc, length}
use Rattle.std.proofs.Common.{sym, ap, ◌∙◌, arith}
use Rattle.std.proofs.Math.Dec.{eqb-suc-zero}
use Rattle.common.specs.Tools.{bool_or, if_elim, by_test, void}
use Rattle.shared.specs.declared.Shared.{Shared}
use Rattle.shared.specs.Shared.{full}
use Rattle.sdlc.specs.declared.LineUnit.{LineUnit}
use Rattle.sdlc.specs.declared.LineUnit.TheVariants.{Mark, Flag, Byte, Check, Abort}
use Rattle.sdlc.specs.declared.Framer.{Framer}
use Rattle.sdlc.specs.declared.Framed.{Framed}
use Rattle.sdlc.specs.Sending.{following, no_bit_left, goes_on, going, tick_sdlc}
use Rattle.whole.specs.Come.{good, to_come}
use Rattle.whole.specs.Stage.{Stage, opening, in_byte, in_check, closing}
use Rattle.whole.specs.Start.{frame_ended}
use Rattle.whole.specs.Laws.Start.{unended_some}
use Rattle.feed.specs.Feeding.{takes_byte, Supplied, supply, after_ticks, flag_sent}
use Rattle.feed.specs.Laws.Feeding.{ticks_on}

-- The latch and the buffer

abbrev NoneWaits : Shared → Type 0
NoneWaits k = k.latch ≡ true → full k ≡ false

abbrev After : Framed → Type 0
After t = NoneWaits t.framer.shared

module _ (r : ℕ) (k : Shared) (e : NoneWaits k) where
  following_none : (u : LineUnit) → After (following good u r k)
  unfolding following
  following_none Mark = e
  following_none (Flag n) = if_elim After (full k) (λ l. refl) e
  following_none (Byte n v) =
      by_test After (full k) (λ f l. refl)
      (λ f. if_elim After (not k.latch && true) (λ l. f) (λ l. f))
  following_none (Check n v) = e
  following_none (Abort n) = e

  goes_on_none : (u : LineUnit) → After (goes_on u r k)
  goes_on_none Mark = e
  goes_on_none (Flag n) = e
  goes_on_none (Byte n v) = e
  goes_on_none (Check n v) = e
  goes_on_none (Abort n) = e

tick_none : (s : Framer) → NoneWaits s.shared → After (tick_sdlc good s)
unfolding tick_sdlc going
tick_none s e =
    let k = s.shared in
    let r = s.insertion.run in
    if_elim After s.insertion.owed e
    (if_elim After (no_bit_left s.unit) (following_none r k e s.unit)
    (goes_on_none r k e s.unit))

-- a byte is written only while the latch is clear
clear_yet : {s : Framer} {n v : ℕ} {rest : List ℕ} → Stage false s n (v ∷ rest)
    → s.shared.latch ≡ false
clear_yet (opening k b c n rest m p) = refl
clear_yet (in_byte k v r o b c n rest m) = refl

supply_none : {s : Framer} {n : ℕ} (rest : List ℕ) → Stage false s n rest → NoneWaits s.shared
    → NoneWaits (supply s rest).framer.shared
unfolding supply
supply_none [] g e = e
supply_none {s} (v ∷ rest) g e =
    if_elim (λ (x : Supplied). NoneWaits x.framer.shared) (takes_byte s)
    (λ l. void (sym (clear_yet g) ∙ l)) e

-- The end of the frame

pub record Rests (s : Framer) : Type 0 where
  pub behind : s ≡ flag_sent s.shared
  pub empty : full s.shared ≡ false

ended_rests : {s : Framer} {n : ℕ} {rest : List ℕ} → Stage false s n rest → NoneWaits s.shared
    → frame_ended s ≡ true → Rests s
ended_rests (opening k b c n rest m p) e h = void h
ended_rests (in_byte k v r o b c n rest m) e h = void h
ended_rests (in_check k v r o b c n) e h = void h
ended_rests (closing zero b c n) e h = record { behind = refl; empty = e refl }
ended_rests (closing (suc k) b c n) e h = void (sym (eqb-suc-zero k) ∙ h)

pub rests : (n : ℕ) {s : Framer} {m : ℕ} (rest : List ℕ) → Stage false s m rest
    → NoneWaits s.shared → length (to_come s rest) ≡ n → Rests (after_ticks n s rest)
unfolding after_ticks
rests zero {s} rest g e l =
    bool_or (frame_ended s) (ended_rests g e) (λ h. absurd (omega (arith, unended_some g h)))
rests (suc n) {s} rest g e l =
    let x = supply s rest in
    let t = ticks_on rest g (omega (arith, l)) in
    rests n x.rest t.stage (tick_none x.framer (supply_none rest g e))
    (omega (arith, l, ap length t.come))
