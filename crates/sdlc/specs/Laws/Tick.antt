-- One equation for each clause of a tick and of an abort: later theorems go by these and never open
-- `tick_sdlc`. Assumes nothing.
use Rattle.std.specs.Prelude.{◌≡◌, true, false, not, ◌&&◌, [], ◌∷◌}
use Rattle.std.proofs.Math.Path.{refl}
use Prim.Native.Nat.{ℕ, suc, ◌-◌, ◌/◌}
use native.Mathlib.Omega.{arith}
use Rattle.std.proofs.Math.Dec.{eqb-suc-zero}
use Rattle.common.specs.Tools.{bool_or}
use Rattle.line.specs.Bits.{odd}
use Rattle.line.specs.Check.{top, shifted}
use Rattle.line.specs.Frame.{flag_bits}
use Rattle.line.specs.Insertion.{counted}
use Rattle.shared.specs.declared.Shared.{Shared}
use Rattle.shared.specs.Shared.{full, waiting_byte, latched}
use Rattle.sdlc.specs.declared.LineUnit.{LineUnit}
use Rattle.sdlc.specs.declared.LineUnit.TheVariants.{Mark, Flag, Byte, Check, Abort}
use Rattle.sdlc.specs.declared.Framing.{Framing}
use Rattle.sdlc.specs.declared.Framer.{Framer}
use Rattle.sdlc.specs.Sending.{insertion, not_counted, framer, sent_bit}
use Rattle.sdlc.specs.Sending.{start_mark, start_flag, start_byte, start_check, following, next}
use Rattle.sdlc.specs.Sending.{no_bit_left, flag_bit, going, tick_sdlc, aborting, cut_short}
use Rattle.sdlc.specs.Sending.{aborted_by}

-- A tick while a unit is under way

module _ (g : Framing) (k : Shared) where
  pub tick_owed : (u : LineUnit) (r : ℕ)
      → tick_sdlc g (framer u (insertion r true) k) ≡ sent_bit false u (insertion r false) k
  unfolding tick_sdlc
  tick_owed u r = refl

  pub tick_flag : (n r : ℕ)
      → tick_sdlc g (framer (Flag (suc n)) (insertion r false) k)
      ≡ sent_bit (flag_bit (suc n)) (Flag n) not_counted k
  unfolding tick_sdlc going
  tick_flag n r = let p : suc n - 1 ≡ n = omega arith in rw (eqb-suc-zero n, p)

  pub tick_byte : (n v r : ℕ)
      → tick_sdlc g (framer (Byte (suc n) v) (insertion r false) k)
      ≡ sent_bit (odd v) (Byte n (v / 2)) (counted r (odd v)) k
  unfolding tick_sdlc going
  tick_byte n v r = let p : suc n - 1 ≡ n = omega arith in rw (eqb-suc-zero n, p)

  pub tick_check : (n v r : ℕ)
      → tick_sdlc g (framer (Check (suc n) v) (insertion r false) k)
      ≡ sent_bit (top v) (Check n (shifted v)) (counted r (top v)) k
  unfolding tick_sdlc going
  tick_check n v r = let p : suc n - 1 ≡ n = omega arith in rw (eqb-suc-zero n, p)

  pub tick_abort : (n r : ℕ)
      → tick_sdlc g (framer (Abort (suc n)) (insertion r false) k)
      ≡ sent_bit true (Abort n) not_counted k
  unfolding tick_sdlc going
  tick_abort n r = let p : suc n - 1 ≡ n = omega arith in rw (eqb-suc-zero n, p)

-- a flag's bits, from its first
pub flag_bits_lem : flag_bit 8 ∷ flag_bit 7 ∷ flag_bit 6 ∷ flag_bit 5 ∷ flag_bit 4 ∷ flag_bit 3 ∷ flag_bit 2
    ∷ flag_bit 1 ∷ [] ≡ flag_bits
flag_bits_lem = refl

-- The tick that chooses

module _ (g : Framing) (r : ℕ) (k : Shared) where
  pub tick_chooses : (u : LineUnit) → no_bit_left u ≡ true
      → tick_sdlc g (framer u (insertion r false) k) ≡ next g u r k
  unfolding tick_sdlc going
  tick_chooses Mark e = refl
  tick_chooses (Flag n) e = rw e
  tick_chooses (Byte n v) e = rw e
  tick_chooses (Check n v) e = rw e
  tick_chooses (Abort n) e = rw e

  pub next_off : (u : LineUnit) → g.on ≡ false → next g u r k ≡ start_mark k
  next_off u h = rw h

  module _ (h : g.on ≡ true) where
    pub next_mark : next g Mark r k ≡ start_flag k
    unfolding following
    next_mark = rw h

    pub next_abort : (n : ℕ) → next g (Abort n) r k ≡ start_flag k
    unfolding following
    next_abort n = rw h

    pub next_check : (n v : ℕ) → next g (Check n v) r k ≡ start_flag k
    unfolding following
    next_check n v = rw h

    pub next_flag_full : (n : ℕ) → full k ≡ true
        → next g (Flag n) r k ≡ start_byte g r (waiting_byte k) k
    unfolding following
    next_flag_full n f = rw (h, f)

    pub next_flag_empty : (n : ℕ) → full k ≡ false → next g (Flag n) r k ≡ start_flag k
    unfolding following
    next_flag_empty n f = rw (h, f)

    pub next_byte_full : (n v : ℕ) → full k ≡ true
        → next g (Byte n v) r k ≡ start_byte g r (waiting_byte k) k
    unfolding following
    next_byte_full n v f = rw (h, f)

    pub next_byte_check : (n v : ℕ) → full k ≡ false → k.latch ≡ false → g.included ≡ true
        → next g (Byte n v) r k ≡ start_check r (latched k)
    unfolding following
    next_byte_check n v f l i = rw (h, f, l, i)

    pub next_byte_flag : (n v : ℕ) → full k ≡ false → not k.latch && g.included ≡ false
        → next g (Byte n v) r k ≡ start_flag (latched k)
    unfolding following
    next_byte_flag n v f l = rw (h, f, l)

-- Send Abort

module _ (g : Framing) (s : Framer) where
  pub abort_cuts : g.on ≡ true → aborting s.unit ≡ false → aborted_by g s ≡ cut_short s
  abort_cuts h a = rw (h, a)

  pub abort_under_way : aborting s.unit ≡ true → aborted_by g s ≡ s
  abort_under_way a = bool_or g.on (λ p. rw (p, a)) (λ p. rw p)

  pub abort_off : g.on ≡ false → aborted_by g s ≡ s
  abort_off p = rw p
