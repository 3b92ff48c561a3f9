-- One bit of content as the code puts it down, with the zero that it owes and without. Assumes nothing.
use mathlib.Core.Path.{◌≡◌, sym, ap, ◌∙◌}
use mathlib.Core.Bool.{true, false}
use mathlib.Core.List.{List, [], ◌∷◌}
use Prim.Native.Nat.{ℕ, suc, ◌+◌, ◌%◌}
use native.Mathlib.Omega.{arith}
use lib.ListN.{length, set}
use Rattle.line.specs.declared.Insertion.{Insertion}
use Rattle.line.specs.Bits.{odd, cells}
use Rattle.line.specs.Insertion.{counted, stuff, run_over}
use Rattle.line.specs.Laws.Bits.{odd_is}
use Rattle.pen.specs.declared.Pen.{Pen}
use Rattle.pen.specs.Pen.{sheet, pen_at, bits_put}

module _ (out : List ℕ) (p : Pen) (v : ℕ) (k : Insertion) (e : k ≡ counted p.run (odd v)) where
  pub two_long : k.owed ≡ true → length (stuff p.run (odd v ∷ [])) ≡ 2
  unfolding stuff
  two_long h = rw (sym (ap (λ (i : Insertion). i.owed) e) ∙ h)

  pub two_put : k.owed ≡ true
      → sheet (set (set out p.at (v % 2)) (p.at + 1) 0) (pen_at (p.at + 1 + 1) k.run)
      ≡ bits_put (sheet out p) (odd v ∷ [])
  unfolding bits_put stuff run_over cells
  two_put h =
      let two : p.at + 1 + 1 ≡ p.at + 2 = omega arith in
      let one : p.at + 1 ≡ suc p.at = omega arith in
      rw (
        two,
        sym (ap (λ (i : Insertion). i.owed) e) ∙ h,
        ap (λ (i : Insertion). i.run) e,
        odd_is v,
        one,
      )

  pub one_put : k.owed ≡ false
      → sheet (set out p.at (v % 2)) (pen_at (p.at + 1) k.run) ≡ bits_put (sheet out p) (odd v ∷ [])
  unfolding bits_put stuff run_over cells
  one_put h = rw (sym (ap (λ (i : Insertion). i.owed) e) ∙ h, ap (λ (i : Insertion). i.run) e, odd_is v)
