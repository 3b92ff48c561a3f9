-- A number's digits, put from the first on: the last is put behind the others, where there are others. Assumes nothing.
use Rattle.std.proofs.Common.{◌≡◌, refl, ◌≢◌, ℕ, zero, suc, ◌-◌, ◌/◌, ◌<◌, ◌≤◌, arith, sub-one, lt-ltb, le-ltb}
use Rattle.std.proofs.lemmas.Grind.{fold-append}
use Rattle.text.specs.declared.Line.{Line}
use Rattle.text.specs.Text.{with, with_all, digit_of, decimal}

pub decimal_none : (l : Line) (n v : ℕ) → n ≡ 0 → with_all l (decimal n v) ≡ l
unfolding decimal
decimal_none l zero v e = refl
decimal_none l (suc n) v e = absurd (omega arith)

pub decimal_one : (l : Line) (n v : ℕ) → n ≢ 0 → v < 10 → with_all l (decimal n v) ≡ with l (digit_of v)
unfolding decimal
decimal_one l zero v e h = absurd (e refl)
decimal_one l (suc n) v e h = rw (lt-ltb v 10 h)

pub decimal_more : (l : Line) (n v : ℕ) → n ≢ 0 → 10 ≤ v
    → with_all l (decimal n v) ≡ with (with_all l (decimal (n - 1) (v / 10))) (digit_of v)
unfolding decimal
decimal_more l zero v e h = absurd (e refl)
decimal_more l (suc n) v e h = rw (le-ltb v 10 h, sub-one, fold-append)
