-- 02, P10: "combine a heading with a body". Assumes nothing.
use Rattle.std.specs.Prelude.{◌≡◌, List, ◌++◌, ℕ, length}
use Rattle.std.specs.Int.Bits.{bit_xor}
use Rattle.joining.specs.declared.CheckRule.{CheckRule}
use Rattle.joining.specs.Rule.{check_by}
use Rattle.advance.specs.Advance.{advanced}

-- the heading's register and the preset, from which the body's started, differ; over the body's k
-- bytes that difference goes as over zeros
unfoldable pub joined_by : CheckRule → ℕ → ℕ → ℕ → ℕ
joined_by rule heading body k =
    bit_xor body
    (advanced rule.polynomial (bit_xor (bit_xor heading rule.complement) rule.preset) k)

-- whatever two texts have these checks, the second of k bytes: this is the check of the two put
-- together
abbrev pub Joins : CheckRule → ℕ → ℕ → ℕ → ℕ → Type 0
Joins rule heading body k check =
    (front back : List ℕ)
    → check_by rule front ≡ heading → check_by rule back ≡ body → length back ≡ k
    → check ≡ check_by rule (front ++ back)
