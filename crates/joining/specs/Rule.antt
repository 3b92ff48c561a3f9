-- 01, Sending: "The check: x^16+x^12+x^5+1, preset ones, complemented". 02, P3: "WR5 D2 = 1 chooses
-- x^16+x^15+x^2+1, 0 the SDLC polynomial, preset to zeros here and not complemented." What the two
-- kinds of checks differ in, and the check of a text. Assumes nothing.
use Rattle.std.specs.Prelude.{Bool, List, ℕ}
use Rattle.std.specs.Int.Bits.{bit_xor}
use Rattle.joining.specs.declared.CheckRule.{CheckRule}
use Rattle.line.specs.Bits.{text_bits}
use Rattle.line.specs.Check.{sdlc, ones, check_over}
use Rattle.bytesync.specs.Syncs.{polynomial_of}

abbrev pub sdlc_rule : CheckRule
sdlc_rule = record { polynomial = sdlc; preset = ones; complement = ones }

abbrev pub synchronous_rule : Bool → CheckRule
synchronous_rule d2 = record { polynomial = polynomial_of d2; preset = 0; complement = 0 }

-- the check of a text of bytes, as it is sent
unfoldable pub check_by : CheckRule → List ℕ → ℕ
check_by rule text =
    bit_xor (check_over rule.polynomial rule.preset (text_bits 8 text)) rule.complement
