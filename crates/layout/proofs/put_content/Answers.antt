-- `layout::put_content` meets its contract: the note and then its check are one text. Assumes nothing.
use mathlib.Core.Path.{◌≡◌, sym, ap, ap₂, ◌∙◌}
use mathlib.Core.List.{List, [], ◌∷◌, ◌++◌}
use Prim.Native.Nat.{ℕ, ◌/◌, ◌%◌, ◌<◌}
use native.Mathlib.Omega.{arith}
use lib.Bits.{bit_xor}
use Rattle.std.specs.Int.{w16, to_le_bytes}
use Rattle.std.proofs.lemmas.Nat.{xor_lt}
use Rattle.line.specs.Check.{ones}
use Rattle.line.specs.Frame.{with_check}
use Rattle.pen.specs.declared.Pen.{Pen}
use Rattle.pen.specs.Pen.{Sheet, sheet, pen_at}
use Rattle.layout.specs.Layout.{bytes_put, mirrored_over}
use Rattle.layout.specs.Laws.{bytes_join, over_lt, check_behind}
use Rattle.layout.proofs.put_content.Goals as goal

pub returns : goal.returns
returns c =
    let second = c.put_text-end in
    let first = c.put_text-content in
    let a = c.args in
    let note = a.note.now in
    let start = sheet a.out.now (pen_at 8 0) in
    let two = c.to_le_bytes.result in
    let check = bit_xor (mirrored_over ones note) ones in
    let small : check < 65536 = xor_lt 16 (mirrored_over ones note) ones (over_lt ones note (omega arith)) (omega arith) in
    let high : check / 256 % 256 ≡ check / 256 = omega (arith, small) in
    let sent : two ≡ check % 256 ∷ check / 256 ∷ [] =
    c.to_le_bytes.ensures ∙ ap (λ (m : ℕ). to_le_bytes w16 (bit_xor m ones)) first.ensures.m_value
    ∙ ap (λ (v : ℕ). check % 256 ∷ v ∷ []) high in
    let behind = ap₂ sheet first.ensures.out_after first.ensures.pen_value in
    let all : bytes_put (sheet first.new.out first.result.pen) two
    ≡ bytes_put start (with_check note) =
    ap (λ (s : Sheet). bytes_put s two) behind
    ∙ sym (bytes_join start note two)
    ∙ ap (bytes_put start) (ap (λ (l : List ℕ). note ++ l) sent ∙ check_behind note) in
    record {
      value = ap (λ (q : Pen). q.at) second.ensures.pen_value ∙ ap (λ (s : Sheet). s.pen.at) all;
      out_after = second.ensures.out_after ∙ ap (λ (s : Sheet). s.buffer) all;
    }
