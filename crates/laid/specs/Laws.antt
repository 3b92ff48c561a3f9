-- Laws of the layout by tables: by the right ones, where there is room for the frame, the frame is
-- what is laid out, and nothing behind it is touched. Assumes nothing.
use Rattle.std.specs.Prelude.{◌≡◌, Bool, ℕ, ◌+◌, ◌-◌, ◌*◌, ◌≤◌}
use Rattle.std.proofs.Math.Path.{sym, ap}
use Rattle.std.proofs.Common.{◌∙◌, zero-add}
use mathlib.Core.List.{List, ◌++◌}
use native.Mathlib.Omega.{arith}
use Rattle.std.proofs.Math.ListN.{length, drop}
use Rattle.std.proofs.lemmas.List.Edits.{sets}
use Rattle.std.proofs.Math.Seq.{sets-eq, length-sets}
use Rattle.line.specs.Bits.{cells}
use Rattle.line.specs.Insertion.{stuff}
use Rattle.line.specs.Frame.{flag_bits, content_of, frame, zeros_of, ticks_of}
use Rattle.line.specs.Laws.Bits.{cells_length}
use Rattle.line.specs.Laws.Insertion.{stuff_length}
use Rattle.line.specs.Laws.Frame.{content_length, ticks_are}
use Rattle.pen.specs.Pen.{flag_put}
use Rattle.pen.specs.Laws.{cells_sets, flag_fits}
use Rattle.table.specs.Table.{check_table}
use Rattle.stamp.specs.Stamp.{stamp_table, four_table}
use Rattle.bytewise.specs.Bytewise.{Plate}
use Rattle.tabled.specs.Tabled.{content_stamped}
use Rattle.tabled.specs.Laws.{content_at_lem, content_size, content_line}
use Rattle.laid.specs.Laid.{end_stamped, frame_stamped}

module _ (buffer note : List ℕ) (fits : ticks_of note ≤ length buffer) where
  abbrev opening : List ℕ
  opening = sets buffer 0 (cells flag_bits)

  abbrev inner : List Bool
  inner = stuff 0 (content_of note)

  abbrev content : Plate
  content = content_stamped check_table stamp_table four_table opening note

  opened : flag_put buffer 0 ≡ opening
  opened = flag_fits buffer 0 (omega (arith, ticks_are note))

  long : length inner ≡ 8 * (length note + 2) + zeros_of note
  long = omega (arith, stuff_length 0 (content_of note), content_length note)

  room : 8 + length inner + 8 ≤ length opening
  room = omega (arith, long, ticks_are note, length-sets buffer 0 (cells flag_bits))

  -- where the closing flag stands: the zeros inserted are what the content takes beyond its own
  -- bits
  pub end_is : end_stamped check_table stamp_table four_table buffer note
      ≡ 8 + 8 * (length note + 2) + zeros_of note
  unfolding end_stamped
  end_is =
      ap (λ (l : List ℕ). (content_stamped check_table stamp_table four_table l note).press.at) opened
      ∙ content_at_lem opening note room
      ∙ omega (arith, long)

  -- flag, content, flag, one behind the other, are the frame in front of what is left
  pub frame_fits : frame_stamped check_table stamp_table four_table buffer note
      ≡ cells (frame note) ++ drop (ticks_of note) buffer
  unfolding frame_stamped
  frame_fits =
      let size : length (cells (frame note)) ≡ ticks_of note = cells_length (frame note) in
      let all : 0 + length (cells (frame note)) ≤ length buffer = omega arith in
      let closing : 8 ≤ length content.buffer - content.press.at =
      omega (arith, room, content_at_lem opening note room, content_size opening note room) in
      rw opened
      (flag_fits content.buffer content.press.at closing
      ∙ content_line opening note room flag_bits (omega arith)
      ∙ sym (cells_sets buffer 0 flag_bits (inner ++ flag_bits))
      ∙ sets-eq (cells (frame note)) buffer 0 all
      ∙ ap (λ (x : ℕ). cells (frame note) ++ drop x buffer)
      (zero-add (length (cells (frame note))) ∙ size))
