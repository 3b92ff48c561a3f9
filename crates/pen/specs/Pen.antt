-- A pen over a buffer, one bit to a cell, and what it leaves behind. Assumes nothing.
use Rattle.std.specs.Prelude.{Bool, List, ℕ, ◌+◌, ◌-◌, ltb, length, if◌then◌else◌}
use Rattle.std.proofs.lemmas.List.Edits.{sets}
use Rattle.line.specs.Bits.{low_bits, cells}
use Rattle.line.specs.Insertion.{stuff, run_over}
use Rattle.line.specs.Frame.{flag_bits}
use Rattle.pen.specs.declared.Pen.{Pen}

-- a buffer and the pen over it
pub record Sheet : Type 0 where
  pub buffer : List ℕ
  pub pen : Pen

abbrev pub sheet : List ℕ → Pen → Sheet
sheet buffer p = record { buffer = buffer; pen = p }

abbrev pub pen_at : ℕ → ℕ → Pen
pen_at at run = record { at = at; run = run }

-- bits of content, with their inserted zeros, put down from the pen on
unfoldable pub bits_put : Sheet → List Bool → Sheet
bits_put s bits =
    sheet (sets s.buffer s.pen.at (cells (stuff s.pen.run bits)))
    (pen_at (s.pen.at + length (stuff s.pen.run bits)) (run_over s.pen.run bits))

-- A byte takes at most ten cells, its eight bits and two zeros: it is put down where so many are
-- left from the pen on, and else nothing is.
abbrev pub byte_cells : ℕ
byte_cells = 10

unfoldable pub byte_put : Sheet → ℕ → Sheet
byte_put s v =
    if ltb (length s.buffer - s.pen.at) byte_cells then s else bits_put s (low_bits 8 v)

-- likewise a flag, at a place; no zero is inserted into it
abbrev pub flag_cells : ℕ
flag_cells = 8

unfoldable pub flag_put : List ℕ → ℕ → List ℕ
flag_put buffer at =
    if ltb (length buffer - at) flag_cells then buffer else sets buffer at (cells flag_bits)
