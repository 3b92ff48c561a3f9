-- Laws of the layout: where there is room for the frame, the frame is what is laid out. Assumes
-- nothing.
use Rattle.std.specs.Prelude.{◌≡◌, refl, List, [], ◌∷◌, ◌++◌, ℕ, ◌+◌, ◌*◌, ◌/◌, ◌%◌, ◌≤◌, ◌<◌, get_or}
use Rattle.std.proofs.Math.Path.{sym, ap}
use Rattle.std.proofs.Common.{◌∙◌, zero-add, add-one, drop_of_length-le, drop-cons}
use native.Mathlib.Omega.{arith}
use Rattle.std.specs.Int.Bits.{bit_xor}
use Rattle.std.proofs.Math.ListN.{length, drop}
use Rattle.std.proofs.Math.Seq.{sets, sets-eq, length-sets}
use Rattle.line.specs.Bits.{low_bits, text_bits, cells}
use Rattle.line.specs.Check.{sdlc, ones, check_over}
use Rattle.line.specs.Insertion.{stuff}
use Rattle.line.specs.Frame.{flag_bits, check_bytes, content_of, with_check, frame, zeros_of, ticks_of}
use Rattle.line.specs.Laws.Check.{check_join}
use Rattle.line.specs.Laws.Bits.{low_bits_length, cells_length}
use Rattle.line.specs.Laws.Insertion.{stuff_length}
use Rattle.line.specs.Laws.Frame.{content_length, ticks_are}
use Rattle.line.proofs.Content.{content_is}
use Rattle.mirror.specs.Mirror.{mirror, mirrored_byte}
use Rattle.mirror.specs.Laws.{mirror_ones, mirror_bytes, mirrored_byte_lt, mirror_mirrored_byte}
use Rattle.pen.specs.Pen.{Sheet, sheet, pen_at, bits_put, byte_put, flag_put}
use Rattle.pen.specs.Laws.{cells_sets, put_none, put_join, put_size, put_at}
use Rattle.pen.specs.Laws.{put_width, byte_fits, flag_fits}
use Rattle.layout.specs.Layout.{bytes_put, mirrored_over, content_put, frame_put}

-- A text and what follows it; a byte more of it, and none left

pub bytes_join : (s : Sheet) (vs ws : List ℕ)
    → bytes_put s (vs ++ ws) ≡ bytes_put (bytes_put s vs) ws
unfolding bytes_put
bytes_join s [] ws = refl
bytes_join s (v ∷ vs) ws = bytes_join (byte_put s v) vs ws

pub bytes_step : (s : Sheet) (text : List ℕ) (i : ℕ) → i < length text
    → bytes_put s (drop i text) ≡ bytes_put (byte_put s (get_or text i 0)) (drop (i + 1) text)
unfolding bytes_put
bytes_step s text i h = rw (drop-cons text i 0 h, add-one)

pub bytes_none : (s : Sheet) (text : List ℕ) (i : ℕ) → length text ≤ i
    → bytes_put s (drop i text) ≡ s
unfolding bytes_put
bytes_none s text i h = rw (drop_of_length-le text h)

pub over_step : (m : ℕ) (text : List ℕ) (i : ℕ) → i < length text
    → mirrored_over m (drop i text)
    ≡ mirrored_over (mirrored_byte m (get_or text i 0)) (drop (i + 1) text)
unfolding mirrored_over
over_step m text i h = rw (drop-cons text i 0 h, add-one)

pub over_none : (m : ℕ) (text : List ℕ) (i : ℕ) → length text ≤ i
    → mirrored_over m (drop i text) ≡ m
unfolding mirrored_over
over_none m text i h = rw (drop_of_length-le text h)

pub over_lt : (m : ℕ) (vs : List ℕ) → m < 65536 → mirrored_over m vs < 65536
unfolding mirrored_over
over_lt m [] h = h
over_lt m (v ∷ vs) h = over_lt (mirrored_byte m v) vs (mirrored_byte_lt m v)

over_is : (m : ℕ) (vs : List ℕ)
    → check_over sdlc (mirror 16 m) (text_bits 8 vs) ≡ mirror 16 (mirrored_over m vs)
unfolding mirrored_over text_bits check_over
over_is m [] = refl
over_is m (v ∷ vs) =
    check_join sdlc (mirror 16 m) (low_bits 8 v) (text_bits 8 vs)
    ∙ ap (λ (r : ℕ). check_over sdlc r (text_bits 8 vs)) (sym (mirror_mirrored_byte m v))
    ∙ over_is (mirrored_byte m v) vs

-- a note and the two bytes of its check, from the mirrored register over it
pub check_behind : (note : List ℕ)
    → note
    ++ (bit_xor (mirrored_over ones note) ones % 256
    ∷ bit_xor (mirrored_over ones note) ones / 256
    ∷ [])
    ≡ with_check note
check_behind note =
    let m = mirrored_over ones note in
    let r : check_over sdlc ones (text_bits 8 note) ≡ mirror 16 m =
    rw mirror_ones at (over_is ones note) in
    ap (λ (l : List ℕ). note ++ l)
    (sym (ap check_bytes r ∙ mirror_bytes m (over_lt ones note (omega arith))))

-- Bytes are put down where there is room for them and a flag behind them: each has then room for
-- itself and eight cells more, and takes eight at least.
pub bytes_fit : (s : Sheet) (vs : List ℕ)
    → s.pen.at + length (stuff s.pen.run (text_bits 8 vs)) + 8 ≤ length s.buffer
    → bytes_put s vs ≡ bits_put s (text_bits 8 vs)
unfolding bytes_put text_bits
bytes_fit s [] h = sym (put_none s)
bytes_fit s (v ∷ vs) h =
    let bits = low_bits 8 v in
    let t = bits_put s bits in
    let whole = put_width s bits (text_bits 8 vs) in
    let own = stuff_length s.pen.run bits in
    let here = byte_fits s v (omega (arith, put_at s bits, low_bits_length 8 v)) in
    let room : t.pen.at + length (stuff t.pen.run (text_bits 8 vs)) + 8 ≤ length t.buffer =
    omega (arith, put_size s bits) in
    ap (λ (x : Sheet). bytes_put x vs) here ∙ bytes_fit t vs room
    ∙ sym (put_join s bits (text_bits 8 vs))

module _ (buffer note : List ℕ) (fits : ticks_of note ≤ length buffer) where
  abbrev opening : List ℕ
  opening = sets buffer 0 (cells flag_bits)

  opened : flag_put buffer 0 ≡ opening
  opened = flag_fits buffer 0 (omega (arith, ticks_are note))

  -- the content behind the opening flag
  pub content_fits : content_put buffer note ≡ bits_put (sheet opening (pen_at 8 0)) (content_of note)
  unfolding content_put
  content_fits =
      let s = sheet opening (pen_at 8 0) in
      let size : length opening ≡ length buffer =
      length-sets buffer 0 (cells flag_bits) in
      let n = ap length (ap (stuff 0) (sym (content_is note))) in
      let m = stuff_length 0 (content_of note) in
      rw opened
      (bytes_fit s (with_check note) (omega (arith, ticks_are note, content_length note))
      ∙ ap (bits_put s) (sym (content_is note)))

  -- where the closing flag stands: the zeros inserted are what the content takes beyond its own
  -- bits
  pub end_is : (content_put buffer note).pen.at ≡ 8 + 8 * (length note + 2) + zeros_of note
  end_is =
      let s = sheet opening (pen_at 8 0) in
      ap (λ (x : Sheet). x.pen.at) content_fits ∙ put_at s (content_of note)
      ∙ omega (arith, stuff_length 0 (content_of note), content_length note)

  -- flag, content, flag, one behind the other, are the frame in front of what is left
  pub frame_fits : frame_put buffer note ≡ cells (frame note) ++ drop (ticks_of note) buffer
  unfolding frame_put bits_put
  frame_fits =
      let inner = stuff 0 (content_of note) in
      let n = ticks_are note in
      let k = stuff_length 0 (content_of note) in
      let l = content_length note in
      let o = length-sets buffer 0 (cells flag_bits) in
      let laid = sets opening 8 (cells inner) in
      let m = length-sets opening 8 (cells inner) in
      let size : length (cells (frame note)) ≡ ticks_of note = cells_length (frame note) in
      let all : 0 + length (cells (frame note)) ≤ length buffer = omega arith in
      rw content_fits (flag_fits laid (8 + length inner) (omega arith))
      ∙ sym (cells_sets buffer 0 flag_bits (inner ++ flag_bits) ∙ cells_sets opening 8 inner flag_bits)
      ∙ sets-eq (cells (frame note)) buffer 0 all
      ∙ ap (λ (x : ℕ). cells (frame note) ++ drop x buffer)
      (zero-add (length (cells (frame note))) ∙ size)
