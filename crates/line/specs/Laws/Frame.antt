-- Laws of a note's frame: its ticks, its inserted zeros, and that it is the frame of one note
-- alone. Assumes nothing.
use Rattle.std.specs.Prelude.{◌≡◌, List, ◌++◌, Bool, ℕ, ◌+◌, ◌*◌, ◌/◌, ◌≤◌, length, take, drop}
use Rattle.std.proofs.Common.{sym, ap, ◌∙◌, append-nil, arith, length-append, length-take, length-drop, take-append-drop, take_at}
use Rattle.std.proofs.lemmas.List.{append_cancel_left, append_cancel_right}
use Rattle.line.specs.Bits.{low_bits, text_bits, from_low, Below}
use Rattle.line.specs.Check.{check_bits}
use Rattle.line.specs.Insertion.{stuff, unstuff}
use Rattle.line.specs.Frame.{flag_bits, note_bits, check_of, content_of, check_bytes}
use Rattle.line.specs.Frame.{frame, zeros_of, ticks_of}
use Rattle.line.specs.Laws.Bits.{low_bits_from_low, text_bits_length}
use Rattle.line.specs.Laws.Bits.{text_bits_same}
use Rattle.line.specs.Laws.Check.{check_bits_length}
use Rattle.line.specs.Laws.Insertion.{stuff_length, zeros_bound, unstuff_stuff}

pub content_length : (note : List ℕ) → length (content_of note) ≡ 8 * (length note + 2)
content_length note =
    let k = check_of note in
    omega (
      arith,
      length-append (note_bits note) (check_bits k),
      text_bits_length 8 note,
      check_bits_length k,
    )

-- demand 3: "8(n+2)+16+z ticks, z the zeros inserted, at most 8(n+2)/5 rounded down"
pub ticks_are : (note : List ℕ) → ticks_of note ≡ 8 * (length note + 2) + 16 + zeros_of note
ticks_are note =
    let bits = content_of note in
    let whole = length-append (stuff 0 bits) flag_bits in
    omega (arith, whole, stuff_length 0 bits, content_length note)

pub zeros_few : (note : List ℕ) → zeros_of note ≤ 8 * (length note + 2) / 5
zeros_few note = omega (arith, zeros_bound 0 (content_of note), content_length note)

-- the content is the bits of the note's bytes and of the check's two
pub byte_of : (bs : List Bool) → length bs ≡ 8 → low_bits 8 (from_low bs) ≡ bs
byte_of bs e = rw e at (low_bits_from_low bs)

pub check_bytes_bits : (r : ℕ) → text_bits 8 (check_bytes r) ≡ check_bits r
unfolding check_bytes text_bits
check_bytes_bits r =
    let bits = check_bits r in
    let first : length (take 8 bits) ≡ 8 = rw (length-take 8 bits, check_bits_length r) in
    let last : length (drop 8 bits) ≡ 8 = rw (length-drop 8 bits, check_bits_length r) in
    rw (byte_of (take 8 bits) first, byte_of (drop 8 bits) last, append-nil (drop 8 bits))
    (take-append-drop 8 bits)

-- two notes with the same frame are the same note
pub frame_same : {xs ys : List ℕ} → Below 256 xs → Below 256 ys → frame xs ≡ frame ys → xs ≡ ys
frame_same {xs} {ys} bx by e =
    let inner : stuff 0 (content_of xs) ≡ stuff 0 (content_of ys) =
    append_cancel_right (stuff 0 (content_of xs)) (stuff 0 (content_of ys)) flag_bits
    (append_cancel_left flag_bits (stuff 0 (content_of xs) ++ flag_bits)
    (stuff 0 (content_of ys) ++ flag_bits) e) in
    let content : content_of xs ≡ content_of ys =
    sym (unstuff_stuff 0 (content_of xs) (omega arith)) ∙ ap (unstuff 0) inner
    ∙ unstuff_stuff 0 (content_of ys) (omega arith) in
    let n : length xs ≡ length ys =
    omega (arith, content_length xs, content_length ys, ap length content) in
    let lx : length (note_bits xs) ≡ 8 * length xs = text_bits_length 8 xs in
    let ly : length (note_bits ys) ≡ 8 * length xs = text_bits_length 8 ys ∙ omega arith in
    let bits : note_bits xs ≡ note_bits ys =
    sym (take_at (note_bits xs) (check_bits (check_of xs)) (8 * length xs) lx)
    ∙ ap (take (8 * length xs)) content
    ∙ take_at (note_bits ys) (check_bits (check_of ys)) (8 * length xs) ly in
    text_bits_same 8 bx by n bits
