-- Laws of content by tables: by the right ones, where there is room for it and a flag, it is the
-- note's bits and its check's with their inserted zeros, once at least four cells more are stored
-- behind it. Assumes nothing.
use Rattle.std.specs.Prelude.{◌≡◌, refl, Bool, List, [], ◌∷◌, ◌++◌, ℕ, ◌+◌, ◌-◌, ◌≤◌, length}
use Rattle.std.proofs.Common.{sym, ◌∙◌, append_assoc, add-zero, arith, length-append}
use Rattle.std.proofs.Math.Path.{ap}
use Rattle.std.proofs.lemmas.List.Edits.{sets}
use Rattle.line.specs.Bits.{low_bits, text_bits, cells}
use Rattle.line.specs.Insertion.{stuff, run_over}
use Rattle.line.specs.Frame.{content_of, with_check}
use Rattle.line.specs.Laws.Bits.{low_bits_length}
use Rattle.line.specs.Laws.Insertion.{stuff_join, stuff_length}
use Rattle.line.proofs.Content.{content_is}
use Rattle.table.specs.Table.{check_table}
use Rattle.lookup.specs.Laws.{with_lookup_is}
use Rattle.stamp.specs.Stamp.{sent_as, stamp_table, four_table}
use Rattle.bytewise.specs.Bytewise.{Plate, plate, press_at, run_of, Ready, byte_stamped}
use Rattle.bytewise.specs.Laws.{byte_at, byte_run, byte_ready, byte_size, byte_line}
use Rattle.tabled.specs.Tabled.{bytes_stamped, content_stamped}

-- Bytes by the right tables

abbrev bytes_put : Plate → List ℕ → Plate
bytes_put s vs = bytes_stamped stamp_table four_table s vs

-- the bits of bytes behind the press, with their zeros
abbrev width_of : Plate → List ℕ → List Bool
width_of s vs = stuff (run_of s) (text_bits 8 vs)

module _ (s : Plate) (v : ℕ) (vs : List ℕ) (ready : Ready s)
    (fits : s.press.at + length (width_of s (v ∷ vs)) + 8 ≤ length s.buffer) where
  abbrev run : ℕ
  run = run_of s

  abbrev put : Plate
  put = byte_stamped stamp_table four_table s v

  both : width_of s (v ∷ vs) ≡ sent_as run v ++ stuff (run_over run (low_bits 8 v)) (text_bits 8 vs)
  unfolding text_bits
  both = stuff_join run (low_bits 8 v) (text_bits 8 vs)

  wide : length (width_of s (v ∷ vs))
      ≡ length (sent_as run v) + length (stuff (run_over run (low_bits 8 v)) (text_bits 8 vs))
  wide =
      ap length both
      ∙ length-append (sent_as run v) (stuff (run_over run (low_bits 8 v)) (text_bits 8 vs))

  -- a byte and a flag behind it have the room that is asked for a byte
  room : 12 ≤ length s.buffer - s.press.at
  room = omega (arith, wide, stuff_length run (low_bits 8 v), low_bits_length 8 v)

  next_ready : Ready put
  next_ready = byte_ready s v ready room

  next_width : put.press.at + length (width_of put vs) ≡ s.press.at + length (width_of s (v ∷ vs))
  next_width = rw (byte_run s v ready room) (omega (arith, byte_at s v ready room, wide))

  next_fits : put.press.at + length (width_of put vs) + 8 ≤ length put.buffer
  next_fits = omega (arith, next_width, byte_size s v ready room)

  next_line : (next : List Bool) → 4 ≤ length next
      → sets put.buffer put.press.at (cells (width_of put vs ++ next))
      ≡ sets s.buffer s.press.at (cells (width_of s (v ∷ vs) ++ next))
  next_line next h =
      let rest = width_of put vs in
      byte_line s v ready room (rest ++ next) (omega (arith, length-append rest next))
      ∙ ap (λ (l : List Bool). sets s.buffer s.press.at (cells l))
      (rw (byte_run s v ready room, both)
      (sym (append_assoc (sent_as run v) (stuff (run_over run (low_bits 8 v)) (text_bits 8 vs)) next)))

width_none : (s : Plate) → width_of s [] ≡ []
unfolding text_bits stuff
width_none s = refl

bytes_at : (s : Plate) (vs : List ℕ) → Ready s
    → s.press.at + length (width_of s vs) + 8 ≤ length s.buffer
    → (bytes_put s vs).press.at ≡ s.press.at + length (width_of s vs)
unfolding bytes_stamped
bytes_at s [] ready fits = rw (width_none s) (sym (add-zero s.press.at))
bytes_at s (v ∷ vs) ready fits =
    let t = byte_stamped stamp_table four_table s v in
    bytes_at t vs (next_ready s v vs ready fits) (next_fits s v vs ready fits)
    ∙ next_width s v vs ready fits

bytes_size : (s : Plate) (vs : List ℕ) → Ready s
    → s.press.at + length (width_of s vs) + 8 ≤ length s.buffer
    → length (bytes_put s vs).buffer ≡ length s.buffer
unfolding bytes_stamped
bytes_size s [] ready fits = refl
bytes_size s (v ∷ vs) ready fits =
    let t = byte_stamped stamp_table four_table s v in
    bytes_size t vs (next_ready s v vs ready fits) (next_fits s v vs ready fits)
    ∙ byte_size s v ready (room s v vs ready fits)

bytes_line : (s : Plate) (vs : List ℕ) → Ready s
    → s.press.at + length (width_of s vs) + 8 ≤ length s.buffer
    → (next : List Bool) → 4 ≤ length next
    → sets (bytes_put s vs).buffer (bytes_put s vs).press.at (cells next)
    ≡ sets s.buffer s.press.at (cells (width_of s vs ++ next))
unfolding bytes_stamped
bytes_line s [] ready fits next h = rw (width_none s)
bytes_line s (v ∷ vs) ready fits next h =
    let t = byte_stamped stamp_table four_table s v in
    bytes_line t vs (next_ready s v vs ready fits) (next_fits s v vs ready fits) next h
    ∙ next_line s v vs ready fits next h

-- A note's content

module _ (buffer note : List ℕ)
    (fits : 8 + length (stuff 0 (content_of note)) + 8 ≤ length buffer) where
  abbrev start : Plate
  start = plate buffer (press_at 8 0)

  abbrev content : Plate
  content = content_stamped check_table stamp_table four_table buffer note

  width_is : width_of start (with_check note) ≡ stuff 0 (content_of note)
  width_is = ap (stuff 0) (sym (content_is note))

  start_fits : 8 + length (width_of start (with_check note)) + 8 ≤ length buffer
  start_fits = omega (arith, ap length width_is)

  content_put_lem : content ≡ bytes_put start (with_check note)
  unfolding content_stamped
  content_put_lem = ap (bytes_put start) (with_lookup_is note)

  pub content_at_lem : content.press.at ≡ 8 + length (stuff 0 (content_of note))
  content_at_lem =
      ap (λ (s : Plate). s.press.at) content_put_lem
      ∙ bytes_at start (with_check note) (omega arith, omega arith) start_fits
      ∙ ap (λ (l : List Bool). 8 + length l) width_is

  pub content_size : length content.buffer ≡ length buffer
  content_size =
      ap (λ (s : Plate). length s.buffer) content_put_lem
      ∙ bytes_size start (with_check note) (omega arith, omega arith) start_fits

  -- what is stored next covers what the last byte stored of no account
  pub content_line : (next : List Bool) → 4 ≤ length next
      → sets content.buffer content.press.at (cells next)
      ≡ sets buffer 8 (cells (stuff 0 (content_of note) ++ next))
  content_line next h =
      ap (λ (s : Plate). sets s.buffer s.press.at (cells next)) content_put_lem
      ∙ bytes_line start (with_check note) (omega arith, omega arith) start_fits next h
      ∙ ap (λ (l : List Bool). sets buffer 8 (cells (l ++ next))) width_is
