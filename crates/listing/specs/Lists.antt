-- 01, Note list and line, and rows 5 to 7 of its table: small lists, and how each is read.
-- Assumes nothing.
use Rattle.std.specs.Prelude.{◌≡◌, refl, [], ◌∷◌, Ok, Err}
use Rattle.common.specs.declared.Refusal.TheVariants.{NoList, NoteLength, CutList}
use Rattle.line.specs.Bits.{low_bits, text_bits}
use Rattle.line.specs.Check.{check_step, check_over, top_bits, check_bits}
use Rattle.line.specs.Insertion.{zeros}
use Rattle.head.specs.NoteHead.{head_of}
use Rattle.notes.specs.NoteList.{whole, refuses, read_from, rest_from, read_list}
use Rattle.zeros.specs.Zeros.{count_of}
use Rattle.listing.specs.Reads.{reads, counts}

pub record Told : Type 0 where
  -- 5: "list empty, or its first byte is not 1"
  pub empty : reads [] ≡ refuses NoList
  pub no_version : reads (0 ∷ []) ≡ refuses NoList
  -- "A list is version byte 1, then notes: two-byte big-endian length, text."
  pub no_notes : reads (1 ∷ []) ≡ whole []
  pub one_note_lem : reads (1 ∷ 0 ∷ 2 ∷ 0x41 ∷ 0x42 ∷ []) ≡ whole ((0x41 ∷ 0x42 ∷ []) ∷ [])
  pub two_notes :
      reads (1 ∷ 0 ∷ 1 ∷ 0x41 ∷ 0 ∷ 1 ∷ 0x42 ∷ []) ≡ whole ((0x41 ∷ []) ∷ (0x42 ∷ []) ∷ [])
  -- 7: "the list ends inside a length or a note"
  pub cut_length : reads (1 ∷ 0 ∷ []) ≡ refuses CutList
  pub cut_note : reads (1 ∷ 0 ∷ 2 ∷ 0x41 ∷ []) ≡ refuses CutList
  -- 6: "a note's length is 0 or above 2,048"; "7 for a cut length, 6, 7 for a cut note"
  pub length_0 : reads (1 ∷ 0 ∷ 0 ∷ []) ≡ refuses NoteLength
  pub length_2049 : reads (1 ∷ 8 ∷ 1 ∷ []) ≡ refuses NoteLength
  pub length_2048 : reads (1 ∷ 8 ∷ 0 ∷ []) ≡ refuses CutList
  -- "the first bad note decides"
  pub first_bad : reads (1 ∷ 0 ∷ 1 ∷ 0x41 ∷ 0 ∷ 0 ∷ 0 ∷ 9 ∷ []) ≡ refuses NoteLength
  -- "it returns the zeros inserted": marked examples 1 to 3; over two bytes, and into the check
  pub zeros_00 : counts (0x00 ∷ []) ≡ Ok 0
  pub zeros_ff : counts (0xFF ∷ []) ≡ Ok 2
  pub zeros_88 : counts (0x88 ∷ []) ≡ Ok 1
  pub over_bytes : counts (0xE0 ∷ 0x03 ∷ []) ≡ Ok 1
  pub into_check : counts (0xF0 ∷ []) ≡ Ok 2
  pub no_note : counts [] ≡ Err NoteLength

pub told : Told
unfolding
    low_bits text_bits check_step check_over top_bits check_bits zeros head_of read_from rest_from read_list
    count_of
told = record {
  empty = refl;
  no_version = refl;
  no_notes = refl;
  one_note_lem = refl;
  two_notes = refl;
  cut_length = refl;
  cut_note = refl;
  length_0 = refl;
  length_2049 = refl;
  length_2048 = refl;
  first_bad = refl;
  zeros_00 = refl;
  zeros_ff = refl;
  zeros_88 = refl;
  over_bytes = refl;
  into_check = refl;
  no_note = refl;
}
