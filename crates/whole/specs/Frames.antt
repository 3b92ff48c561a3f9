-- Frames as they are given back: a note's bytes and the two of its check, the last with the end
-- mark; several frames with shared flags. Assumes nothing.
use Rattle.std.specs.Prelude.{Bool, true, false, List, [], ◌∷◌, ◌++◌, ℕ}
use Rattle.line.specs.Insertion.{stuff}
use Rattle.line.specs.Frame.{flag_bits, content_of, with_check}
use Rattle.line.specs.Bits.{Below}
use Rattle.entry.specs.declared.Entry.{Entry}
use Rattle.entry.specs.Entry.{plain_entry}

-- demand 2: "its bytes, its check" are `with_check`; "and a good mark": entries of these bytes,
-- without any mark; the last alone has the end mark, with a check that is bad or not
unfoldable pub ended : Bool → List ℕ → List Entry
ended bad [] = []
ended bad (v ∷ []) = plain_entry v true bad ∷ []
ended bad (v ∷ x ∷ vs) = plain_entry v false false ∷ ended bad (x ∷ vs)

-- any content between two flags
abbrev pub between_flags : List Bool → List Bool
between_flags bs = flag_bits ++ (stuff 0 bs ++ flag_bits)

-- several notes, each closing flag the next one's opening flag
unfoldable pub frames_of : List (List ℕ) → List Bool
frames_of [] = []
frames_of (n ∷ ns) = (stuff 0 (content_of n) ++ flag_bits) ++ frames_of ns

unfoldable pub all_ended : List (List ℕ) → List Entry
all_ended [] = []
all_ended (n ∷ ns) = ended false (with_check n) ++ all_ended ns

pub data Notes : List (List ℕ) → Type 0 where
  no_more : Notes []
  one_more_lem : {v : ℕ} {vs : List ℕ} {ns : List (List ℕ)} → Below 256 (v ∷ vs) → Notes ns
      → Notes ((v ∷ vs) ∷ ns)
