-- What an SDLC receiver hears over a stream of bits: where it ends and what it has handed over;
-- flags on the line, whatever receiver listens; end marks among entries. Assumes nothing.
use Rattle.std.specs.Prelude.{option_to_list, ◌≡◌, Bool, true, false, not, ◌&&◌, List, [], ◌∷◌, ◌++◌, ℕ, ◌+◌, eqb, replicate}
use Rattle.line.specs.Bits.{one_if}
use Rattle.entry.specs.declared.Entry.{Entry}
use Rattle.sdlc.specs.declared.Addressing.{Addressing}
use Rattle.sdlc.specs.declared.Listener.{Listener}
use Rattle.sdlc.specs.declared.Listened.{Listened}
use Rattle.sdlc.specs.Hearing.{past_flag, hear_sdlc}
use Rattle.sdlc.specs.Within.{ones_after}

-- what a tick hands over: an entry or none
abbrev pub handed : Listened → List Entry
handed h = option_to_list h.entry

-- the receiver behind a stream, and the entries that it handed over on the way
pub record Final : Type 0 where
  pub listener : Listener
  pub got : List Entry

abbrev pub final : Listener → List Entry → Final
final s es = record { listener = s; got = es }

abbrev pub before : List Entry → Final → Final
before es f = final f.listener (es ++ f.got)

unfoldable pub hear_all : Addressing → Listener → List Bool → Final
hear_all g s [] = final s []
hear_all g s (b ∷ bs) =
    let h = hear_sdlc g s b in before (handed h) (hear_all g h.listener bs)

-- demand 2: "in hunt or just past a flag"
pub data Fresh (s : Listener) : Type 0 where
  in_hunt : s.content.hunt ≡ true → Fresh s
  past_flag_lem : s.content ≡ past_flag.content → s.check ≡ past_flag.check → Fresh s

-- Flags on the line

-- "a 0 .. after six .. ends a flag"
abbrev pub flag_ends : ℕ → Bool → Bool
flag_ends o b = not b && eqb o 6

-- ones in a row behind a stream
unfoldable pub ones_over : ℕ → List Bool → ℕ
ones_over o [] = o
ones_over o (b ∷ bs) = ones_over (ones_after o b) bs

-- no flag ends within these bits, o ones having gone before
unfoldable pub flag_free : ℕ → List Bool → Bool
flag_free o [] = true
flag_free o (b ∷ bs) = not (flag_ends o b) && flag_free (ones_after o b) bs

-- a line without a flag, n ones, again a line without a flag, and the bit that may complete one
abbrev pub aborted_line : List Bool → ℕ → List Bool → Bool → List Bool
aborted_line xs n zs b = xs ++ (replicate n true ++ (zs ++ (b ∷ [])))

-- a flag but for its last bit
abbrev pub lead : List Bool
lead = false ∷ true ∷ true ∷ true ∷ true ∷ true ∷ true ∷ []

-- end marks among entries
abbrev pub end_marks : List Entry → ℕ
end_marks [] = 0
end_marks (e ∷ es) = one_if e.ends + end_marks es
