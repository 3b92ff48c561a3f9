-- What a run of known answers tells: a line for each case, and a last one. Assumes nothing.
use Rattle.std.specs.Prelude.{Bool, List, [], ◌∷◌, ℕ, eqb, if◌then◌else◌}
use Rattle.text.specs.declared.Line.{Line}
use Rattle.text.specs.Text.{newline, space, empty_line, with_all, numbered}
use Rattle.items.specs.declared.Sheet.{Sheet}
use Rattle.items.specs.declared.Kind.{Kind}
use Rattle.items.specs.declared.Kind.TheVariants.{Name}
use Rattle.items.specs.Desk.{Desk, desk, part_of, laid}

-- the words, in ASCII

-- "ok  "
abbrev pub ok_word : List ℕ
ok_word = 111 ∷ 107 ∷ space ∷ space ∷ []

-- "BAD "
abbrev pub bad_word : List ℕ
bad_word = 66 ∷ 65 ∷ 68 ∷ space ∷ []

-- "of "
abbrev pub of_word : List ℕ
of_word = 111 ∷ 102 ∷ space ∷ []

-- "right"
abbrev pub right_word : List ℕ
right_word = 114 ∷ 105 ∷ 103 ∷ 104 ∷ 116 ∷ newline ∷ []

-- "BAD no cases, or too many"
abbrev pub none_words : List ℕ
none_words =
    66 ∷ 65 ∷ 68 ∷ space ∷
    110 ∷ 111 ∷ space ∷ 99 ∷ 97 ∷ 115 ∷ 101 ∷ 115 ∷ 44 ∷ space ∷ 111 ∷ 114 ∷ space ∷ 116 ∷ 111 ∷
    111 ∷ space ∷ 109 ∷ 97 ∷ 110 ∷ 121 ∷ newline ∷ []

abbrev pub verdict : Bool → List ℕ
verdict right = if right then ok_word else bad_word

-- where a case ends, its verdict and its name, each where there is room for it
abbrev pub told_for : Kind → Sheet → List ℕ → Desk → Desk
told_for Name s bytes out =
    laid (part_of bytes s.item.start s.item.behind) (laid (verdict s.right) out)
told_for _ s bytes out = out

abbrev pub told : Sheet → List ℕ → List ℕ → Desk
told s bytes out = told_for s.item.kind s bytes (desk out s.told)

-- how many cases were right, of how many; none is bad
abbrev pub last_line : Sheet → Line
last_line s =
    if eqb s.cases 0 then with_all empty_line none_words
    else with_all (numbered (with_all (numbered empty_line s.good space) of_word) s.cases space)
    right_word

-- that line, behind all others
abbrev pub ended : Sheet → List ℕ → Desk
ended s out =
    laid (part_of (last_line s).text 0 (last_line s).size) (desk out s.told)
