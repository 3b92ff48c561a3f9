-- A line of text, put together byte by byte. Assumes nothing.
use Rattle.std.specs.Prelude.{List, [], ◌∷◌, ◌++◌, ℕ, zero, suc, ◌+◌, ◌/◌, ◌%◌, ltb, set, replicate, if◌then◌else◌}
use Rattle.std.specs.List.{fold}
use Rattle.text.specs.declared.Line.{Line}

-- in ASCII
abbrev pub newline : ℕ
newline = 10

abbrev pub space : ℕ
space = 32

-- seven numbers of three digits, six spaces and a newline
abbrev pub longest : ℕ
longest = 28

abbrev pub line : List ℕ → ℕ → Line
line text size = record { text = text; size = size }

abbrev pub empty_line : Line
empty_line = line (replicate longest 0) 0

-- a byte more, where there is room for it
unfoldable pub with : Line → ℕ → Line
with l v = if ltb l.size longest then line (set l.text l.size v) (l.size + 1) else l

-- bytes, each likewise
abbrev pub with_all : Line → List ℕ → Line
with_all l bytes = fold with l bytes

-- the last digit of a number, in ASCII
abbrev pub digit_of : ℕ → ℕ
digit_of v = 48 + v % 10

-- a number in decimals, its last digits, so many, where it has more
unfoldable pub decimal : ℕ → ℕ → List ℕ
decimal zero v = []
decimal (suc n) v = (if ltb v 10 then [] else decimal n (v / 10)) ++ (digit_of v ∷ [])

-- the last five, and the byte behind it
abbrev pub numbered : Line → ℕ → ℕ → Line
numbered l v end = with (with_all l (decimal 5 v)) end
