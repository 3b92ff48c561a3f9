-- A run of events in bytes, four for each, told line by line. Assumes nothing.
use Rattle.std.specs.Prelude.{List, [], ◌∷◌, ℕ, ◌+◌, ◌-◌, ◌/◌, ltb, leb, length, take, get_or, Result, Ok, Err, if◌then◌else◌}
use Rattle.std.specs.List.{fold}
use Rattle.chip.specs.declared.Chip.{Chip}
use Rattle.chip.specs.declared.Outcome.{Outcome}
use Rattle.chip.specs.Event.{step}
use Rattle.script.specs.declared.Event.{Event}
use Rattle.script.specs.Step.{event_of, said}
use Rattle.script.specs.Shown.{numbers}
use Rattle.text.specs.declared.Line.{Line}
use Rattle.text.specs.Text.{newline, space, empty_line, with_all, numbered}
use Rattle.events.specs.declared.Ending.{Ending}
use Rattle.events.specs.declared.Ending.TheVariants.{All, Unknown, Cut, TooLong}
use Rattle.events.specs.declared.Told.{Told}

abbrev pub event_size : ℕ
event_size = 4

-- 01, Events, names ten: their codes are 0 to 9
abbrev pub last_code : ℕ
last_code = 9

-- no more bytes are taken
abbrev pub longest : ℕ
longest = 65536

-- the event that stands at a place
unfoldable pub found_at : List ℕ → ℕ → Result Event Ending
found_at events at =
    if leb (length events) at then Err All
    else (if ltb longest (length events) then Err TooLong
    else (if ltb (length events - at) event_size then Err Cut
    else (if ltb last_code (get_or events at 0) then Err Unknown
    else Ok
    (event_of (get_or events at 0) (get_or events (at + 1) 0) (get_or events (at + 2) 0)
    (get_or events (at + 3) 0)))))

-- the words of the last line, in ASCII

-- "unknown "
abbrev pub unknown_word : List ℕ
unknown_word = 117 ∷ 110 ∷ 107 ∷ 110 ∷ 111 ∷ 119 ∷ 110 ∷ space ∷ []

-- "cut "
abbrev pub cut_word : List ℕ
cut_word = 99 ∷ 117 ∷ 116 ∷ space ∷ []

-- "too long"
abbrev pub too_long_words : List ℕ
too_long_words = 116 ∷ 111 ∷ 111 ∷ space ∷ 108 ∷ 111 ∷ 110 ∷ 103 ∷ newline ∷ []

-- the number of the event at a place, from 1 on
abbrev pub number_at : ℕ → ℕ
number_at at = at / event_size + 1

-- nothing behind a whole run
abbrev pub last_line : Ending → ℕ → Line
last_line All at = empty_line
last_line Unknown at = numbered (with_all empty_line unknown_word) (number_at at) newline
last_line Cut at = numbered (with_all empty_line cut_word) (number_at at) newline
last_line TooLong at = with_all empty_line too_long_words

-- numbers, a space behind each
abbrev pub with_numbers : Line → List ℕ → Line
with_numbers l vs = fold (λ k v. numbered k v space) l vs

-- an event's seven numbers, and a newline behind the last
unfoldable pub told_line : Outcome → Line
told_line o =
    numbered (with_numbers empty_line (take 6 (numbers o))) (get_or (numbers o) 6 0) newline

abbrev pub telling : Line → Chip → ℕ → Told
telling l c at = record { line = l; chip = c; at = at }

abbrev pub played : Outcome → ℕ → Told
played o at = telling (told_line o) o.chip at

-- the next line, with its event played; behind the last line every byte is behind
abbrev pub tell : Chip → List ℕ → ℕ → Result Event Ending → Told
tell c events at (Ok e) = played (step c (said e)) (at + event_size)
tell c events at (Err e) = telling (last_line e at) c (length events)

unfoldable pub next : Chip → List ℕ → ℕ → Told
next c events at = tell c events at (found_at events at)
