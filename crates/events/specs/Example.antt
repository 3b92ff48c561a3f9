-- How a run of events in bytes ends, as the program trace prints it, by its next lines alone. 01,
-- Events, names ten, so their codes are 0 to 9; the rest is the program's own rule. After a hard
-- reset RR0 is 44 (68), RR1 01 and RR2 00. Computed. Assumes nothing.
use Rattle.std.specs.Prelude.{◌≡◌, refl, ℕ, zero, suc, length, take, Err}
use mathlib.Core.List.{List, [], ◌∷◌, ◌++◌, append-nil}
use Rattle.std.proofs.Common.{arith, le-leb}
use Rattle.chip.specs.declared.Chip.{Chip}
use Rattle.chip.specs.Chip.{hard_reset}
use Rattle.chip.specs.Computing.{computing}
use Rattle.script.specs.Shown.{pointed_at, register_of, shown}
use Rattle.text.specs.declared.Line.{Line}
use Rattle.text.specs.Text.{newline, space, empty_line, with, decimal}
use Rattle.events.specs.declared.Ending.{Ending}
use Rattle.events.specs.declared.Ending.TheVariants.{Unknown, TooLong}
use Rattle.events.specs.declared.Told.{Told}
use Rattle.events.specs.Run.{found_at, unknown_word, cut_word, too_long_words}
use Rattle.events.specs.Run.{last_line, told_line, telling, next}

-- the bytes of a line that count
abbrev text_of : Line → List ℕ
text_of l = take l.size l.text

-- a line, and the next n
abbrev lines_from : ℕ → List ℕ → Told → List ℕ
lines_from zero events t = text_of t.line
lines_from (suc n) events t =
    text_of t.line ++ lines_from n events (next t.chip events t.at)

-- the first four lines of a run; none of these has more than three, and a fourth is empty
abbrev printed : List ℕ → List ℕ
printed events = lines_from 3 events (next hard_reset events 0)

-- "0 0 68 1 68 1 0", the line of a hard reset and of a RETI behind it
abbrev reset_line : List ℕ
reset_line =
    48 ∷ space ∷ 48 ∷ space ∷ 54 ∷ 56 ∷ space ∷ 49 ∷ space ∷ 54 ∷ 56 ∷ space ∷ 49 ∷ space ∷ 48
    ∷ newline ∷ []

-- a word, a digit, and the line's end
abbrev at : List ℕ → ℕ → List ℕ
at word digit = word ++ (digit ∷ newline ∷ [])

pub nothing_prints_nothing : printed [] ≡ []
unfolding found_at next
nothing_prints_nothing = refl

pub codes_0_and_9_are_known :
    printed (0 ∷ 0 ∷ 0 ∷ 0 ∷ 9 ∷ 0 ∷ 0 ∷ 0 ∷ []) ≡ reset_line ++ reset_line
unfolding computing pointed_at register_of shown with decimal found_at told_line next
codes_0_and_9_are_known = refl

pub code_10_is_unknown : printed (10 ∷ 0 ∷ 0 ∷ 0 ∷ 0 ∷ 0 ∷ 0 ∷ 0 ∷ []) ≡ at unknown_word 49
unfolding with decimal found_at next
code_10_is_unknown = refl

-- and the run stops there
pub code_255_behind_code_0_is_unknown :
    printed (0 ∷ 0 ∷ 0 ∷ 0 ∷ 255 ∷ 0 ∷ 0 ∷ 0 ∷ 0 ∷ 0 ∷ 0 ∷ 0 ∷ []) ≡ reset_line ++ at unknown_word 50
unfolding computing pointed_at register_of shown with decimal found_at told_line next
code_255_behind_code_0_is_unknown = refl

pub one_byte_is_a_cut_event : printed (0 ∷ []) ≡ at cut_word 49
unfolding with decimal found_at next
one_byte_is_a_cut_event = refl

-- whatever the code
pub three_bytes_behind_two_events_are_a_cut_event :
    printed (0 ∷ 0 ∷ 0 ∷ 0 ∷ 9 ∷ 0 ∷ 0 ∷ 0 ∷ 10 ∷ 0 ∷ 0 ∷ [])
    ≡ reset_line ++ reset_line ++ at cut_word 51
unfolding computing pointed_at register_of shown with decimal found_at told_line next
three_bytes_behind_two_events_are_a_cut_event = refl

-- behind a run's end every line is empty
over : (c : Chip) (events : List ℕ)
    → next c events (length events) ≡ telling empty_line c (length events)
unfolding found_at next
over c events = rw (le-leb (length events) (length events) (omega arith))

over_lines : (n : ℕ) (c : Chip) (events : List ℕ)
    → lines_from n events (next c events (length events)) ≡ []
over_lines zero c events = rw (over c events)
over_lines (suc n) c events = rw (over c events) (over_lines n c events)

-- a run that has ended before its first event, so its first line is its last
one_line : (e : Ending) (events : List ℕ) → found_at events 0 ≡ Err e
    → (printed events ≡ text_of (last_line e 0)) × ((next hard_reset events 0).chip ≡ hard_reset)
one_line e events found =
    let first : next hard_reset events 0 ≡ telling (last_line e 0) hard_reset (length events) =
    unfold next in rw found in
    (rw (first, over_lines 2 hard_reset events, append-nil (text_of (last_line e 0))), rw first)

-- and nothing is played
pub of_65537_bytes_too_long :
    (events : List ℕ) → length events ≡ 65537
    → (printed events ≡ too_long_words) × ((next hard_reset events 0).chip ≡ hard_reset)
unfolding with found_at
of_65537_bytes_too_long events long = one_line TooLong events (rw long)

pub of_65536_bytes_taken :
    (rest : List ℕ) → length rest ≡ 65535
    → (printed (10 ∷ rest) ≡ at unknown_word 49) × ((next hard_reset (10 ∷ rest) 0).chip ≡ hard_reset)
unfolding with decimal found_at
of_65536_bytes_taken rest long = one_line Unknown (10 ∷ rest) (rw long)
