-- 02, P10: "Most notes start with the same printed heading. We'd like its check worked out once."
-- Assumes nothing.
use Rattle.std.specs.Prelude.{Result, Ok, Err, List, ℕ, ◌+◌, length, if◌then◌else◌}
use Rattle.common.specs.declared.Refusal.{Refusal}
use Rattle.common.specs.declared.Refusal.TheVariants.{NoteLength}
use Rattle.line.specs.Check.{sdlc, complement, check_over}
use Rattle.line.specs.Frame.{note_bits}
use Rattle.line.specs.Line.{note_fits}
use Rattle.joining.specs.Rule.{sdlc_rule, check_by}
use Rattle.joining.specs.Join.{joined_by}
use Rattle.heading.specs.declared.Heading.{Heading}

-- a note's check as it is sent; 01, refusal 6: "a note's length is 0 or above 2,048"
unfoldable pub note_check_of : List ℕ → Result ℕ Refusal
note_check_of note =
    if note_fits (length note) then Ok (check_by sdlc_rule note) else Err NoteLength

abbrev pub heading_of : List ℕ → Heading
heading_of text = record { check = check_by sdlc_rule text; length = length text }

-- "the register after two joined parts is the register after the second, started from that after
-- the first"
unfoldable pub with_body : Heading → List ℕ → Result ℕ Refusal
with_body h body =
    if note_fits (h.length + length body)
    then Ok (complement (check_over sdlc (complement h.check) (note_bits body)))
    else Err NoteLength

-- the same from the check of a body of k bytes
unfoldable pub with_checked_body : Heading → ℕ → ℕ → Result ℕ Refusal
with_checked_body h body k =
    if note_fits (h.length + k)
    then Ok (joined_by sdlc_rule h.check body k)
    else Err NoteLength
