-- The kinds of items, and what stands behind an item of each. Assumes nothing.
use Rattle.std.specs.Prelude.{Bool, true, false, ℕ, eqb, ltb, if◌then◌else◌}
use Rattle.items.specs.declared.Kind.{Kind}
use Rattle.items.specs.declared.Kind.TheVariants.{Event, Register, Name, Given, Wanted, NoteList}
use Rattle.items.specs.declared.Kind.TheVariants.{SharedList, Pages, Zeros, Line, Scan, Stop}
use Rattle.items.specs.declared.Kind.TheVariants.{Unknown}

-- each by its byte; below the first of the others they are events by their codes
abbrev pub kind_of : ℕ → Kind
kind_of v =
    if ltb v 10 then Event v
    else (if eqb v 10 then Register
    else (if eqb v 11 then Name
    else (if eqb v 12 then Given
    else (if eqb v 13 then Wanted
    else (if eqb v 14 then NoteList
    else (if eqb v 15 then SharedList
    else (if eqb v 16 then Pages
    else (if eqb v 17 then Zeros
    else (if eqb v 18 then Line
    else (if eqb v 19 then Scan
    else (if eqb v 255 then Stop
    else Unknown)))))))))))

-- bytes for a call, or bytes that it must leave
abbrev pub lies : Kind → Bool
lies Given = true
lies Wanted = true
lies _ = false

-- x bytes stand behind a name, and behind bytes for a call
abbrev pub bytes_behind : Kind → ℕ → ℕ
bytes_behind Name x = x
bytes_behind Given x = x
bytes_behind Wanted x = x
bytes_behind _ x = 0

-- there is no more
abbrev pub stops : Kind → Bool
stops Stop = true
stops _ = false
