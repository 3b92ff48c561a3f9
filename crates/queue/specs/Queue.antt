-- The receive queue and the bits of RR1 that it decides: 01, Registers (RR1), Receiving (the queue)
-- and Interrupts (special). Every queue is accepted, also one whose count no history made. Assumes
-- nothing.
use Rattle.std.specs.Prelude.{Bool, false, not, ◌||◌, List, [], ◌∷◌, ℕ, ◌+◌, ◌-◌, eqb, ltb, set, get_or, if◌then◌else◌}
pub use Rattle.queue.specs.declared.Queue.{Queue}
use Rattle.entry.specs.declared.Entry.{Entry}
use Rattle.entry.specs.Entry.{no_entry, overran, rr1_with, rr1_of, special_of}

-- 01, Receiving: "The queue has three entries": there is room for these, and the newest stands last
abbrev pub room : ℕ
room = 3

abbrev pub newest : ℕ
newest = 2

abbrev pub queue : List Entry → ℕ → Bool → Bool → Queue
queue es n p o = record { entries = es; count = n; parity = p; overrun = o }

-- 01, Registers: a channel reset "empties buffer and queue" and "clears .. RR1 D4 and D5"
abbrev pub empty : Queue
empty = queue (no_entry ∷ no_entry ∷ no_entry ∷ []) 0 false false

-- "D4 and D5 are latched when an entry so marked becomes the oldest, until Error Reset": e becomes
-- the oldest
abbrev pub latching : Queue → List Entry → ℕ → Entry → Queue
latching q es n e = queue es n (e.parity || q.parity) (e.overrun || q.overrun)

-- the latches stay
abbrev pub keeping : Queue → List Entry → ℕ → Queue
keeping q es n = queue es n q.parity q.overrun

-- 01, Receiving: "a fourth replaces the newest and is marked overrun"
unfoldable pub pushed : Queue → Entry → Queue
pushed q e =
    if eqb q.count 0 then latching q (set q.entries 0 e) 1 e
    else (if ltb q.count room then keeping q (set q.entries q.count e) (q.count + 1)
    else keeping q (set q.entries newest (overran e)) q.count)

-- the entries, each moved up by one
abbrev pub moved_up : List Entry → List Entry
moved_up es = get_or es 1 no_entry ∷ get_or es 2 no_entry ∷ no_entry ∷ []

-- 01, Receiving: "A data read takes the oldest ..; with none waiting it .. changes nothing"
unfoldable pub taken : Queue → Queue
taken q =
    if eqb q.count 0 then q
    else (if eqb q.count 1 then keeping q (moved_up q.entries) 0
    else latching q (moved_up q.entries) (q.count - 1) (get_or q.entries 1 no_entry))

-- the oldest entry, or one with nothing in it: "with none waiting it gives 0"
unfoldable pub oldest : Queue → Entry
oldest q = if eqb q.count 0 then no_entry else get_or q.entries 0 no_entry

-- 01, Registers: RR0 "D0 character waits"
abbrev pub waits : Queue → Bool
waits q = not (eqb q.count 0)

-- 01, Registers: "6 Error Reset": the two latches and nothing else
abbrev pub error_reset : Queue → Queue
error_reset q = queue q.entries q.count false false

-- 01, Registers: RR1, of the oldest entry and the latches
unfoldable pub rr1 : Queue → Bool → ℕ
rr1 q sent = rr1_of (oldest q) sent q.parity q.overrun

-- 02, P3: "RR1 D6 is then 1 exactly while that check is not zero": D6 is told, whatever the oldest
-- entry
unfoldable pub rr1_told : Queue → Bool → Bool → ℕ
rr1_told q sent error = rr1_with (oldest q) sent q.parity q.overrun error

-- 01, Interrupts: "if the oldest entry is special"
unfoldable pub special : Queue → Bool → Bool
special q parity = special_of (oldest q) parity
