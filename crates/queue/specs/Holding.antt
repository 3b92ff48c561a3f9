-- What statements say of a queue: that a history made it, and which entries it holds. Assumes
-- nothing.
use Rattle.std.specs.Prelude.{◌≡◌, Bool, true, false, List, [], ◌∷◌, ℕ, ◌≤◌, length}
use Rattle.entry.specs.declared.Entry.{Entry}
use Rattle.entry.specs.Entry.{plain_entry}
use Rattle.queue.specs.Queue.{Queue, queue, room}

-- what only a queue with a history has: three entries, and no more of them wait
pub record SoundQueue (q : Queue) : Type 0 where
  pub whole : length q.entries ≡ room
  pub within : q.count ≤ room

-- no mark but, at a frame's end, the end mark and a bad check
pub data Plain : Entry → Type 0 where
  plain : {v : ℕ} {e b : Bool} → Plain (plain_entry v e b)

abbrev three : Entry → Entry → Entry → List Entry
three a b c = a ∷ b ∷ c ∷ []

-- a queue with latches p and o that holds just these plain entries, oldest first
pub data Holds (p o : Bool) : Queue → List Entry → Type 0 where
  h0 : {a b c : Entry} → Holds p o (queue (three a b c) 0 p o) []
  h1 : {a b c : Entry} → Plain a → Holds p o (queue (three a b c) 1 p o) (a ∷ [])
  h2 : {a b c : Entry} → Plain a → Plain b → Holds p o (queue (three a b c) 2 p o) (a ∷ b ∷ [])
  h3 : {a b c : Entry} → Plain a → Plain b → Plain c
      → Holds p o (queue (three a b c) 3 p o) (three a b c)

-- an entry, if there is one
abbrev pub entry_if : Bool → Entry → List Entry
entry_if true e = e ∷ []
entry_if false e = []
