-- 02, P3: the receive check at every moment since its preset. Ticks, each with settings of its own,
-- and what starts the search again: Enter Hunt, and a tick while off. Assumes nothing.
use Rattle.std.specs.Prelude.{Option, Some, None, option_map, option_to_list, Bool, true, List, [], ◌∷◌, ◌++◌, ℕ, ltb, if◌then◌else◌}
use Rattle.line.specs.Bits.{low_bits}
use Rattle.line.specs.Check.{check_over}
use Rattle.bytesync.specs.declared.Matching.{Matching}
use Rattle.bytesync.specs.declared.Reception.{Reception}
use Rattle.bytesync.specs.Hearing.{searching, shift_in, last_eight, last_bit, hear_block}

pub data Doing : Type 0 where
  Hears : Matching → Bool → Doing
  Searches : Doing

-- what is left behind it: the receiver, and the check
pub record State : Type 0 where
  pub reception : Reception
  pub check : ℕ

abbrev pub state : Reception → ℕ → State
state r c = record { reception = r; check = c }

abbrev pub does : State → Doing → State
does s (Hears g b) =
    let h = hear_block g s.reception s.check b in state h.reception h.check
does s Searches = state (searching true) s.check

unfoldable pub state_behind : State → List Doing → State
state_behind s [] = s
state_behind s (x ∷ xs) = state_behind (does s x) xs

-- What was heard: a character complete, with WR3 D3 and the polynomial on that tick; or hunt, in
-- which nothing waits to enter the check; or neither

pub data Tale : Type 0 where
  Complete : ℕ → Bool → ℕ → Tale
  Hunt : Tale
  Within : Tale

-- a tick: in hunt; within a character; its last bit
abbrev pub told : Reception → Doing → Tale
told r (Hears g b) =
    if r.hunt then Hunt
    else (if ltb r.count last_bit then Within
    else Complete (last_eight (shift_in b r.bits)) g.checking g.polynomial)
told r Searches = Hunt

unfoldable pub tales : State → List Doing → List Tale
tales s [] = []
tales s (x ∷ xs) = told s.reception x ∷ tales (does s x) xs

-- What enters the check, and over which polynomial: each character for which WR3 D3 was set when
-- the next one was complete, no hunt between them

pub record Entrant : Type 0 where
  pub polynomial : ℕ
  pub byte : ℕ

abbrev pub entrant : ℕ → ℕ → Entrant
entrant p v = record { polynomial = p; byte = v }

-- what waits: a character or none
unfoldable pub entrants_of : Option ℕ → List Tale → List Entrant
entrants_of h [] = []
entrants_of h (Complete v i p ∷ ts) =
    (if i then option_to_list (option_map (entrant p) h) else []) ++ entrants_of (Some v) ts
entrants_of h (Hunt ∷ ts) = entrants_of None ts
entrants_of h (Within ∷ ts) = entrants_of h ts

-- the check over what enters, and all of it over one polynomial
unfoldable pub check_through : ℕ → List Entrant → ℕ
check_through c [] = c
check_through c (e ∷ es) = check_through (check_over e.polynomial c (low_bits 8 e.byte)) es

unfoldable pub all_over : ℕ → List ℕ → List Entrant
all_over p [] = []
all_over p (v ∷ vs) = entrant p v ∷ all_over p vs
