-- What a receiver of these modes that stays on hears over a stream of ticks: where it ends, its
-- check, and what it has handed over. WR3 D3 may change from tick to tick. Assumes nothing.
use Rattle.std.specs.Prelude.{option_to_list, Bool, false, List, [], ◌∷◌, ◌++◌, ℕ}
use Rattle.entry.specs.declared.Entry.{Entry}
use Rattle.entry.specs.Entry.{plain_entry}
use Rattle.bytesync.specs.declared.Matching.{Matching}
use Rattle.bytesync.specs.declared.Reception.{Reception}
use Rattle.bytesync.specs.declared.Matched.{Matched}
use Rattle.bytesync.specs.Hearing.{hear_block}

-- a receive tick: WR3 D3 at that moment, and the bit
pub record Moment : Type 0 where
  pub checking : Bool
  pub bit : Bool

abbrev pub moment : Bool → Bool → Moment
moment i b = record { checking = i; bit = b }

-- settings with this WR3 D3
abbrev pub heeding : Matching → Bool → Matching
heeding g i =
    record { syncs = g.syncs; strip = g.strip; checking = i; polynomial = g.polynomial }

-- what a tick hands over: an entry or none
abbrev pub handed : Matched → List Entry
handed h = option_to_list h.entry

-- the receiver and its check behind a stream, and the entries that it handed over on the way
pub record Final : Type 0 where
  pub reception : Reception
  pub check : ℕ
  pub got : List Entry

abbrev pub final : Reception → ℕ → List Entry → Final
final r c es = record { reception = r; check = c; got = es }

abbrev pub before : List Entry → Final → Final
before es f = final f.reception f.check (es ++ f.got)

unfoldable pub hear_all : Matching → Reception → ℕ → List Moment → Final
hear_all g r c [] = final r c []
hear_all g r c (t ∷ ts) =
    let h = hear_block (heeding g t.checking) r c t.bit in
    before (handed h) (hear_all g h.reception h.check ts)

-- bits, with WR3 D3 beside each
unfoldable pub along : List Bool → List Bool → List Moment
along [] bs = []
along (i ∷ is) [] = []
along (i ∷ is) (b ∷ bs) = moment i b ∷ along is bs

-- characters as they are handed over: never with a mark
unfoldable pub entries_of : List ℕ → List Entry
entries_of [] = []
entries_of (v ∷ vs) = plain_entry v false false ∷ entries_of vs
