-- 02, P3: the receiver of Monosync and Bisync, a bit at a time, while it is on. Every receiver and
-- every setting is accepted, also one that no history made. Assumes nothing.
use Rattle.std.specs.Prelude.{Option, Some, None, Bool, true, false, not, ◌&&◌, ℕ, ◌+◌, ◌*◌, ◌/◌, eqb, ltb, leb, if◌then◌else◌}
use Rattle.line.specs.Bits.{one_if, low_bits}
use Rattle.line.specs.Check.{check_over}
use Rattle.entry.specs.Entry.{plain_entry}
use Rattle.entry.specs.declared.Entry.{Entry}
use Rattle.bytesync.specs.declared.Syncs.{Syncs}
use Rattle.bytesync.specs.declared.Matching.{Matching}
use Rattle.bytesync.specs.declared.Block.{Block}
use Rattle.bytesync.specs.declared.Reception.{Reception}
use Rattle.bytesync.specs.declared.Matched.{Matched}
use Rattle.bytesync.specs.Syncs.{pair}

-- The parts of a receiver

abbrev pub matching : Syncs → Bool → Bool → ℕ → Matching
matching s strip checking p =
    record { syncs = s; strip = strip; checking = checking; polynomial = p }

-- behind the match: l, none but syncs has come; t, whose turn it is in Bisync; a character waits to
-- enter the check, or none
abbrev pub block : Bool → Bool → Option ℕ → Block
block l t h = record { leading = l; turn = t; held = h }

-- no character has come; l: the sync has
abbrev pub no_block : Bool → Block
no_block l = block l false None

-- s: the last bits, the newest highest; n of them
abbrev pub reception : Bool → ℕ → ℕ → Block → Reception
reception h s n d = record { hunt = h; bits = s; count = n; block = d }

-- no bit has come: of what hunt looks for, if h, or of a character
abbrev pub reception_at : Bool → Block → Reception
reception_at h d = reception h 0 0 d

-- "Enter Hunt starts the search again": nothing of what has been heard is left
abbrev pub searching : Bool → Reception
searching h = reception_at h (no_block false)

-- what a tick gives: the receiver, the check, and an entry for the queue or none
abbrev pub matched : Reception → ℕ → Option Entry → Matched
matched r c e = record { reception = r; check = c; entry = e }

abbrev pub unmatched : Reception → ℕ → Matched
unmatched r c = matched r c None

-- Hunt

-- low bit first: a bit enters from above, and the last eight are a character
abbrev pub shift_in : Bool → ℕ → ℕ
shift_in b s = s / 2 + one_if b * 32768

abbrev pub last_eight : ℕ → ℕ
last_eight s = s / 256

-- bits since hunt began; more than a Bisync sync has are counted as so many
abbrev pub counted : ℕ → ℕ
counted n = if ltb n 16 then n + 1 else 16

-- "Monosync .. matches WR7; Bisync uses WR6 then WR7": all eight or sixteen came since hunt began
unfoldable pub sync_seen : Syncs → ℕ → ℕ → Bool
sync_seen y n s =
    if y.both then leb 16 n && eqb s (pair y) else leb 8 n && eqb (last_eight s) y.second

-- the matched sync is neither queued nor checked; the next bit is the first of a character
unfoldable pub hunting : Matching → Reception → ℕ → Bool → Matched
hunting g r c b =
    let s = shift_in b r.bits in
    let n = counted r.count in
    if sync_seen g.syncs n s then unmatched (reception_at false (no_block true)) c
    else unmatched (reception true s n r.block) c

-- Characters

-- the next leading sync: Monosync compares with WR7, Bisync in turn with WR6, WR7, WR6, and so on
abbrev pub expected : Syncs → Bool → ℕ
expected y turn = if y.both && not turn then y.first else y.second

-- leading lasts from the match to the first character that is no sync
abbrev pub leads : Syncs → Block → ℕ → Bool
leads y d v = d.leading && eqb v (expected y d.turn)

-- the check c behind a character that waits, if one does
abbrev pub check_behind : ℕ → ℕ → Option ℕ → ℕ
check_behind p c None = c
check_behind p c (Some v) = check_over p c (low_bits 8 v)

-- "A character enters the receive check when the next one has been assembled, if WR3 D3 is set at
-- that moment": d is what stood before the next one
unfoldable pub entering : Matching → Block → ℕ → ℕ
entering g d c = if g.checking then check_behind g.polynomial c d.held else c

-- a character v is complete: "WR3 D1 keeps leading sync characters out of the queue"
unfoldable pub arrived : Matching → Block → ℕ → ℕ → Matched
arrived g d c v =
    let l = leads g.syncs d v in
    matched (reception_at false (block l (not d.turn) (Some v))) (entering g d c)
    (if l && g.strip then None else Some (plain_entry v false false))

-- "eight bits, no parity": the place of the last
abbrev pub last_bit : ℕ
last_bit = 7

unfoldable pub assembling : Matching → Reception → ℕ → Bool → Matched
assembling g r c b =
    let s = shift_in b r.bits in
    if ltb r.count last_bit then unmatched (reception false s (r.count + 1) r.block) c
    else arrived g r.block c (last_eight s)

-- A tick while on; c is the check
unfoldable pub hear_block : Matching → Reception → ℕ → Bool → Matched
hear_block g r c b = if r.hunt then hunting g r c b else assembling g r c b

-- "RR1 D6 is then 1 exactly while that check is not zero"
abbrev pub wrong : ℕ → Bool
wrong c = not (eqb c 0)
