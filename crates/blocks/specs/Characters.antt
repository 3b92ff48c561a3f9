-- Receiving a character at a time, and the characters of a block. Assumes nothing.
use Rattle.std.specs.Prelude.{Option, Some, None, option_to_list, ◌≡◌, Bool, true, false, not, ◌&&◌, List}
use Rattle.std.specs.Prelude.{[], ◌∷◌, ◌++◌, ℕ, zero, suc, ◌+◌, ◌<◌, length, replicate, if◌then◌else◌}
use Rattle.line.specs.Bits.{low_bits, text_bits, Below}
use Rattle.bytesync.specs.declared.Syncs.{Syncs}
use Rattle.bytesync.specs.declared.Matching.{Matching}
use Rattle.bytesync.specs.Hearing.{block, expected, leads}
use Rattle.blocks.specs.Heard.{Moment, along}

-- a character, and WR3 D3 on the tick of its last bit, which says whether the one before it enters
-- the check
pub record Character : Type 0 where
  pub byte : ℕ
  pub lets : Bool

abbrev pub char : ℕ → Bool → Character
char v i = record { byte = v; lets = i }

-- ticks that bring these characters; WR3 D3 is anything on ticks that end none
pub data Brings : List Character → List Moment → Type 0 where
  nothing : Brings [] []
  brings : {v : ℕ} {i : Bool} {cs : List Character} {ts : List Moment} (a b c d e f h : Bool)
      → v < 256 → Brings cs ts
      → Brings (char v i ∷ cs)
      (along (a ∷ b ∷ c ∷ d ∷ e ∷ f ∷ h ∷ i ∷ []) (low_bits 8 v) ++ ts)

-- "WR3 D1 keeps leading sync characters out of the queue": what is handed over, by leading and turn
unfoldable pub kept : Matching → Bool → Bool → List Character → List ℕ
kept g l t [] = []
kept g l t (c ∷ cs) =
    let s = leads g.syncs (block l t None) c.byte in
    (if not (s && g.strip) then c.byte ∷ [] else []) ++ kept g s (not t) cs

-- "A character enters the receive check when the next one has been assembled, if WR3 D3 is set at
-- that moment": what enters, by the one that waits, if there is one
unfoldable pub entrants : Option ℕ → List Character → List ℕ
entrants h [] = []
entrants h (c ∷ cs) = (if c.lets then option_to_list h else []) ++ entrants (Some c.byte) cs

-- the bits of ticks, and WR3 D3 on each eighth, the first of them behind n more
unfoldable pub bits_of : List Moment → List Bool
bits_of [] = []
bits_of (t ∷ ts) = t.bit ∷ bits_of ts

unfoldable pub ends_of : ℕ → List Moment → List Bool
ends_of n [] = []
ends_of zero (t ∷ ts) = t.checking ∷ ends_of 7 ts
ends_of (suc n) (t ∷ ts) = ends_of n ts

abbrev pub lets_of : List Moment → List Bool
lets_of ts = ends_of 7 ts

-- A block

-- the sync that hunt looks for: "Monosync .. matches WR7; Bisync uses WR6 then WR7"
abbrev pub pattern_bits : Syncs → List Bool
pattern_bits y =
    if y.both then low_bits 8 y.first ++ low_bits 8 y.second else low_bits 8 y.second

abbrev pub pattern_length : Syncs → ℕ
pattern_length y = if y.both then 16 else 8

-- k further sync characters, and whose turn it is behind them
unfoldable pub further_syncs : Syncs → Bool → ℕ → List ℕ
further_syncs y t zero = []
further_syncs y t (suc k) = expected y t ∷ further_syncs y (not t) k

unfoldable pub turn_after : Bool → ℕ → Bool
turn_after t zero = t
turn_after t (suc k) = turn_after (not t) k

-- characters with WR3 D3 all set or all clear
unfoldable pub each : Bool → List ℕ → List Character
each i [] = []
each i (v ∷ vs) = char v i ∷ each i vs

-- WR3 D3 clear when the first of them is complete, and set from then on: all but the last enter
unfoldable pub let_in : List ℕ → List Character
let_in [] = []
let_in (v ∷ vs) = char v false ∷ each true vs

-- the first character behind the match finds none that waits: WR3 D3 may be either on its last tick
unfoldable pub first_free : Bool → List Character → List Character
first_free i [] = []
first_free i (c ∷ cs) = char c.byte i ∷ cs

-- behind the match: k further syncs, bytes, and a last character; WR3 D3 lets exactly the bytes in
abbrev pub block_of : Syncs → Bool → ℕ → List ℕ → ℕ → List Character
block_of y i k vs w = first_free i (each false (further_syncs y false k) ++ let_in (vs ++ (w ∷ [])))

-- what of it is handed over: the further syncs, none of them if WR3 D1 is set, the bytes, the last
abbrev pub block_given : Matching → ℕ → List ℕ → ℕ → List ℕ
block_given g k vs w =
    (if g.strip then [] else further_syncs g.syncs false k) ++ (vs ++ (w ∷ []))

-- the same on the line, and WR3 D3 on the last tick of each character: set for just the bytes, n of
-- them, which are complete before the one behind them is
abbrev pub block_bytes : Syncs → ℕ → List ℕ → ℕ → List ℕ
block_bytes y k vs w = further_syncs y false k ++ (vs ++ (w ∷ []))

abbrev pub letting : Bool → ℕ → ℕ → List Bool
letting i k n = i ∷ (replicate k false ++ replicate n true)

-- ticks that bring a sync, such a block, and a last character
pub record Feeds (y : Syncs) (k : ℕ) (vs : List ℕ) (w : ℕ) (ts : List Moment) : Type 0 where
  pub bits : bits_of ts ≡ pattern_bits y ++ text_bits 8 (block_bytes y k vs w)
  pub first : Bool
  pub lets : ends_of (pattern_length y + 7) ts ≡ letting first k (length vs)
  pub below : Below 256 (block_bytes y k vs w)
