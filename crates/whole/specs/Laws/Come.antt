-- The laws of what is to come: a tick in time takes the first bit, a write takes none. Assumes
-- nothing.
use Rattle.std.specs.Prelude.{◌≡◌, refl, Bool, true, Option, Some, None, is_some, List, [], ◌∷◌, ◌++◌, ℕ, zero, suc, ◌+◌, ◌/◌, ◌≤◌, ltb, length}
use Rattle.std.proofs.Common.{sym, ap, ◌∙◌, append_assoc, arith, ltb-true}
use Rattle.std.proofs.Math.Bool.{false}
use Rattle.common.specs.Tools.{void}
use Rattle.line.specs.Bits.{odd, low_bits, text_bits}
use Rattle.line.specs.Check.{sdlc, top, shifted, complement, check_over, top_bits, check_bits}
use Rattle.line.specs.Insertion.{owes, run_after, zero_if, stuff}
use Rattle.line.specs.Frame.{flag_bits}
use Rattle.line.specs.Laws.Check.{check_join}
use Rattle.shared.specs.Shared.{shared, full}
use Rattle.sdlc.specs.declared.LineUnit.TheVariants.{Flag, Byte, Check, Abort}
use Rattle.sdlc.specs.declared.Framer.{Framer}
use Rattle.sdlc.specs.Sending.{framed, tick_sdlc}
use Rattle.sdlc.specs.Laws.Tick.{tick_owed, tick_flag, tick_byte, tick_check, tick_abort}
use Rattle.sdlc.specs.Laws.Tick.{tick_chooses, next_flag_full, next_byte_full, next_byte_check}
use Rattle.sdlc.specs.Laws.Tick.{next_check, next_abort}
use Rattle.whole.specs.Come.{good, waiting, closed, to_come, filled_with}
use Rattle.whole.specs.Stage.{since_after, in_time, Stage, opening, in_byte, in_check, closing}
use Rattle.whole.specs.Stage.{cut_off}

-- Bits

-- a content bit is sent, then the zero that it owes
pub stuffed : (r : ℕ) (b : Bool) (bs tail : List Bool)
    → stuff r (b ∷ bs) ++ tail ≡ b ∷ (zero_if (owes r b) ++ (stuff (run_after r b) bs ++ tail))
unfolding stuff
stuffed r b bs tail =
    ap (λ (l : List Bool). b ∷ l) (append_assoc (zero_if (owes r b)) (stuff (run_after r b) bs) tail)

-- the first bit of the byte that waits; the byte enters the check
pub load : (r c b : ℕ) (rest : List ℕ)
    → let r₁ = run_after r (odd b) in
    let c₁ = check_over sdlc c (low_bits 8 b) in
    closed r c [] (b ∷ rest)
    ≡ odd b ∷ (zero_if (owes r (odd b)) ++ closed r₁ c₁ (low_bits 7 (b / 2)) rest)
unfolding closed text_bits
load r c b rest =
    let k = check_bits (check_over sdlc (check_over sdlc c (low_bits 8 b)) (text_bits 8 rest)) in
    ap (λ (x : ℕ). stuff r ((low_bits 8 b ++ text_bits 8 rest) ++ check_bits x) ++ flag_bits)
    (check_join sdlc c (low_bits 8 b) (text_bits 8 rest))
    ∙ ap (λ (l : List Bool). stuff r l ++ flag_bits) (append_assoc (low_bits 8 b) (text_bits 8 rest) k)
    ∙ unfold low_bits in (stuffed r (odd b) (low_bits 7 (b / 2) ++ (text_bits 8 rest ++ k)) flag_bits)

-- the next bit of the byte under way
pub byte_on_lem : (r c k v : ℕ) (vs : List ℕ)
    → let r₁ = run_after r (odd v) in
    closed r c (low_bits (suc k) v) vs
    ≡ odd v ∷ (zero_if (owes r (odd v)) ++ closed r₁ c (low_bits k (v / 2)) vs)
unfolding closed low_bits
byte_on_lem r c k v vs =
    let check = check_bits (check_over sdlc c (text_bits 8 vs)) in
    stuffed r (odd v) (low_bits k (v / 2) ++ (text_bits 8 vs ++ check)) flag_bits

-- the first bit of the check
pub check_starts : (r c : ℕ)
    → let x = complement c in
    let r₁ = run_after r (top x) in
    closed r c [] []
    ≡ top x ∷ (zero_if (owes r (top x)) ++ (stuff r₁ (top_bits 15 (shifted x)) ++ flag_bits))
unfolding closed text_bits check_over check_bits top_bits
check_starts r c = stuffed r (top (complement c)) (top_bits 15 (shifted (complement c))) flag_bits

-- Counts

-- the count behind a tick that leaves the buffer as it is
abbrev since_kept : Option ℕ → ℕ → ℕ
since_kept b n = since_after (is_some b) (is_some b) n

since_same : (b : Option ℕ) (n : ℕ) → since_kept b n ≡ n + 1
since_same (Some v) n = refl
since_same None n = refl

pub too_late : (n : ℕ) → ltb (n + 1) 8 ≡ true → 7 ≤ n → ⊥
too_late n e h = omega (arith, ltb-true (n + 1) 8 e)

-- A tick in time takes the first bit of what is to come

pub record Takes (a : Bool) (s : Framer) (n : ℕ) (rest : List ℕ) : Type 0 where
  pub sent : Bool
  pub loaded : Bool
  pub next : Framer
  pub ticks : tick_sdlc good s ≡ framed sent loaded next
  pub head : to_come s rest ≡ sent ∷ to_come next rest
  pub stage : Stage a next (since_after (full s.shared) (full next.shared) n) rest

module _ {a : Bool} {s : Framer} {n : ℕ} {rest : List ℕ} where
  by : {sent loaded : Bool} {next : Framer} → tick_sdlc good s ≡ framed sent loaded next
      → to_come s rest ≡ sent ∷ to_come next rest
      → Stage a next (since_after (full s.shared) (full next.shared) n) rest → Takes a s n rest
  by {sent} {loaded} {next} e h g = record {
    sent = sent;
    loaded = loaded;
    next = next;
    ticks = e;
    head = h;
    stage = g;
  }

pub takes : {a : Bool} {s : Framer} {n : ℕ} {rest : List ℕ} → Stage a s n rest
    → in_time (full s.shared) n rest ≡ true → 1 ≤ length (to_come s rest) → Takes a s n rest
takes (opening (suc k) b c n rest m p) t l =
    by (tick_flag good (shared b false c) k 0) refl
    (opening k b c (since_kept b n) rest (rw (since_same b n) (omega arith)) p)
takes (opening zero (Some b) c n rest m p) t l =
    let x = shared (Some b) false c in
    let d = check_over sdlc c (low_bits 8 b) in
    by (tick_chooses good 0 x (Flag 0) refl ∙ next_flag_full good 0 x refl 0 refl) (load 0 c b rest)
    (in_byte 7 (b / 2) (run_after 0 (odd b)) (owes 0 (odd b)) None d 0 rest (omega arith))
takes (opening zero None c n [] m p) t l = absurd p
takes (opening zero None c n (v ∷ rest) m p) t l = absurd (too_late n t (omega arith))
takes (in_byte k v r true b c n rest m) t l =
    by (tick_owed good (shared b false c) (Byte k v) r) refl
    (in_byte k v r false b c (since_kept b n) rest (rw (since_same b n) (omega arith)))
takes (in_byte (suc k) v r false b c n rest m) t l =
    let x = shared b false c in
    by (tick_byte good x k v r) (byte_on_lem r c k v (waiting x rest))
    (in_byte k (v / 2) (run_after r (odd v)) (owes r (odd v)) b c (since_kept b n) rest
    (rw (since_same b n) (omega arith)))
takes (in_byte zero v r false (Some b) c n rest m) t l =
    let x = shared (Some b) false c in
    let d = check_over sdlc c (low_bits 8 b) in
    by (tick_chooses good r x (Byte 0 v) refl ∙ next_byte_full good r x refl 0 v refl)
    (unfold low_bits in (load r c b rest))
    (in_byte 7 (b / 2) (run_after r (odd b)) (owes r (odd b)) None d 0 rest (omega arith))
takes (in_byte zero v r false None c n [] m) t l =
    let x = shared None false c in
    let y = complement c in
    by (tick_chooses good r x (Byte 0 v) refl ∙ next_byte_check good r x refl 0 v refl refl refl)
    (unfold low_bits in (check_starts r c))
    (in_check 15 (shifted y) (run_after r (top y)) (owes r (top y)) None c (n + 1))
takes (in_byte zero v r false None c n (x ∷ rest) m) t l = absurd (too_late n t (omega arith))
takes (in_check k v r true b c n) t l =
    by (tick_owed good (shared b true c) (Check k v) r) refl
    (in_check k v r false b c (since_kept b n))
takes (in_check (suc k) v r false b c n) t l =
    by (tick_check good (shared b true c) k v r)
    (unfold top_bits in (stuffed r (top v) (top_bits k (shifted v)) flag_bits))
    (in_check k (shifted v) (run_after r (top v)) (owes r (top v)) b c (since_kept b n))
takes (in_check zero v r false b c n) t l =
    let x = shared b true c in
    by (tick_chooses good r x (Check 0 v) refl ∙ next_check good r x refl 0 v)
    (unfold top_bits stuff in refl) (closing 7 b c (since_kept b n))
takes (closing (suc k) b c n) t l =
    by (tick_flag good (shared b true c) k 0) refl (closing k b c (since_kept b n))
takes (closing zero b c n) t l = absurd (omega arith)
takes (cut_off (suc k) b c n) t l =
    by (tick_abort good (shared b true c) k 0) refl (cut_off k b c (since_kept b n))
takes (cut_off zero b c n) t l =
    let x = shared b true c in
    by (tick_chooses good 0 x (Abort 0) refl ∙ next_abort good 0 x refl 0) refl
    (closing 7 b c (since_kept b n))

-- Writes

-- into the empty buffer: the byte moves from what is to be written to what waits
pub moves : {a : Bool} {s : Framer} {n v : ℕ} {rest : List ℕ} → Stage a s n (v ∷ rest)
    → full s.shared ≡ false
    → (to_come s (v ∷ rest) ≡ to_come (filled_with s v) rest) × Stage a (filled_with s v) n rest
moves (opening k (Some b) c n rest m p) e = void (sym e)
moves {v = v} {rest = rest} (opening k None c n _ m p) e = (refl, opening k (Some v) c n rest m tt)
moves (in_byte k x r o (Some b) c n rest m) e = void (sym e)
moves {v = v} {rest = rest} (in_byte k x r o None c n _ m) e =
    (refl, in_byte k x r o (Some v) c n rest m)

-- once the latch is set: the byte is another frame's
pub later : {a : Bool} {s : Framer} {n : ℕ} (v : ℕ) → Stage a s n [] → s.shared.latch ≡ true
    → (to_come s [] ≡ to_come (filled_with s v) []) × Stage a (filled_with s v) n []
later v (opening k b c n rest m p) e = void e
later v (in_byte k x r o b c n rest m) e = void e
later v (in_check k x r o b c n) e = (refl, in_check k x r o (Some v) c n)
later v (closing k b c n) e = (refl, closing k (Some v) c n)
later v (cut_off k b c n) e = (refl, cut_off k (Some v) c n)
