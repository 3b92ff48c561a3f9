-- One tick of a sender within a frame, whatever waits in its buffer: what comes on the line is
-- given by the bytes that will be loaded and by the flags that will pass before the first of them.
-- Assumes nothing.
use Rattle.std.specs.Prelude.{◌≡◌, Bool, true, false, not, ◌&&◌, List, [], ◌∷◌, ◌++◌, ℕ, zero, suc, ◌+◌, ◌*◌, ◌/◌, ◌≤◌, if◌then◌else◌, Option, Some, None}
use Rattle.std.proofs.Math.Path.{refl, sym}
use Rattle.std.proofs.Common.{ap, ap₂, ◌∙◌, subst, arith}
use Rattle.std.proofs.Math.Dec.{eqb-suc-zero}
use Rattle.common.specs.Tools.{void}
use Rattle.line.specs.Bits.{odd, low_bits}
use Rattle.line.specs.Check.{sdlc, top, shifted, complement, check_over, top_bits}
use Rattle.line.specs.Insertion.{owes, run_after, zero_if, stuff}
use Rattle.line.specs.Frame.{flag_bits}
use Rattle.line.specs.declared.Insertion.{Insertion}
use Rattle.shared.specs.declared.Shared.{Shared}
use Rattle.shared.specs.Shared.{shared, full, waiting_byte}
use Rattle.sdlc.specs.declared.LineUnit.{LineUnit}
use Rattle.sdlc.specs.declared.LineUnit.TheVariants.{Mark, Flag, Byte, Check, Abort}
use Rattle.sdlc.specs.declared.Framer.{Framer}
use Rattle.sdlc.specs.Sending.{insertion, not_counted, framer, framed, tick_sdlc}
use Rattle.sdlc.specs.Laws.Tick.{tick_owed, tick_flag, tick_byte, tick_check}
use Rattle.sdlc.specs.Laws.Tick.{tick_chooses, next_flag_full, next_flag_empty, next_byte_full}
use Rattle.sdlc.specs.Laws.Tick.{next_byte_check, next_check}
use Rattle.whole.specs.Come.{good, flag_tail, waiting}
use Rattle.whole.specs.Come as come
use Rattle.whole.specs.Start.{frame_ended}
use Rattle.whole.specs.Laws.Come.{stuffed, load, byte_on_lem, check_starts}
use Rattle.hosts.specs.Loaded.{byte_if, leaves, flag_over, idles, on_more, flags}

-- the senders of a frame
pub data Going : Framer → Type 0 where
  opening : (k : ℕ) (b : Option ℕ) (c : ℕ) → Going (framer (Flag k) not_counted (shared b false c))
  in_byte : (k v r : ℕ) (o : Bool) (b : Option ℕ) (c : ℕ)
      → Going (framer (Byte k v) (insertion r o) (shared b false c))
  in_check : (k v r : ℕ) (o : Bool) (b : Option ℕ) (c : ℕ)
      → Going (framer (Check k v) (insertion r o) (shared b true c))
  closing : (k : ℕ) (b : Option ℕ) (c : ℕ) → Going (framer (Flag k) not_counted (shared b true c))

-- what comes, if n more flags pass and then these bytes are loaded
abbrev pub comes : Insertion → Bool → ℕ → ℕ → List ℕ → LineUnit → List Bool
comes i latch check n bytes Mark = []
comes i latch check n bytes (Flag m) =
    if latch then flag_tail m else flag_tail m ++ (flags n ++ come.closed i.run check [] bytes)
comes i latch check n bytes (Byte m v) =
    zero_if i.owed ++ come.closed i.run check (low_bits m v) bytes
comes i latch check n bytes (Check m v) =
    zero_if i.owed ++ (stuff i.run (top_bits m v) ++ flag_bits)
comes i latch check n bytes (Abort m) = []

abbrev pub ahead : Framer → ℕ → List ℕ → List Bool
ahead s n bytes = comes s.insertion s.shared.latch s.shared.check n bytes s.unit

-- flags pass before the first byte alone, and no byte is loaded once the latch is set
abbrev pub may : Bool → ℕ → List ℕ → LineUnit → Type 0
may latch n bytes Mark = Unit
may true n bytes (Flag m) = (n ≡ 0) × (bytes ≡ [])
may false n bytes (Flag m) = Unit
may latch n bytes (Byte m v) = n ≡ 0
may latch n bytes (Check m v) = (n ≡ 0) × (bytes ≡ [])
may latch n bytes (Abort m) = Unit

abbrev pub May : Framer → ℕ → List ℕ → Type 0
May s n bytes = may s.shared.latch n bytes s.unit

-- what the host still means to have in this frame, `rest` being unwritten
abbrev pub meant : Framer → List ℕ → List ℕ
meant s rest = if s.shared.latch then [] else waiting s.shared rest

-- an opening flag is under way
abbrev pub flag_unit : LineUnit → Bool
flag_unit Mark = false
flag_unit (Flag n) = true
flag_unit (Byte n v) = false
flag_unit (Check n v) = false
flag_unit (Abort n) = false

-- the bits that are left of a flag
abbrev pub flag_left : LineUnit → ℕ
flag_left Mark = 0
flag_left (Flag n) = n
flag_left (Byte n v) = 0
flag_left (Check n v) = 0
flag_left (Abort n) = 0

abbrev pub unopened : Framer → Bool
unopened s = not s.shared.latch && flag_unit s.unit

-- A tick: the first bit of what comes
pub record Steps (s : Framer) : Type 0 where
  pub sent : Bool
  pub load : Bool
  pub next : Framer
  pub ticks : tick_sdlc good s ≡ framed sent load next
  pub going : Going next
  pub may_be : (n : ℕ) (bytes : List ℕ) → May next n bytes
      → May s (on_more (idles s) n) (leaves s next ++ bytes)
  pub head : (n : ℕ) (bytes : List ℕ) → May next n bytes
      → ahead s (on_more (idles s) n) (leaves s next ++ bytes) ≡ sent ∷ ahead next n bytes
  pub kept : (rest : List ℕ) → (next.shared.latch ≡ true → s.shared.latch ≡ false → rest ≡ [])
      → leaves s next ++ meant next rest ≡ meant s rest
  pub inside : flag_left s.unit ≤ 7 → flag_left next.unit ≤ 7
  pub few : (n t : ℕ) (bytes : List ℕ) → May next n bytes → 8 * n + flag_left next.unit ≤ t + 7
      → flag_left s.unit ≤ 7 → 8 * on_more (idles s) n + flag_left s.unit ≤ suc t + 7
  pub first : unopened s ≡ true → unopened next ≡ false → leaves s next ≡ waiting_byte s.shared ∷ []

-- A tick that leaves the buffer and the latch as they are, and lets no flag pass

pub none_leaves : (full : Bool) (b : ℕ) → byte_if (full && not full) b ≡ []
none_leaves true b = refl
none_leaves false b = refl

pub none_passes : (latch full over : Bool) → (latch ≡ false → over ≡ false)
    → not latch && (not full && over) ≡ false
none_passes true full over h = refl
none_passes false true over h = refl
none_passes false false over h = h refl

kept_buffer : {u v : LineUnit} {i j : Insertion} {x : Shared} {sent : Bool}
    → tick_sdlc good (framer u i x) ≡ framed sent false (framer v j x)
    → Going (framer v j x) → (x.latch ≡ false → flag_over u ≡ false)
    → ((n : ℕ) (bytes : List ℕ) → may x.latch n bytes v → may x.latch n bytes u)
    → ((n : ℕ) (bytes : List ℕ) → may x.latch n bytes v
    → comes i x.latch x.check n bytes u ≡ sent ∷ comes j x.latch x.check n bytes v)
    → (flag_left u ≤ 7 → flag_left v ≤ 7) → flag_left u ≤ suc (flag_left v)
    → (unopened (framer u i x) ≡ true → unopened (framer v j x) ≡ false → ⊥)
    → Steps (framer u i x)
kept_buffer {u} {v} {i} {j} {x} {sent} ticks going within may_be head inside one_less opens =
    let was : Framer = framer u i x in
    let is : Framer = framer v j x in
    let none : leaves was is ≡ [] = none_leaves (full x) (waiting_byte x) in
    let same : idles was ≡ false = none_passes x.latch (full x) (flag_over u) within in
    record {
      sent = sent;
      load = false;
      next = is;
      ticks = ticks;
      going = going;
      may_be = λ n bytes m.
          subst (λ (p : Bool). May was (on_more p n) (leaves was is ++ bytes)) (sym same)
          (subst (λ (l : List ℕ). May was n (l ++ bytes)) (sym none) (may_be n bytes m));
      head = λ n bytes m.
          ap₂ (λ (p : Bool) (l : List ℕ). ahead was (on_more p n) (l ++ bytes)) same none
          ∙ head n bytes m;
      kept = λ rest h. ap (λ (l : List ℕ). l ++ meant is rest) none;
      inside = inside;
      few = λ n t bytes m l h.
          subst (λ (p : Bool). 8 * on_more p n + flag_left u ≤ suc t + 7) (sym same)
          (omega (arith, one_less));
      first = λ o p. absurd (opens o p);
    }

pub steps : {s : Framer} → Going s → frame_ended s ≡ false → Steps s
unfolding flags
steps (opening (suc k) b c) e =
    kept_buffer (tick_flag good (shared b false c) k 0) (opening k b c) (λ l. eqb-suc-zero k)
    (λ n bytes m. tt) (λ n bytes m. refl) (λ h. omega arith) (omega arith) (λ o p. void (sym p))
steps (opening zero (Some b) c) e =
    let x = shared (Some b) false c in
    let d = check_over sdlc c (low_bits 8 b) in
    let i = insertion (run_after 0 (odd b)) (owes 0 (odd b)) in
    record {
      sent = odd b;
      load = true;
      next = framer (Byte 7 (b / 2)) i (shared None false d);
      ticks = tick_chooses good 0 x (Flag 0) refl ∙ next_flag_full good 0 x refl 0 refl;
      going = in_byte 7 (b / 2) i.run i.owed None d;
      may_be = λ n bytes m. tt;
      head =
          λ n bytes m. ap (λ (j : ℕ). flags j ++ come.closed 0 c [] (b ∷ bytes)) m
          ∙ load 0 c b bytes;
      kept = λ rest h. refl;
      inside = λ h. omega arith;
      few = λ n t bytes m l h. omega (arith, m);
      first = λ o u. refl;
    }
steps (opening zero None c) e =
    let x = shared None false c in
    record {
      sent = false;
      load = false;
      next = framer (Flag 7) not_counted x;
      ticks = tick_chooses good 0 x (Flag 0) refl ∙ next_flag_empty good 0 x refl 0 refl;
      going = opening 7 None c;
      may_be = λ n bytes m. tt;
      head = λ n bytes m. refl;
      kept = λ rest h. refl;
      inside = λ h. omega arith;
      few = λ n t bytes m l h. omega arith;
      first = λ o u. void (sym u);
    }
steps (in_byte k v r true b c) e =
    kept_buffer (tick_owed good (shared b false c) (Byte k v) r) (in_byte k v r false b c)
    (λ l. refl) (λ n bytes m. m) (λ n bytes m. refl) (λ h. h) (omega arith) (λ o p. void o)
steps (in_byte (suc k) v r false b c) e =
    kept_buffer (tick_byte good (shared b false c) k v r)
    (in_byte k (v / 2) (run_after r (odd v)) (owes r (odd v)) b c) (λ l. refl) (λ n bytes m. m)
    (λ n bytes m. byte_on_lem r c k v bytes) (λ h. h) (omega arith) (λ o p. void o)
steps (in_byte zero v r false (Some b) c) e =
    let x = shared (Some b) false c in
    let d = check_over sdlc c (low_bits 8 b) in
    let i = insertion (run_after r (odd b)) (owes r (odd b)) in
    record {
      sent = odd b;
      load = true;
      next = framer (Byte 7 (b / 2)) i (shared None false d);
      ticks = tick_chooses good r x (Byte 0 v) refl ∙ next_byte_full good r x refl 0 v refl;
      going = in_byte 7 (b / 2) i.run i.owed None d;
      may_be = λ n bytes m. m;
      head = λ n bytes m. unfold low_bits in (load r c b bytes);
      kept = λ rest h. refl;
      inside = λ h. omega arith;
      few = λ n t bytes m l h. omega (arith, m);
      first = λ o u. void o;
    }
steps (in_byte zero v r false None c) e =
    let x = shared None false c in
    let y = complement c in
    let i = insertion (run_after r (top y)) (owes r (top y)) in
    record {
      sent = top y;
      load = false;
      next = framer (Check 15 (shifted y)) i (shared None true c);
      ticks =
          tick_chooses good r x (Byte 0 v) refl ∙ next_byte_check good r x refl 0 v refl refl refl;
      going = in_check 15 (shifted y) i.run i.owed None c;
      may_be = λ n bytes m. m.0;
      head = λ n bytes m. unfold low_bits in (ap (come.closed r c []) m.1 ∙ check_starts r c);
      kept = λ rest h. sym (h refl refl);
      inside = λ h. omega arith;
      few = λ n t bytes m l h. omega (arith, m.0);
      first = λ o u. void o;
    }
steps (in_check k v r true b c) e =
    kept_buffer (tick_owed good (shared b true c) (Check k v) r) (in_check k v r false b c)
    (λ l. refl) (λ n bytes m. m) (λ n bytes m. refl) (λ h. h) (omega arith) (λ o p. void o)
steps (in_check (suc k) v r false b c) e =
    kept_buffer (tick_check good (shared b true c) k v r)
    (in_check k (shifted v) (run_after r (top v)) (owes r (top v)) b c) (λ l. refl)
    (λ n bytes m. m)
    (λ n bytes m. unfold top_bits in (stuffed r (top v) (top_bits k (shifted v)) flag_bits))
    (λ h. h) (omega arith) (λ o p. void o)
steps (in_check zero v r false b c) e =
    let x = shared b true c in
    kept_buffer (tick_chooses good r x (Check 0 v) refl ∙ next_check good r x refl 0 v)
    (closing 7 b c) (λ l. refl) (λ n bytes m. m) (λ n bytes m. unfold top_bits stuff in refl)
    (λ h. omega arith) (omega arith) (λ o p. void o)
steps (closing (suc k) b c) e =
    kept_buffer (tick_flag good (shared b true c) k 0) (closing k b c) (λ l. void (sym l))
    (λ n bytes m. m) (λ n bytes m. refl) (λ h. omega arith) (omega arith) (λ o p. void o)
steps (closing zero b c) e = void (sym e)
