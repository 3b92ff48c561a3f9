-- Demand 3 at work: a sender that is fed before each tick is always in time, so what is to come
-- goes out. Assumes nothing.
use Rattle.std.specs.Prelude.{◌≡◌, refl, Some, Bool, true, false, not, ◌&&◌, ◌||◌, List, [], ◌∷◌, ◌++◌, ℕ, zero, suc, ◌+◌, ◌≤◌, ◌<◌, ltb, length, if◌then◌else◌}
use Rattle.std.proofs.Common.{sym, ap, subst, ◌∙◌, arith, length-append}
use Rattle.common.specs.Tools.{bool_or, both_left, both_right, not_true}
use Rattle.line.specs.Bits.{text_bits}
use Rattle.line.specs.Check.{sdlc, check_over, check_bits}
use Rattle.line.specs.Insertion.{stuff}
use Rattle.line.specs.Frame.{flag_bits}
use Rattle.line.specs.Laws.Bits.{text_bits_length}
use Rattle.line.specs.Laws.Check.{check_bits_length}
use Rattle.line.specs.Laws.Insertion.{stuff_length, zeros_bound}
use Rattle.shared.specs.declared.Shared.{Shared}
use Rattle.shared.specs.Shared.{shared, full, waiting_byte}
use Rattle.shared.specs.Laws.Buffer.{buffer_full}
use Rattle.sdlc.specs.declared.Framer.{Framer}
use Rattle.sdlc.specs.declared.Framed.{Framed}
use Rattle.sdlc.specs.Sending.{checking, tick_sdlc}
use Rattle.whole.specs.Come.{good, closed, to_come}
use Rattle.whole.specs.Stage.{since_after, in_time, Stage, opening, in_byte}
use Rattle.whole.specs.Start.{frame_ended}
use Rattle.whole.specs.Laws.Come.{takes, moves}
use Rattle.whole.specs.Laws.Start.{unended_some}
use Rattle.feed.specs.Feeding.{takes_byte, Supplied, supply, after_ticks, ticks_line}
use Rattle.feed.specs.Feeding.{flag_sent, begins, most_to_write}

-- A choice whose test is known

pub if_true : {X : Type 0} {b : Bool} (x y : X) → b ≡ true → (if b then x else y) ≡ x
if_true x y e = rw e

pub if_false : {X : Type 0} {b : Bool} (x y : X) → b ≡ false → (if b then x else y) ≡ y
if_false x y e = rw e

-- Before a tick

-- nothing that is to come has changed, and the tick is in time
pub record Timely (x : Supplied) (n : ℕ) (bits : List Bool) : Type 0 where
  pub stage : Stage false x.framer n x.rest
  pub come : to_come x.framer x.rest ≡ bits
  pub intime : in_time (full x.framer.shared) n x.rest ≡ true

-- while a byte is still to be written no check is being sent
none_checked : {s : Framer} {n v : ℕ} {rest : List ℕ} → Stage false s n (v ∷ rest)
    → checking s.unit ≡ false
none_checked (opening k b c n rest m p) = refl
none_checked (in_byte k v r o b c n rest m) = refl

in_time_full : (n : ℕ) (rest : List ℕ) → in_time true n rest ≡ true
in_time_full n [] = refl
in_time_full n (v ∷ rest) = refl

pub supplies : {s : Framer} {n : ℕ} (rest : List ℕ) → Stage false s n rest
    → Timely (supply s rest) n (to_come s rest)
unfolding supply
supplies [] g = record { stage = g; come = refl; intime = refl }
supplies {s} {n} (v ∷ rest) g =
    let P : Supplied → Type 0 = λ x. Timely x n (to_come s (v ∷ rest)) in
    bool_or (full s.shared)
    (λ f. subst P (sym (if_false _ _ (ap (λ (b : Bool). not b && not (checking s.unit)) f)))
    (record { stage = g; come = refl; intime = ap (λ (b : Bool). b || ltb (n + 1) 8) f }))
    (λ e.
    let m = moves g e in
    let free : takes_byte s ≡ true =
    ap (λ (b : Bool). not b && not (checking s.unit)) e ∙ ap not (none_checked g) in
    subst P (sym (if_true _ _ free))
    (record { stage = m.1; come = sym m.0; intime = in_time_full n rest }))

-- A tick, and all of them

pub record Ticks (s : Framer) (rest : List ℕ) : Type 0 where
  pub since : ℕ
  pub stage : let x = supply s rest in
      Stage false (tick_sdlc good x.framer).framer since x.rest
  pub come : let t = tick_sdlc good (supply s rest).framer in
      to_come s rest ≡ t.bit ∷ to_come t.framer (supply s rest).rest

pub ticks_on : {s : Framer} {n : ℕ} (rest : List ℕ) → Stage false s n rest
    → 1 ≤ length (to_come s rest) → Ticks s rest
ticks_on {s} {n} rest g some =
    let x = supply s rest in
    let f = supplies rest g in
    let t = takes f.stage f.intime (omega (arith, some, ap length f.come)) in
    let k = since_after (full x.framer.shared) (full t.next.shared) n in
    record {
      since = k;
      stage =
          subst (λ (y : Framed). Stage false y.framer k x.rest) (sym t.ticks) t.stage;
      come = sym f.come ∙ t.head
          ∙ ap (λ (y : Framed). y.bit ∷ to_come y.framer x.rest) (sym t.ticks);
    }

-- as many ticks as bits are to come put them on the line, and leave the closing flag ended
pub record Ends (n : ℕ) (s : Framer) (rest : List ℕ) : Type 0 where
  pub line : ticks_line n s rest ≡ to_come s rest
  pub ended : frame_ended (after_ticks n s rest) ≡ true

length_none : (bits : List Bool) → length bits ≡ 0 → bits ≡ []
length_none [] e = refl
length_none (b ∷ bits) e = absurd (omega arith)

pub ends : (n : ℕ) {s : Framer} {m : ℕ} (rest : List ℕ) → Stage false s m rest
    → length (to_come s rest) ≡ n → Ends n s rest
unfolding after_ticks ticks_line
ends zero {s} rest g l =
    record {
      line = sym (length_none (to_come s rest) l);
      ended = bool_or (frame_ended s) (λ e. e) (λ e. absurd (omega (arith, unended_some g e)));
    }
ends (suc n) {s} rest g l =
    let x = supply s rest in
    let y = tick_sdlc good x.framer in
    let t = ticks_on rest g (omega (arith, l)) in
    let r = ends n x.rest t.stage (omega (arith, l, ap length t.come)) in
    record {
      line = ap (λ (bits : List Bool). y.bit ∷ bits) r.line ∙ sym t.come;
      ended = r.ended;
    }

-- A frame that begins

-- its first byte waits, and the latch is clear
begins_as : (k : Shared) → begins k ≡ true → k ≡ shared (Some (waiting_byte k)) false k.check
begins_as k e =
    let f = buffer_full k (both_left (full k) (not k.latch) e) in
    let l = not_true k.latch (both_right (full k) (not k.latch) e) in
    λ i. shared (f i) (l i) k.check

pub begins_stage : (k : Shared) (rest : List ℕ) → begins k ≡ true
    → Stage false (flag_sent k) 7 rest
begins_stage k rest e =
    subst (λ (x : Shared). Stage false (flag_sent x) 7 rest) (sym (begins_as k e))
    (opening 0 (Some (waiting_byte k)) k.check 7 rest (omega arith) tt)

pub begins_few : (k : Shared) (rest : List ℕ) → begins k ≡ true → length rest < most_to_write
    → length (to_come (flag_sent k) rest) ≤ 19696
unfolding closed
begins_few k rest e l =
    let v = waiting_byte k in
    let c = k.check in
    let text = text_bits 8 (v ∷ rest) in
    let content = text ++ check_bits (check_over sdlc c text) in
    let same = ap (λ (x : Shared). length (to_come (flag_sent x) rest)) (begins_as k e) in
    omega (
      arith,
      same,
      l,
      length-append (stuff 0 content) flag_bits,
      stuff_length 0 content,
      zeros_bound 0 content,
      length-append text (check_bits (check_over sdlc c text)),
      text_bits_length 8 (v ∷ rest),
      check_bits_length (check_over sdlc c text),
    )
