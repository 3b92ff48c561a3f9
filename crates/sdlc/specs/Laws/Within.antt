-- A tick for which a test of Within holds is the form of Within. Assumes nothing.
use Rattle.std.specs.Prelude.{◌≡◌, refl, Bool, true, false, not, ℕ, zero, suc, ◌+◌, ltb, if◌then◌else◌}
use Rattle.std.proofs.Common.{ap, arith, ltb-true, lt-ltb, ne_eqb}
use Rattle.std.proofs.Math.Dec.{eqb-suc-zero}
use Rattle.common.specs.Tools.{if_elim, void, both_left, both_right, not_true}
use Rattle.line.specs.Check.{sdlc, check_step}
use Rattle.line.specs.declared.Insertion.{Insertion}
use Rattle.shared.specs.declared.Shared.{Shared}
use Rattle.sdlc.specs.declared.LineUnit.{LineUnit}
use Rattle.sdlc.specs.declared.LineUnit.TheVariants.{Mark, Flag, Byte, Check, Abort}
use Rattle.sdlc.specs.declared.Framing.{Framing}
use Rattle.sdlc.specs.declared.Framer.{Framer}
use Rattle.sdlc.specs.declared.Framed.{Framed}
use Rattle.sdlc.specs.declared.Addressing.{Addressing}
use Rattle.sdlc.specs.declared.Listener.{Listener}
use Rattle.sdlc.specs.Sending.{paid, framer, sent_bit, byte_on, going, tick_sdlc}
use Rattle.sdlc.specs.Hearing.{chars, full_delay, listener, unheard, shift_in, last_bit, spilled}
use Rattle.sdlc.specs.Hearing.{oldest_bit, accept, push, one, zero_bit, hear_sdlc}
use Rattle.sdlc.specs.Within.{byte_left, byte_rest, within, tick_within}
use Rattle.sdlc.specs.Within.{fewer_than, hears_on, moved_on}

-- Sending: while a byte has bits left

-- the unit is a byte with a bit left, and no other
pub in_byte_lem : (P : LineUnit → Type 0) (u : LineUnit) (i : Insertion) (k : Shared)
    → within (framer u i k) ≡ true → ((n v : ℕ) → P (Byte (suc n) v)) → P u
in_byte_lem P Mark i k e f = void e
in_byte_lem P (Flag n) i k e f = void e
in_byte_lem P (Byte zero v) i k e f = void e
in_byte_lem P (Byte (suc n) v) i k e f = f n v
in_byte_lem P (Check n v) i k e f = void e
in_byte_lem P (Abort n) i k e f = void e

pub sdlc_within : (g : Framing) (s : Framer) → within s ≡ true → tick_sdlc g s ≡ tick_within s
unfolding tick_sdlc tick_within going
sdlc_within g s w =
    let i = s.insertion in
    let k = s.shared in
    let owed = sent_bit false s.unit (paid i) k in
    ap (λ (t : Framed). if i.owed then owed else t)
    (in_byte_lem (λ u. going g u i.run k ≡ byte_on (byte_left u) (byte_rest u) i.run k)
    s.unit i k w (λ n v. rw (eqb-suc-zero n)))

-- it loads nothing and leaves the latch
pub within_loaded : (s : Framer) → (tick_within s).loaded ≡ false
unfolding tick_within
within_loaded s = if_elim (λ (t : Framed). t.loaded ≡ false) s.insertion.owed refl refl

pub within_latch : (s : Framer) → (tick_within s).framer.shared.latch ≡ s.shared.latch
unfolding tick_within
within_latch s =
    if_elim (λ (t : Framed). t.framer.shared.latch ≡ s.shared.latch)
    s.insertion.owed refl refl

-- Receiving: what the test says, and the tick then

pub record Inside (s : Listener) (b : Bool) : Type 0 where
  pub whole : s.broken ≡ false
  pub found : s.content.hunt ≡ false
  pub kept : s.content.skip ≡ false
  pub few : ltb s.content.ones (fewer_than b) ≡ true
  pub full : ltb s.content.delay full_delay ≡ false
  pub unfinished : ltb s.content.chars.count last_bit ≡ true

pub inside : (s : Listener) (b : Bool) → hears_on s b ≡ true → Inside s b
unfolding hears_on
inside s b w =
    let c = s.content in
    let n = c.chars.count in
    let w1 = both_right (not s.broken) _ w in
    let w2 = both_right (not c.hunt) _ w1 in
    let w3 = both_right (not c.skip) _ w2 in
    let w4 = both_right (ltb c.ones (fewer_than b)) _ w3 in
    let d = ltb c.delay full_delay in
    record {
      whole = not_true s.broken (both_left (not s.broken) _ w);
      found = not_true c.hunt (both_left (not c.hunt) _ w1);
      kept = not_true c.skip (both_left (not c.skip) _ w2);
      few = both_left (ltb c.ones (fewer_than b)) _ w3;
      full = not_true d (both_left (not d) _ w4);
      unfinished = both_right (not d) (ltb n last_bit) w4;
    }

pushed_within : (g : Addressing) (s : Listener) (o : ℕ) (b : Bool)
    → ltb s.content.delay full_delay ≡ false → ltb s.content.chars.count last_bit ≡ true
    → (x : Bool)
    → let c = s.content.chars in
    let out = oldest_bit s.content.delay in
    let more = chars (c.count + 1) (shift_in out c.part) c.held in
    push g s o x b
    ≡ unheard (listener o (spilled s.content.delay b) more (check_step sdlc s.check out) x)
unfolding push accept
pushed_within g s o b d c x = simp (d, c)

pub hear_within : (g : Addressing) (s : Listener) (b : Bool) → Inside s b
    → hear_sdlc g s b ≡ unheard (moved_on s b)
unfolding hear_sdlc one zero_bit moved_on
hear_within g s true w =
    let o = s.content.ones in
    let seven = lt-ltb o 7 (omega (arith, ltb-true o 6 w.few)) in
    simp (
      w.found,
      w.few,
      w.kept,
      seven,
      w.unfinished,
      pushed_within g s (o + 1) true w.full w.unfinished s.broken,
    )
hear_within g s false w =
    let o = s.content.ones in
    let l = ltb-true o 5 w.few in
    let six = ne_eqb o 6 (omega (arith, l)) in
    let five = ne_eqb o 5 (omega (arith, l)) in
    simp (
      six,
      w.found,
      w.kept,
      five,
      w.unfinished,
      pushed_within g s 0 false w.full w.unfinished false,
      w.whole,
    )
