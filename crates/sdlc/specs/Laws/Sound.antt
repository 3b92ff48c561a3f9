-- What a history gives is kept by every tick and by Send Abort. Assumes nothing.
use Rattle.std.specs.Prelude.{refl, Bool, not, ◌&&◌, ℕ, ◌+◌, ◌≤◌, ◌<◌, eqb, ltb, if◌then◌else◌}
use Rattle.std.proofs.Math.Bool.{true, false}
use Rattle.std.proofs.Common.{arith}
use borrow.Author.Tests.{ltb-true}
use Rattle.common.specs.Tools.{if_elim, by_test, ltb_elim}
use Rattle.line.specs.Bits.{odd}
use Rattle.line.specs.Check.{top, complement}
use Rattle.line.specs.Insertion.{run_after}
use Rattle.line.specs.declared.Insertion.{Insertion}
use Rattle.shared.specs.declared.Shared.{Shared}
use Rattle.shared.specs.Shared.{full, waiting_byte}
use Rattle.sdlc.specs.declared.LineUnit.{LineUnit}
use Rattle.sdlc.specs.declared.LineUnit.TheVariants.{Mark, Flag, Byte, Check, Abort}
use Rattle.sdlc.specs.declared.Framing.{Framing}
use Rattle.sdlc.specs.declared.Framer.{Framer}
use Rattle.sdlc.specs.declared.Framed.{Framed}
use Rattle.sdlc.specs.declared.Addressing.{Addressing}
use Rattle.sdlc.specs.declared.Chars.{Chars}
use Rattle.sdlc.specs.declared.Listener.{Listener}
use Rattle.sdlc.specs.declared.Listened.{Listened}
use Rattle.sdlc.specs.Sending.{paid, following, next, going, tick_sdlc, aborting, aborted_by}
use Rattle.sdlc.specs.Hearing.{full_delay, content_at, with_ones, last_bit, spilled, oldest_bit}
use Rattle.sdlc.specs.Hearing.{wrong, accept, push, deaf, one, zero_bit, hear_sdlc}
use Rattle.sdlc.specs.Sound.{SoundUnit, SoundContent}
use Rattle.line.specs.Laws.Bits.{bit_few}

-- Sending

abbrev pub SoundFramer : Framer → Type 0
SoundFramer s = SoundUnit s.unit s.insertion

abbrev SoundFramed : Framed → Type 0
SoundFramed t = SoundFramer t.framer

run_few : (r : ℕ) (b : Bool) → run_after r b < 5
run_few r true =
    ltb_elim (λ t. (if t then r + 1 else 0) < 5) r 4 (λ l. omega arith) (λ l. omega arith)
run_few r false = omega arith

paid_sound : (u : LineUnit) (i : Insertion) → SoundUnit u i → SoundUnit u (paid i)
paid_sound Mark i h = (h.0, refl)
paid_sound (Flag n) i h = ((h.0.0, refl), h.1)
paid_sound (Byte n v) i h = h
paid_sound (Check n v) i h = h
paid_sound (Abort n) i h = ((h.0.0, refl), h.1)

module _ (g : Framing) (r : ℕ) (k : Shared) where
  following_sound : (u : LineUnit) → SoundFramed (following g u r k)
  unfolding following
  following_sound Mark = ((refl, refl), omega arith)
  following_sound (Abort n) = ((refl, refl), omega arith)
  following_sound (Flag n) =
      if_elim SoundFramed (full k) (run_few r (odd (waiting_byte k)), omega arith)
      ((refl, refl), omega arith)
  following_sound (Byte n v) =
      if_elim SoundFramed (full k) (run_few r (odd (waiting_byte k)), omega arith)
      (if_elim SoundFramed (not k.latch && g.included)
      (run_few r (top (complement k.check)), omega arith) ((refl, refl), omega arith))
  following_sound (Check n v) = ((refl, refl), omega arith)

  next_sound : (u : LineUnit) → SoundFramed (next g u r k)
  next_sound u = if_elim SoundFramed g.on (following_sound u) (refl, refl)

going_sound : (g : Framing) (u : LineUnit) (i : Insertion) (k : Shared) → SoundUnit u i
    → SoundFramed (going g u i.run k)
unfolding going
going_sound g Mark i k h = next_sound g i.run k Mark
going_sound g (Flag n) i k h =
    if_elim SoundFramed (eqb n 0) (next_sound g i.run k (Flag n))
    ((refl, refl), let x = h.1 in omega arith)
going_sound g (Byte n v) i k h =
    if_elim SoundFramed (eqb n 0) (next_sound g i.run k (Byte n v))
    (run_few i.run (odd v), let x = h.1 in omega arith)
going_sound g (Check n v) i k h =
    if_elim SoundFramed (eqb n 0) (next_sound g i.run k (Check n v))
    (run_few i.run (top v), let x = h.1 in omega arith)
going_sound g (Abort n) i k h =
    if_elim SoundFramed (eqb n 0) (next_sound g i.run k (Abort n))
    ((refl, refl), let x = h.1 in omega arith)

pub tick_sound : (g : Framing) (s : Framer) → SoundFramer s → SoundFramer (tick_sdlc g s).framer
unfolding tick_sdlc
tick_sound g s h =
    if_elim SoundFramed s.insertion.owed (paid_sound s.unit s.insertion h)
    (going_sound g s.unit s.insertion s.shared h)

pub abort_sound : (g : Framing) (s : Framer) → SoundFramer s → SoundFramer (aborted_by g s)
abort_sound g s h =
    if_elim SoundFramer (g.on && not (aborting s.unit)) ((refl, refl), omega arith) h

-- Receiving

abbrev SoundListened : Listened → Type 0
SoundListened h = SoundContent h.listener.content

pub content_at_sound : (h s : Bool) (o : ℕ) → o ≤ 7 → SoundContent (content_at h s o)
content_at_sound h s o l =
    record { run = l; led = omega arith; fits = omega arith; part = omega arith }

ones_sound : (s : Listener) (o : ℕ) (x : Bool) → o ≤ 7 → SoundContent s.content
    → SoundContent (with_ones s o x).content
ones_sound s o x l t = record { run = l; led = t.led; fits = t.fits; part = t.part }

accept_sound : (g : Addressing) (c : Chars) (k o : ℕ) (x : Bool) (d : ℕ) (b : Bool)
    → o ≤ 7 → 1 ≤ d → d ≤ 255 → SoundListened (accept g c k o x d b)
unfolding accept
accept_sound g c k o x d b a l f =
    by_test SoundListened (ltb c.count last_bit)
    (λ e. record {
      run = a;
      led = l;
      fits = f;
      part = omega
          (arith, ltb-true c.count last_bit e);
    })
    (λ e. if_elim SoundListened (wrong g c.held _) (content_at_sound false true o a)
    (record { run = a; led = l; fits = f; part = omega arith }))

module _ (g : Addressing) (s : Listener) (t : SoundContent s.content) where
  push_sound : (o : ℕ) (x b : Bool) → o ≤ 7 → SoundListened (push g s o x b)
  unfolding push
  push_sound o x b a =
      let d = s.content.delay in
      by_test SoundListened (ltb d full_delay)
      (λ e. record {
        run = a;
        led = omega (arith, t.led);
        fits = omega (arith, ltb-true d full_delay e, bit_few b);
        part = t.part;
      })
      (λ e. accept_sound g s.content.chars s.check o x (spilled d b) (oldest_bit d) a
      (omega arith) (omega (arith, bit_few b)))

  one_sound : SoundListened (one g s)
  unfolding one
  one_sound =
      let c = s.content in
      if_elim SoundListened c.hunt
      (ltb_elim (λ q. SoundContent (with_ones s (if q then c.ones + 1 else 7) s.broken).content)
      c.ones 7
      (λ l. ones_sound s (c.ones + 1) s.broken (omega arith) t)
      (λ l. ones_sound s 7 s.broken (omega arith) t))
      (by_test SoundListened (ltb c.ones 6)
      (λ e. let l = ltb-true c.ones 6 e in
      if_elim SoundListened c.skip (ones_sound s (c.ones + 1) s.broken (omega arith) t)
      (push_sound (c.ones + 1) s.broken true (omega arith)))
      (λ e. content_at_sound false true 7 (omega arith)))

  zero_sound : SoundListened (zero_bit g s)
  unfolding zero_bit
  zero_sound =
      let c = s.content in
      if_elim SoundListened (eqb c.ones 6) (content_at_sound false false 0 (omega arith))
      (if_elim SoundListened (deaf c) (ones_sound s 0 false (omega arith) t)
      (if_elim SoundListened (eqb c.ones 5) (ones_sound s 0 false (omega arith) t)
      (push_sound 0 false false (omega arith))))

  pub hear_sound : (b : Bool) → SoundContent (hear_sdlc g s b).listener.content
  unfolding hear_sdlc
  hear_sound b = if_elim SoundListened b one_sound zero_sound
