-- A tick in each mode, and Send Abort: the modes' own laws speak of what happens within. Assumes
-- nothing.
use Rattle.std.specs.Prelude.{◌≡◌, true, false}
use Rattle.std.proofs.Math.Path.{refl}
use Rattle.common.specs.Mode.{in_sdlc, in_blocks, of_blocks}
use Rattle.common.specs.declared.Mode.{Mode}
use Rattle.common.specs.declared.Mode.TheVariants.{NoMode, Asynchronous, Monosync, Bisync, Sdlc}
use Rattle.asynchronous.specs.Sending.{tick_character}
use Rattle.sdlc.specs.Sending.{tick_sdlc, aborted_by}
use Rattle.sender.specs.declared.Sender.{Sender}
use Rattle.sender.specs.declared.Sending.{Sending}
use Rattle.sender.specs.Sender.{ticked, framer_of, framer_in, by_framer, by_typist, with_break}
use Rattle.sender.specs.Sender.{tick_in_blocks, tick_in, tick}
use Rattle.sender.specs.Sender.{aborted}

module _ (g : Sending) (s : Sender) where
  pub tick_sdlc_lem : g.mode ≡ Sdlc
      → tick g s ≡ with_break g.broken (by_framer s (tick_sdlc g.framing (framer_of s)))
  unfolding tick
  tick_sdlc_lem m = rw m

  pub tick_asynchronous : g.mode ≡ Asynchronous
      → tick g s ≡ with_break g.broken
      (by_typist s (tick_character g.typing s.character s.shared))
  unfolding tick
  tick_asynchronous m = rw m

  pub tick_monosync : g.mode ≡ Monosync → tick g s ≡ tick_in_blocks g s
  unfolding tick
  tick_monosync m = rw m

  pub tick_bisync : g.mode ≡ Bisync → tick g s ≡ tick_in_blocks g s
  unfolding tick
  tick_bisync m = rw m

  -- the mode is one of the two
  pub tick_blocks : in_blocks g.mode ≡ true → tick g s ≡ tick_in_blocks g s
  unfolding tick
  tick_blocks e = of_blocks (λ (m : Mode). tick_in m g s ≡ tick_in_blocks g s) refl refl g.mode e

  pub tick_no_mode : g.mode ≡ NoMode → tick g s ≡ ticked true false s
  unfolding tick
  tick_no_mode m = rw m

  pub abort_sdlc : g.mode ≡ Sdlc → aborted g s ≡ framer_in s (aborted_by g.framing (framer_of s))
  abort_sdlc m = rw m

  pub abort_elsewhere : in_sdlc g.mode ≡ false → aborted g s ≡ s
  abort_elsewhere p = rw p
