-- A tick in SDLC, in Monosync and in Bisync, and that what it hands over is plain. Assumes nothing.
use Rattle.std.specs.Prelude.{IfSome, ◌≡◌, refl, Bool, true}
use Rattle.std.proofs.Common.{ap, ◌∙◌}
use Rattle.common.specs.Mode.{in_blocks, of_blocks}
use Rattle.common.specs.Tools.{if_elim}
use Rattle.common.specs.declared.Mode.{Mode}
use Rattle.common.specs.declared.Mode.TheVariants.{Monosync, Bisync, Sdlc}
use Rattle.queue.specs.Holding.{Plain}
use Rattle.bytesync.specs.Hearing.{hear_block}
use Rattle.sdlc.specs.Hearing.{hear_sdlc}
use Rattle.sdlc.specs.Laws.Plain as listening
use Rattle.receiver.specs.declared.Receiving.{Receiving}
use Rattle.receiver.specs.declared.Receiver.{Receiver}
use Rattle.receiver.specs.declared.Heard.{Heard}
use Rattle.receiver.specs.Receiver.{listener_of, by_listener, by_matched, hear_in_blocks}
use Rattle.receiver.specs.Receiver.{hear_in, hear}

pub hear_sdlc_lem : (g : Receiving) (s : Receiver) (b : Bool) → g.mode ≡ Sdlc → g.on ≡ true
    → hear g s b ≡ by_listener s (hear_sdlc g.addressing (listener_of s) b)
unfolding hear
hear_sdlc_lem g s b m o = ap (λ (k : Mode). hear_in k g s b) m ∙ rw o

abbrev PlainHeard : Heard → Type 0
PlainHeard h = IfSome h.entry Plain

pub hear_plain : (g : Receiving) → g.mode ≡ Sdlc → (s : Receiver) (b : Bool)
    → IfSome (hear g s b).entry Plain
unfolding hear
hear_plain g m s b =
    let e : hear g s b ≡ hear_in Sdlc g s b = ap (λ (k : Mode). hear_in k g s b) m in
    rw e (if_elim PlainHeard g.on (listening.hear_plain g.addressing (listener_of s) b) tt)

pub hear_monosync : (g : Receiving) (s : Receiver) (b : Bool) → g.mode ≡ Monosync
    → hear g s b ≡ hear_in_blocks g s b
unfolding hear
hear_monosync g s b m = ap (λ (k : Mode). hear_in k g s b) m

pub hear_bisync : (g : Receiving) (s : Receiver) (b : Bool) → g.mode ≡ Bisync
    → hear g s b ≡ hear_in_blocks g s b
unfolding hear
hear_bisync g s b m = ap (λ (k : Mode). hear_in k g s b) m

-- the mode is one of the two
pub blocks_heard : (g : Receiving) (s : Receiver) (b : Bool) → in_blocks g.mode ≡ true
    → hear g s b ≡ hear_in_blocks g s b
unfolding hear
blocks_heard g s b m =
    of_blocks (λ (k : Mode). hear_in k g s b ≡ hear_in_blocks g s b) refl refl g.mode m

pub hear_blocks : (g : Receiving) (s : Receiver) (b : Bool) → in_blocks g.mode ≡ true
    → g.on ≡ true → hear g s b ≡ by_matched s (hear_block g.matching s.reception s.check b)
hear_blocks g s b m o = blocks_heard g s b m ∙ rw o
