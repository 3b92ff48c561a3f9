-- Demand 3's start, in its own words, and what a chip with a history has of it. Assumes nothing.
use Rattle.std.specs.Prelude.{◌≡◌, false, ℕ, ◌-◌, ◌≤◌}
use Rattle.line.specs.Check.{ones}
use Rattle.shared.specs.Laws.Buffer.{buffer_empty}
use Rattle.sdlc.specs.declared.LineUnit.TheVariants.{Flag}
use Rattle.sdlc.specs.Sound.{SoundUnit}
use Rattle.sender.specs.Good.{Good}
use Rattle.chip.specs.declared.Chip.{Chip}
use Rattle.whole.specs.Start.{started}
use Rattle.stories.specs.Story.{Which, chan}
use Rattle.history.specs.Sending.Side.{sending_in, side_of, full_of, latch_of, good, good_heeded, side}
use Rattle.shared.specs.Shared.{shared}
use Rattle.sdlc.specs.Sending.{insertion, framer}
use Rattle.soundness.specs.Chip.{SoundChip}
use Rattle.history.specs.Sound.{unit_sound}

-- "Start during a flag with the SDLC sender on .., buffer empty, check preset to ones and included,
-- underrun latch cleared, no break since it began": p of the flag's bits are sent. The last line is
-- so of every chip that came from a reset by events: `start_of` below
pub record Start (w : Which) (c : Chip) (p : ℕ) : Type 0 where
  pub some : 1 ≤ p
  pub inside : p ≤ 8
  pub flag : (chan w c).sender.unit ≡ Flag (8 - p)
  pub empty : full_of w c ≡ false
  pub preset : (chan w c).sender.shared.check ≡ ones
  pub cleared : latch_of w c ≡ false
  pub settings : Good (sending_in (chan w c))
  pub history : SoundUnit (chan w c).sender.unit (chan w c).sender.insertion

-- what the demand does not say, a chip has that came from a reset by events (`reset_sound` in
-- Sound)
pub start_of : (w : Which) (c : Chip) (p : ℕ) → SoundChip c → 1 ≤ p → p ≤ 8
    → (chan w c).sender.unit ≡ Flag (8 - p) → full_of w c ≡ false
    → (chan w c).sender.shared.check ≡ ones → latch_of w c ≡ false → Good (sending_in (chan w c))
    → Start w c p
start_of w c p h some inside flag empty preset cleared settings = record {
  some = some;
  inside = inside;
  flag = flag;
  empty = empty;
  preset = preset;
  cleared = cleared;
  settings = settings;
  history = unit_sound w c h;
}

-- the demand's words are the state at the start
pub start_side : (w : Which) (c : Chip) (p : ℕ) → Start w c p
    → side_of w c ≡ side (started p) good
start_side w c p b =
    let x = (chan w c).sender in
    let k = x.shared in
    let q : SoundUnit (Flag (8 - p)) x.insertion = rw b.flag at b.history in
    let h = good_heeded (sending_in (chan w c)) b.settings in
    λ i. side (framer (b.flag i) (insertion (q.0.0 i) (q.0.1 i))
    (shared (buffer_empty k b.empty i) (b.cleared i) (b.preset i))) (h i)
