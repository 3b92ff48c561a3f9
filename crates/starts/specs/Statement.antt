-- Where demand 3's start comes from. Demand 3: "Start during a flag with the SDLC sender on .., no
-- break since it began". 01, Sending: "After mark or abort: flag. After flag: byte if the buffer is
-- full, else flag. After byte: byte if full; else, if the latch is clear and WR5 D0 set, check,
-- otherwise flag .. After check: flag." Assumes nothing.
use Rattle.std.specs.Prelude.{◌≡◌, Bool, true, false, not, ◌&&◌, List, [], ◌∷◌, ℕ, ◌+◌, ◌≤◌, eqb}
use Rattle.common.specs.declared.Mode.TheVariants.{Sdlc}
use Rattle.line.specs.Check.{ones}
use Rattle.shared.specs.declared.Shared.{Shared}
use Rattle.shared.specs.Shared.{full}
use Rattle.sdlc.specs.declared.LineUnit.{LineUnit}
use Rattle.sdlc.specs.declared.LineUnit.TheVariants.{Mark, Flag, Byte, Check, Abort}
use Rattle.chip.specs.declared.Chip.{Chip}
use Rattle.chip.specs.Event.{Event, Transmit}
use Rattle.whole.specs.Start.{flag_head}
use Rattle.stories.specs.Story.{Which, number, chan, happens, after}
use Rattle.stories.specs.Sent.{is_tick, line_of, ticks}
use Rattle.history.specs.Sending.Side.{side_of, full_of, latch_of}
use Rattle.timely.specs.Start.{Start}

-- "the SDLC sender on .., no break"
pub record OnAir (w : Which) (c : Chip) : Type 0 where
  pub mode : (side_of w c).heeds.mode ≡ Sdlc
  pub no_break : (side_of w c).heeds.broken ≡ false
  pub on : (side_of w c).heeds.framing.on ≡ true

-- a flag is next: behind a mark, an abort, a check, a byte without a check, another flag
abbrev pub flag_next : Bool → Shared → LineUnit → Bool
flag_next included k Mark = true
flag_next included k (Flag n) = eqb n 0 && not (full k)
flag_next included k (Byte n v) = eqb n 0 && (not (full k) && not (not k.latch && included))
flag_next included k (Check n v) = eqb n 0
flag_next included k (Abort n) = eqb n 0

-- the next tick begins a flag
pub record Begins (w : Which) (c : Chip) : Type 0 where
  pub air : OnAir w c
  pub paid : (chan w c).sender.insertion.owed ≡ false
  pub next : flag_next (side_of w c).heeds.framing.included (chan w c).sender.shared
      (chan w c).sender.unit ≡ true

-- and the flag goes on: ticks, and whatever leaves the unit and its count of ones as they are, the
-- sender on and no break. The host may write, preset the check, clear the latch and include the
-- check
pub data GoesOn (w : Which) : Chip → List Event → Type 0 where
  ended : {c : Chip} → GoesOn w c []
  kept : {c : Chip} {e : Event} {st : List Event} → is_tick w e ≡ false
      → (chan w (happens c e).chip).sender.unit ≡ (chan w c).sender.unit
      → (chan w (happens c e).chip).sender.insertion ≡ (chan w c).sender.insertion
      → OnAir w (happens c e).chip
      → GoesOn w (happens c e).chip st → GoesOn w c (e ∷ st)
  ticking : {c : Chip} {st : List Event} → GoesOn w (happens c (Transmit (number w))).chip st
      → GoesOn w c (Transmit (number w) ∷ st)

-- p ticks from there, the first p bits of a flag are sent, and with the check included and preset,
-- the latch cleared and the buffer empty it is demand 3's start
pub record FlagSent (w : Which) (c : Chip) (st : List Event) (p : ℕ) : Type 0 where
  pub line : line_of w c st ≡ flag_head p
  pub start : (side_of w (after c st)).heeds.framing.included ≡ true → full_of w (after c st) ≡ false
      → (chan w (after c st)).sender.shared.check ≡ ones → latch_of w (after c st) ≡ false
      → Start w (after c st) p

abbrev pub WhereStarts : Type 0
WhereStarts = (w : Which) (c : Chip) (st : List Event) → Begins w c
    → GoesOn w (happens c (Transmit (number w))).chip st → 1 + ticks w st ≤ 8
    → FlagSent w c (Transmit (number w) ∷ st) (1 + ticks w st)
