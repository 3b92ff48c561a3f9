-- A tick on the air, and the tick that begins a flag. Assumes nothing.
use Rattle.std.specs.Prelude.{◌≡◌, refl, Bool, false, [], ◌∷◌}
use Rattle.std.proofs.Common.{sym, ap, ◌∙◌, subst}
use Rattle.shared.specs.declared.Shared.{Shared}
use Rattle.sdlc.specs.declared.LineUnit.TheVariants.{Flag}
use Rattle.sdlc.specs.declared.Framed.{Framed}
use Rattle.sdlc.specs.Sending.{not_counted, start_flag, tick_sdlc}
use Rattle.sender.specs.declared.Ticked.{Ticked}
use Rattle.sender.specs.Sender.{by_framer, with_break, tick}
use Rattle.sender.specs.Laws.Tick.{tick_sdlc_lem}
use Rattle.chip.specs.declared.Chip.{Chip}
use Rattle.chip.specs.Event.{Transmit}
use Rattle.stories.specs.Story.{Which, number, chan, happens}
use Rattle.stories.specs.Sent.{is_tick, line_bit}
use Rattle.history.specs.Sending.Side.{SenderSide, side, sending_in, part, side_of}
use Rattle.history.specs.Sending.Events.{ticks_to, ticks_to_lem, tick_gives}
use Rattle.starts.specs.Statement.{OnAir}

-- A tick on the air is a tick of SDLC's part

abbrev pub ticked_on : Which → Chip → Framed
ticked_on w c = tick_sdlc (side_of w c).heeds.framing (side_of w c).sender

pub air_ticks : (w : Which) (c : Chip) → OnAir w c
    → tick (sending_in (chan w c)) (chan w c).sender ≡ by_framer (chan w c).sender (ticked_on w c)
air_ticks w c a =
    let s = (chan w c).sender in
    tick_sdlc_lem (sending_in (chan w c)) s a.mode
    ∙ ap (λ (b : Bool). with_break b (by_framer s (ticked_on w c))) a.no_break

pub air_side : (w : Which) (c : Chip) → OnAir w c
    → side_of w (happens c (Transmit (number w))).chip
    ≡ side (ticked_on w c).framer (side_of w c).heeds
air_side w c a = ticks_to_lem part w c ∙ ap (ticks_to part w c) (air_ticks w c a)

pub air_bit : (w : Which) (c : Chip) → OnAir w c
    → line_bit (is_tick w (Transmit (number w))) (happens c (Transmit (number w))).answer
    ≡ (ticked_on w c).bit ∷ []
air_bit w c a = tick_gives w c ∙ ap (λ (t : Ticked). t.bit ∷ []) (air_ticks w c a)

pub air_stays : (w : Which) (c : Chip) → OnAir w c → OnAir w (happens c (Transmit (number w))).chip
air_stays w c a =
    let e = air_side w c a in
    record {
      mode = ap (λ (x : SenderSide). x.heeds.mode) e ∙ a.mode;
      no_break = ap (λ (x : SenderSide). x.heeds.broken) e ∙ a.no_break;
      on = ap (λ (x : SenderSide). x.heeds.framing.on) e ∙ a.on;
    }

-- The tick that begins a flag

-- its bit is 0, and seven are left
pub record Begun (t : Framed) : Type 0 where
  pub bit : t.bit ≡ false
  pub unit : t.framer.unit ≡ Flag 7
  pub counted : t.framer.insertion ≡ not_counted

pub begun_by : {t : Framed} {k : Shared} → t ≡ start_flag k → Begun t
begun_by e = subst Begun (sym e) (record { bit = refl; unit = refl; counted = refl })
