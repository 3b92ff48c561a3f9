-- What the calls of a station do to the SDLC sender of channel A and to all that it goes by.
-- Assumes nothing.
use Rattle.std.specs.Prelude.{◌≡◌, refl, None, Bool, true, false, not, ◌&&◌, ℕ, eqb}
use Rattle.std.proofs.Common.{sym, subst, ◌∙◌, eqb-true}
use Rattle.std.proofs.Math.Path.{ap}
use Rattle.common.specs.Mode.{in_sdlc}
use Rattle.common.specs.Tools.{by_test, both_left, both_right, not_true}
use Rattle.common.specs.declared.Mode.{Mode}
use Rattle.common.specs.declared.Mode.TheVariants.{Sdlc}
use Rattle.line.specs.Bits.{odd, one_if}
use Rattle.line.specs.Check.{ones}
use Rattle.shared.specs.declared.Shared.{Shared}
use Rattle.shared.specs.Preset.{preset_for}
use Rattle.shared.specs.Shared.{shared, cleared, check_set}
use Rattle.sdlc.specs.declared.LineUnit.TheVariants.{Mark}
use Rattle.sdlc.specs.declared.Framing.{Framing}
use Rattle.sdlc.specs.declared.Framer.{Framer}
use Rattle.sdlc.specs.Sending.{not_counted, framer, tick_sdlc, aborting, cut_short, aborted_by}
use Rattle.sdlc.specs.Laws.Tick.{abort_cuts}
use Rattle.whole.specs.Come.{good, filled_with}
use Rattle.sender.specs.declared.Sender.{Sender}
use Rattle.sender.specs.declared.Sending.{Sending}
use Rattle.sender.specs.declared.Ticked.{Ticked}
use Rattle.sender.specs.Sender.{framer_of, by_framer, with_break, tick, aborted}
use Rattle.sender.specs.Good.{Good}
use Rattle.sender.specs.Laws.Tick.{tick_sdlc_lem, abort_sdlc}
use Rattle.settings.specs.declared.Lines.{Lines}
use Rattle.settings.specs.Settings.{sending_of, mode_of, mode_in, not_built}
use Rattle.channel.specs.declared.Side.TheVariants.{A}
use Rattle.channel.specs.declared.Answer.TheVariants.{Done}
use Rattle.channel.specs.declared.Answered.{Answered}
use Rattle.channel.specs.declared.Channel.{Channel}
use Rattle.channel.specs.Channel.{answered, settled, reset_with}
use Rattle.channel.specs.Control.{commanded, preset, command_step, preset_step, write_wr0, set_wr4}
use Rattle.channel.specs.Control.{set_register, control_written}
use Rattle.channel.specs.Events.{transmit_tick}
use Rattle.chip.specs.declared.Chip.{Chip}
use Rattle.interrupts.specs.declared.Six.{Six}
use Rattle.reading.specs.Both.{service_under_a}
use Rattle.chip.specs.Interrupts.{chip}
use Rattle.chip.specs.Chip.{control_write, control_write_a, control_read_call}
use Rattle.chip.specs.Chip.{data_write_call, transmit_call}
use Rattle.feed.specs.Laws.Feeding.{if_true}
use Rattle.settings.specs.Bytes.{send_abort, channel_reset, preset_sent, clear_underrun, sdlc_mode}
use Rattle.settings.specs.Bytes.{send_checked}
use Rattle.drive.specs.Drive.{control_a, look_a, write_a, tick_a, bit_a, can_send}
use Rattle.drive.specs.Drive.{between_frames, stands_still, set_up, freed, prepared}
use Rattle.channel.specs.Laws.Still.{in_sdlc_lem}

-- Ticks of a channel that can send

abbrev pub sending_a : Chip → Sending
sending_a c = sending_of c.a.registers c.a.lines

good_framing : (g : Sending) → Good g → g.framing ≡ good
good_framing g h = λ i. record { on = h.on i; included = h.included i }

pub tick_good : (g : Sending) (s : Sender) → Good g
    → tick g s ≡ by_framer s (tick_sdlc good (framer_of s))
tick_good g s h =
    tick_sdlc_lem g s h.sdlc_mode_lem
    ∙ ap (λ (b : Bool). with_break b (by_framer s (tick_sdlc g.framing (framer_of s)))) h.no_break
    ∙ ap (λ (f : Framing). by_framer s (tick_sdlc f (framer_of s))) (good_framing g h)

-- a chip whose channel A can send, with this SDLC sender, and whose next control write goes to WR0
pub record Stands (c : Chip) (s : Framer) : Type 0 where
  pub pointer : c.a.pointer ≡ 0
  pub good : Good (sending_a c)
  pub sends : framer_of c.a.sender ≡ s

pub stands_as : {c : Chip} {s t : Framer} → Stands c s → s ≡ t → Stands c t
stands_as h e = record { pointer = h.pointer; good = h.good; sends = h.sends ∙ e }

bit_back : (b : Bool) → odd (one_if b) ≡ b
bit_back true = refl
bit_back false = refl

module _ {c : Chip} {s : Framer} (h : Stands c s) where
  ticks_as : tick (sending_a c) c.a.sender ≡ by_framer c.a.sender (tick_sdlc good s)
  ticks_as =
      tick_good (sending_a c) c.a.sender h.good
      ∙ ap (λ (x : Framer). by_framer c.a.sender (tick_sdlc good x)) h.sends

  pub tick_stands : Stands (tick_a c) (tick_sdlc good s).framer
  unfolding tick_a transmit_call transmit_tick settled
  tick_stands = record {
    pointer = h.pointer;
    good = h.good;
    sends = ap (λ (t : Ticked). framer_of t.sender) ticks_as;
  }

  pub bit_stands : bit_a c ≡ (tick_sdlc good s).bit
  unfolding bit_a transmit_call transmit_tick
  bit_stands =
      bit_back (tick (sending_a c) c.a.sender).bit ∙ ap (λ (t : Ticked). t.bit) ticks_as

  pub look_stands : Stands (look_a c) s
  unfolding look_a control_read_call
  look_stands = record { pointer = refl; good = h.good; sends = h.sends }

  pub write_stands : (v : ℕ) → Stands (write_a c v) (filled_with s v)
  unfolding write_a data_write_call
  write_stands v = record {
    pointer = h.pointer;
    good = h.good;
    sends = ap (λ (x : Framer). filled_with x v) h.sends;
  }

-- WR0

wr0_a : (a : Channel) (v : ℕ) → a.pointer ≡ 0 → control_written a A v ≡ answered Done (write_wr0 a v)
unfolding control_written
wr0_a a v p = if_true _ _ (ap (λ (n : ℕ). eqb n 0) p)

abbrev service_behind : Chip → ℕ → Six
service_behind c v = service_under_a c.a c.service v

wr0 : (c : Chip) (v : ℕ) → c.a.pointer ≡ 0
    → control_a c v ≡ chip (write_wr0 c.a v) c.b (service_behind c v)
unfolding control_a control_write control_write_a
wr0 c v p =
    ap (λ (r : Answered). chip r.channel c.b (service_behind c v)) (wr0_a c.a v p)

abbrev with_shared : Framer → Shared → Framer
with_shared s k = framer s.unit s.insertion k

mode_in_lem : (c : Chip) → Good (sending_a c) → mode_in c.a.registers ≡ Sdlc
unfolding sending_of
mode_in_lem c g = g.sdlc_mode_lem

module _ {c : Chip} {s : Framer} (h : Stands c s) where
  pub preset_stands : Stands (control_a c preset_sent) (with_shared s (check_set s.shared ones))
  unfolding write_wr0 command_step preset_step commanded preset settled
  preset_stands =
      rw (wr0 c preset_sent h.pointer)
      (record {
        pointer = refl;
        good = h.good;
        sends =
            ap (λ (m : Mode). with_shared (framer_of c.a.sender)
            (check_set c.a.sender.shared (preset_for m)))
            (mode_in_lem c h.good)
            ∙ ap (λ (x : Framer). with_shared x (check_set x.shared ones)) h.sends;
      })

  pub clear_stands : Stands (control_a c clear_underrun) (with_shared s (cleared s.shared))
  unfolding write_wr0 command_step preset_step commanded preset settled
  clear_stands =
      rw (wr0 c clear_underrun h.pointer)
      (record {
        pointer = refl;
        good = h.good;
        sends = ap (λ (x : Framer). with_shared x (cleared x.shared)) h.sends;
      })

  pub abort_stands : aborting s.unit ≡ false → Stands (control_a c send_abort) (cut_short s)
  unfolding write_wr0 command_step preset_step commanded preset settled
  abort_stands a =
      let g = sending_a c in
      let cut : framer_of (aborted g c.a.sender) ≡ cut_short s =
      ap framer_of (abort_sdlc g c.a.sender h.good.sdlc_mode_lem)
      ∙ ap (aborted_by g.framing) h.sends ∙ abort_cuts g.framing s h.good.on a in
      rw (wr0 c send_abort h.pointer)
      (record { pointer = refl; good = h.good; sends = cut })

-- A channel that is set up

abbrev after_set_up : Framer
after_set_up = framer Mark not_counted (shared None true ones)

set_up_reset : (l : Lines) (b : Channel) (s : Six)
    → let in_mode = control_a (control_a (chip (reset_with l) b s) 4) sdlc_mode in
    Stands (control_a (control_a in_mode 5) send_checked) after_set_up
unfolding
    control_a control_write control_write_a control_written write_wr0 command_step preset_step commanded
    preset settled set_register set_wr4 not_built mode_of sending_of
set_up_reset l b s = record {
  pointer = refl;
  good = record { sdlc_mode_lem = refl; on = refl; included = refl; no_break = refl };
  sends = refl;
}

pub set_up_stands : (c : Chip) → c.a.pointer ≡ 0 → Stands (set_up c) after_set_up
unfolding set_up write_wr0
set_up_stands c p =
    rw (wr0 c channel_reset p)
    (set_up_reset c.a.lines c.b (service_behind c channel_reset))

-- Before a frame

-- a sender between frames that counts no ones
pub record AtRest (s : Framer) : Type 0 where
  pub between : between_frames s.unit ≡ true
  pub still : s.insertion ≡ not_counted

can_send_lem : (g : Sending) → can_send g ≡ true → Good g
unfolding can_send
can_send_lem g e =
    let f = g.framing in
    let l = both_left (in_sdlc g.mode && f.on) (f.included && not g.broken) e in
    let r = both_right (in_sdlc g.mode && f.on) (f.included && not g.broken) e in
    record {
      sdlc_mode_lem = in_sdlc_lem g.mode (both_left (in_sdlc g.mode) f.on l);
      on = both_right (in_sdlc g.mode) f.on l;
      included = both_left f.included (not g.broken) r;
      no_break = not_true g.broken (both_right f.included (not g.broken) r);
    }

stands_still_lem : (s : Sender) → stands_still s ≡ true → AtRest (framer_of s)
unfolding stands_still
stands_still_lem s e =
    let i = s.insertion in
    let r = both_right (between_frames s.unit) (eqb i.run 0 && not i.owed) e in
    let run = eqb-true i.run 0 (both_left (eqb i.run 0) (not i.owed) r) in
    let owed = not_true i.owed (both_right (eqb i.run 0) (not i.owed) r) in
    record {
      between = both_left (between_frames s.unit) (eqb i.run 0 && not i.owed) e;
      still = λ j. record { run = run j; owed = owed j };
    }

-- a prepared chip can send and has nothing under way
pub record Prepared (c : Chip) : Type 0 where
  pub stands : Stands c (framer_of c.a.sender)
  pub rests : AtRest (framer_of c.a.sender)

prepared_with : {c : Chip} {s : Framer} → Stands c s → AtRest s → Prepared c
prepared_with h w = record {
  stands = record { pointer = h.pointer; good = h.good; sends = refl };
  rests = subst AtRest (sym h.sends) w;
}

freed_well : (c : Chip) → c.a.pointer ≡ 0 → Prepared (freed c (sending_a c) c.a.sender)
unfolding freed
freed_well c p =
    let g = sending_a c in
    let s = c.a.sender in
    let able = can_send g in
    let free = not (aborting s.unit) in
    by_test Prepared (able && stands_still s)
    (λ e.
    let h = can_send_lem g (both_left able (stands_still s) e) in
    record {
      stands = record { pointer = p; good = h; sends = refl };
      rests = stands_still_lem s (both_right able (stands_still s) e);
    })
    (λ e. by_test Prepared (able && free)
    (λ f.
    let h : Stands c (framer_of s) =
    record { pointer = p; good = can_send_lem g (both_left able free f); sends = refl } in
    prepared_with (abort_stands h (not_true (aborting s.unit) (both_right able free f)))
    (record { between = refl; still = refl }))
    (λ f. prepared_with (set_up_stands c p) (record { between = refl; still = refl })))

pub prepared_well : (c : Chip) → Prepared (prepared c)
unfolding prepared look_a control_read_call
prepared_well c = freed_well (look_a c) refl
