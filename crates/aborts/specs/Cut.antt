-- Send Abort cuts whatever unit is under way, and an abort that is left to run sends eight ones and
-- a flag. Assumes nothing.
use Rattle.std.specs.Prelude.{◌≡◌, refl, Bool, true, false, List, [], ◌∷◌, ◌++◌, ℕ, zero, suc, ◌≤◌, eqb, length, take, replicate}
use Rattle.std.proofs.Common.{sym, ap, ap₂, ◌∙◌, arith}
use Rattle.common.specs.Tools.{if_elim}
use Rattle.line.specs.Frame.{flag_bits}
use Rattle.shared.specs.declared.Shared.{Shared}
use Rattle.sdlc.specs.declared.LineUnit.{LineUnit}
use Rattle.sdlc.specs.declared.LineUnit.TheVariants.{Mark, Flag, Byte, Check, Abort}
use Rattle.sdlc.specs.declared.Framed.{Framed}
use Rattle.sdlc.specs.Sending.{insertion, not_counted, framer, sent_bit, flag_bit, tick_sdlc, aborting}
use Rattle.sdlc.specs.Laws.Tick.{tick_flag, tick_abort, tick_chooses, next_abort, abort_cuts}
use Rattle.sender.specs.Sender.{framer_of, framer_in}
use Rattle.sender.specs.Good.{Good}
use Rattle.sender.specs.Laws.Tick.{abort_sdlc}
use Rattle.settings.specs.Settings.{command_in, preset_in}
use Rattle.channel.specs.declared.Side.{Side}
use Rattle.channel.specs.declared.Channel.{Channel}
use Rattle.channel.specs.Channel.{settled}
use Rattle.channel.specs.Control.{commanded, preset, command_step, preset_step, write_wr0}
use Rattle.channel.specs.Control.{control_written}
use Rattle.chip.specs.declared.Chip.{Chip}
use Rattle.chip.specs.Chip.{control_write_a, control_write_b, control_write}
use Rattle.chip.specs.Event.{Event, ControlWrite, Transmit}
use Rattle.whole.specs.Come.{flag_tail}
use Rattle.stories.specs.Story.{Which, A, B, number, chan, happens}
use Rattle.stories.specs.Sent.{line_of, ticks}
use Rattle.history.specs.Sending.Side.{good, SenderSide, sending_in, side_in, side_of}
use Rattle.aborts.specs.Statement.{SendsAbort, LeftToRun, ended, kept, ticking}
use Rattle.history.specs.Sending.Events.{ticked_of, tick_side, tick_bit, tick_more, skip_line}
use Rattle.history.specs.Sending.Events.{skip_ticks}
use Rattle.channel.specs.declared.Side.TheVariants as channels
use Rattle.whole.specs.Come as come

-- Send Abort cuts the unit off

-- the channel's sender is in an abort's d bits, nothing is owed, and it heeds the same
abbrev pub CutFrom : Channel → Channel → Type 0
CutFrom c d =
    (d.sender.unit ≡ Abort 8) × (d.sender.insertion.owed ≡ false)
    × ((side_in d).heeds ≡ (side_in c).heeds)

command_cuts : (c : Channel) (k : ℕ) → k ≡ 1 → Good (sending_in c)
    → aborting c.sender.unit ≡ false → CutFrom c (commanded c k)
unfolding commanded
command_cuts c k e h a =
    let q : eqb k 1 ≡ true = ap (λ (n : ℕ). eqb n 1) e in
    let g = sending_in c in
    let cut = abort_sdlc g c.sender h.sdlc_mode_lem
    ∙ ap (framer_in c.sender) (abort_cuts g.framing (framer_of c.sender) h.on a) in
    rw (q, cut) (refl, refl, refl)

preset_cut : (c d : Channel) (k : ℕ) → CutFrom c d → CutFrom c (preset d k)
unfolding preset
preset_cut c d k h =
    if_elim (CutFrom c) (eqb k 1) h
    (if_elim (CutFrom c) (eqb k 2) h (if_elim (CutFrom c) (eqb k 3) h h))

write_cuts : (c : Channel) (s : Side) (v : ℕ) → c.pointer ≡ 0 → command_in v ≡ 1
    → Good (sending_in c) → aborting c.sender.unit ≡ false
    → CutFrom c (control_written c s v).channel
unfolding control_written write_wr0 command_step preset_step settled
write_cuts c s v p e h a =
    let x : eqb c.pointer 0 ≡ true = ap (λ (n : ℕ). eqb n 0) p in
    let y : eqb (command_in v) 3 ≡ false = ap (λ (n : ℕ). eqb n 3) e in
    rw (x, y) (preset_cut c (settled c (commanded c (command_in v))) (preset_in v)
    (command_cuts c (command_in v) e h a))

pub abort_cut : (w : Which) (c : Chip) (v : ℕ) → SendsAbort w c v → Good (sending_in (chan w c))
    → aborting (chan w c).sender.unit ≡ false
    → CutFrom (chan w c) (chan w (happens c (ControlWrite (number w) v)).chip)
unfolding control_write control_write_a control_write_b
abort_cut A c v s h a = write_cuts c.a channels.A v s.to_wr0 s.command h a
abort_cut B c v s h a = write_cuts c.b channels.B v s.to_wr0 s.command h a

-- An abort that is left to run

-- what it still puts on the line, the flag behind it included
abbrev running : LineUnit → List Bool
running Mark = []
running (Flag n) = flag_tail n
running (Byte n v) = []
running (Check n v) = []
running (Abort n) = replicate n true ++ flag_bits

record Runs (u : LineUnit) (r : ℕ) (k : Shared) : Type 0 where
  pub sent : Bool
  pub next : LineUnit
  pub ticks_to_lem : tick_sdlc come.good (framer u (insertion r false) k)
      ≡ sent_bit sent next not_counted k
  pub head : running u ≡ sent ∷ running next

runs : (u : LineUnit) (r : ℕ) (k : Shared) → 1 ≤ length (running u) → Runs u r k
runs Mark r k l = absurd (omega arith)
runs (Flag zero) r k l = absurd (omega arith)
runs (Flag (suc n)) r k l =
    record {
      sent = flag_bit
          (suc n);
      next = Flag n;
      ticks_to_lem = tick_flag come.good k n r;
      head = refl;
    }
runs (Byte n v) r k l = absurd (omega arith)
runs (Check n v) r k l = absurd (omega arith)
runs (Abort zero) r k l = record {
  sent = false;
  next = Flag 7;
  ticks_to_lem = tick_chooses come.good r k (Abort 0) refl ∙ next_abort come.good r k refl 0;
  head = refl;
}
runs (Abort (suc n)) r k l =
    record { sent = true; next = Abort n; ticks_to_lem = tick_abort come.good k n r; head = refl }

pub runs_line : (w : Which) {c : Chip} {st : List Event} → LeftToRun w c st
    → (side_of w c).heeds ≡ good → (u : LineUnit) → (chan w c).sender.unit ≡ u
    → (chan w c).sender.insertion.owed ≡ false → ticks w st ≤ length (running u)
    → line_of w c st ≡ take (ticks w st) (running u)
unfolding line_of ticks
runs_line w ended h u e o l = refl
runs_line w (kept {c = c} {e = x} {st = st} z k f) h u e o l =
    skip_line w c x st z
    ∙ runs_line w f (k.2 ∙ h) u (k.0 ∙ e) (k.1 ∙ o) (omega (arith, skip_ticks w x st z))
    ∙ ap (λ (n : ℕ). take n (running u)) (sym (skip_ticks w x st z))
runs_line w (ticking {c = c} {st = st} f) h u e o l =
    let s = (chan w c).sender in
    let m = tick_more w st in
    let run = s.insertion.run in
    let t = runs u run s.shared (omega arith) in
    let p : framer_of s ≡ framer u (insertion run false) s.shared =
    λ i. framer (e i) (insertion run (o i)) s.shared in
    let q : ticked_of w c ≡ sent_bit t.sent t.next not_counted s.shared =
    ap (tick_sdlc come.good) p ∙ t.ticks_to_lem in
    let d = (happens c (Transmit (number w))).chip in
    let y = tick_side w c h in
    let i = runs_line w f (ap (λ (x : SenderSide). x.heeds) y) t.next
    (ap (λ (x : SenderSide). x.sender.unit) y ∙ ap (λ (x : Framed). x.framer.unit) q)
    (ap (λ (x : SenderSide). x.sender.insertion.owed) y
    ∙ ap (λ (x : Framed). x.framer.insertion.owed) q)
    (omega (arith, ap length t.head)) in
    ap (λ (b : List Bool). b ++ line_of w d st) (tick_bit w c h ∙ ap (λ (x : Framed). x.bit ∷ []) q)
    ∙ ap (λ (b : List Bool). t.sent ∷ b) i
    ∙ sym (ap₂ (λ (n : ℕ) (b : List Bool). take n b) m t.head)
