-- Ticks that change nothing of what the status rule sees. Assumes nothing.
use Rattle.std.specs.Prelude.{◌≡◌, refl, Bool, true, false, not, ◌&&◌, ◌||◌, if◌then◌else◌, Some, is_some}
use Rattle.std.proofs.Common.{sym, ap, ◌∙◌}
use Rattle.std.specs.Bool.{beq}
use Rattle.common.specs.Mode.{in_sdlc, in_blocks}
use Rattle.common.specs.Tools.{by_test, void, both_left, both_right, beq→}
use Rattle.common.specs.declared.Mode.{Mode}
use Rattle.common.specs.declared.Mode.TheVariants.{NoMode, Asynchronous, Monosync, Bisync, Sdlc}
use Rattle.line.specs.Bits.{one_if}
use Rattle.line.specs.Laws.Xor.{differs_self}
use Rattle.sender.specs.declared.Ticked.{Ticked}
use Rattle.receiver.specs.declared.Heard.{Heard}
use Rattle.receiver.specs.Receiver.{hunting, shows_as}
use Rattle.settings.specs.Settings.{receiving_of}
use Rattle.status.specs.declared.Live.{Live}
use Rattle.status.specs.declared.Status.{Status}
use Rattle.status.specs.Status.{changed, noticed, status}
use Rattle.channel.specs.declared.Channel.{Channel}
use Rattle.channel.specs.declared.Answer.TheVariants.{Gave}
use Rattle.channel.specs.Channel.{with_status, answered, live_of, settled}
use Rattle.channel.specs.Events.{after_tick, transmitted, heard_by}

-- the status rule sees no change where there is none

rises_same : (b : Bool) → (not b && b) ≡ false
rises_same true = refl
rises_same false = refl

changed_same : (l : Live) → changed l l ≡ false
unfolding changed
changed_same l =
    rw (
      differs_self l.abort,
      rises_same l.underrun,
      differs_self l.cts,
      differs_self l.hunt,
      differs_self l.dcd,
    )

pub noticed_same : (s : Status) (l : Live) → noticed s l l ≡ s
unfolding noticed
noticed_same s l =
    by_test (λ (t : Status). t ≡ s) (is_some s.latched) (λ e. refl)
    (λ e. ap (λ (b : Bool). if b then status (Some l) else s) (changed_same l))

-- Sending

-- a tick that leaves the latch changes nothing that the status rule sees
pub tick_still : (c : Channel) (t : Ticked) → t.sender.shared.latch ≡ c.sender.shared.latch
    → settled c (after_tick c t) ≡ after_tick c t
unfolding settled live_of
tick_still c t e =
    ap (λ (u : Bool). with_status (after_tick c t) (noticed c.status (live_of c) (live u))) e
    ∙ ap (λ (s : Status). with_status (after_tick c t) s) (noticed_same c.status (live_of c))
  where
    live : Bool → Live
    live u = record {
      abort = c.receiver.broken;
      underrun = u;
      cts = c.lines.cts;
      hunt = hunting (receiving_of c.registers c.lines) c.receiver;
      dcd = c.lines.dcd;
    }

pub still_ticked : (c : Channel) (t : Ticked)
    → beq t.sender.shared.latch c.sender.shared.latch ≡ true
    → answered (Gave (one_if t.bit)) (after_tick c t) ≡ transmitted c t
still_ticked c t e =
    ap (answered (Gave (one_if t.bit)))
    (sym (tick_still c t (beq→ t.sender.shared.latch c.sender.shared.latch (rw e tt))))

-- Receiving

-- a tick that leaves hunt and D7 changes nothing that the status rule sees
pub hear_still : (c : Channel) (h : Heard) → h.receiver.broken ≡ c.receiver.broken
    → h.receiver.content.hunt ≡ c.receiver.content.hunt
    → h.receiver.reception.hunt ≡ c.receiver.reception.hunt
    → settled c (heard_by c h) ≡ heard_by c h
unfolding settled live_of
hear_still c h e f k =
    let v = h.receiver in
    ap (λ (x : Bool). seen x v.content.hunt v.reception.hunt) e
    ∙ ap (λ (x : Bool). seen c.receiver.broken x v.reception.hunt) f
    ∙ ap (seen c.receiver.broken c.receiver.content.hunt) k
    ∙ ap (λ (s : Status). with_status (heard_by c h) s) (noticed_same c.status (live_of c))
  where
    live : Bool → Bool → Bool → Live
    live x y z = record {
      abort = x;
      underrun = c.sender.shared.latch;
      cts = c.lines.cts;
      hunt = (in_sdlc (receiving_of c.registers c.lines).mode && y)
          || (in_blocks (receiving_of c.registers c.lines).mode && z);
      dcd = c.lines.dcd;
    }

    seen : Bool → Bool → Bool → Channel
    seen x y z = with_status (heard_by c h) (noticed c.status (live_of c) (live x y z))

pub still_heard : (c : Channel) (h : Heard) → shows_as h.receiver c.receiver ≡ true
    → heard_by c h ≡ settled c (heard_by c h)
still_heard c h w =
    let v = h.receiver in
    let was = c.receiver in
    let d7 = beq v.broken was.broken in
    let sdlc = beq v.content.hunt was.content.hunt in
    let sync = beq v.reception.hunt was.reception.hunt in
    let hunts = both_right d7 (sdlc && sync) w in
    sym (hear_still c h
    (beq→ v.broken was.broken (rw (both_left d7 (sdlc && sync) w) tt))
    (beq→ v.content.hunt was.content.hunt (rw (both_left sdlc sync hunts) tt))
    (beq→ v.reception.hunt was.reception.hunt (rw (both_right sdlc sync hunts) tt)))

-- what the test of the mode says

pub in_sdlc_lem : (m : Mode) → in_sdlc m ≡ true → m ≡ Sdlc
in_sdlc_lem NoMode e = void e
in_sdlc_lem Asynchronous e = void e
in_sdlc_lem Monosync e = void e
in_sdlc_lem Bisync e = void e
in_sdlc_lem Sdlc e = refl
