-- The host that comes too late: behind the tick that finds the line dry nothing is loaded until the
-- frame is closed, so it is the frame of the bytes loaded so far; and the incident. Assumes
-- nothing.
use Rattle.std.specs.Prelude.{◌≡◌, refl, true, false, ◌&&◌, List, [], ◌∷◌, ◌++◌, ℕ, length, None}
use Rattle.std.proofs.Common.{sym, ap, ap₂, ◌∙◌, subst, append_assoc, append-nil, arith, length-append}
use Rattle.common.specs.Tools.{void}
use Rattle.line.specs.Bits.{Below, below_none, below_more}
use Rattle.line.specs.Check.{top, shifted, complement}
use Rattle.line.specs.Insertion.{owes, run_after}
use Rattle.line.specs.Frame.{frame}
use Rattle.line.specs.Laws.Frame.{frame_same}
use Rattle.shared.specs.Shared.{shared}
use Rattle.shared.specs.Laws.Buffer.{buffer_empty}
use Rattle.sdlc.specs.declared.LineUnit.TheVariants.{Byte, Check}
use Rattle.sdlc.specs.declared.Framer.{Framer}
use Rattle.sdlc.specs.declared.Framed.{Framed}
use Rattle.sdlc.specs.Sending.{insertion, framer, framed, tick_sdlc}
use Rattle.sdlc.specs.Laws.Tick.{tick_chooses, next_byte_check}
use Rattle.chip.specs.declared.Chip.{Chip}
use Rattle.chip.specs.Event.{Event, Transmit}
use Rattle.whole.specs.Come as come
use Rattle.whole.specs.Start.{frame_ended}
use Rattle.stories.specs.Story.{Which, number, chan, happens, after, after_join}
use Rattle.stories.specs.Sent.{d6, is_tick}
use Rattle.history.specs.Sending.Side.{good, good_heeded, SenderSide, side, sending_in, side_of}
use Rattle.history.specs.Sending.Events.{ticked_of, tick_side}
use Rattle.timely.specs.Free.{Free}
use Rattle.sending.specs.Statement.{RunsDry}
use Rattle.sending.proofs.Underrun.{underrun_seen}
use Rattle.hosts.specs.Loaded.{sender_of, loads, loaded, idles, on_more, passed, flags, closed}
use Rattle.hosts.specs.Loaded.{Host}
use Rattle.history.specs.Sending.Stories.{ended, still, writes, ticking}
use Rattle.hosts.proofs.Steps.{in_check}
use Rattle.hosts.specs.Statement.{FedLate, IncidentTold, NoIncident}
use Rattle.hosts.proofs.Line.{tick_loaded, tick_passed, kept, every_host}

-- Joining stories

pub host_free : (w : Which) {c : Chip} {st : List Event} → Host w c st → Free w c st
host_free w ended = ended
host_free w (still r k h) = still r k (host_free w h)
host_free w (writes h) = writes (host_free w h)
host_free w (ticking e h) = ticking tt (host_free w h)

pub host_join : (w : Which) {c : Chip} {xs : List Event} (ys : List Event) → Host w c xs
    → Host w (after c xs) ys
    → Host w c (xs ++ ys)
unfolding after
host_join w ys ended h = h
host_join w ys (still r k i) h = still r k (host_join w ys i h)
host_join w ys (writes i) h = writes (host_join w ys i h)
host_join w ys (ticking e i) h = ticking e (host_join w ys i h)

pub loaded_join : (w : Which) (c : Chip) (xs ys : List Event)
    → loaded w c (xs ++ ys) ≡ loaded w c xs ++ loaded w (after c xs) ys
unfolding loaded after
loaded_join w c [] ys = refl
loaded_join w c (x ∷ xs) ys =
    let d = (happens c x).chip in
    let l = loads (is_tick w x) (sender_of w c) (sender_of w d) in
    ap (λ (b : List ℕ). l ++ b) (loaded_join w d xs ys)
    ∙ sym (append_assoc l (loaded w d xs) (loaded w (after d xs) ys))

-- no flag passes behind xs
passed_join : (w : Which) (c : Chip) (xs ys : List Event) → passed w (after c xs) ys ≡ 0
    → passed w c (xs ++ ys) ≡ passed w c xs
unfolding passed after
passed_join w c [] ys e = e
passed_join w c (x ∷ xs) ys e =
    ap (on_more (is_tick w x && idles (sender_of w c))) (passed_join w (happens c x).chip xs ys e)

-- The tick that finds the line dry

module _ (w : Which) (c : Chip) (d : RunsDry w c) where
  abbrev dried : Framer
  dried =
      let s = (chan w c).sender in
      framer (Byte 0 d.last) (insertion s.insertion.run false)
      (shared None false s.shared.check)

  dry_side : side_of w c ≡ side dried good
  dry_side =
      let s = (chan w c).sender in
      let h = good_heeded (sending_in (chan w c)) d.settings in
      λ i. side (framer (d.byte i) (insertion s.insertion.run (d.paid i))
      (shared (buffer_empty s.shared d.empty i) (d.cleared i) s.shared.check)) (h i)

  abbrev checked : Framer
  checked =
      let s = (chan w c).sender in
      let y = complement s.shared.check in
      let r = s.insertion.run in
      framer (Check 15 (shifted y)) (insertion (run_after r (top y)) (owes r (top y)))
      (shared None true s.shared.check)

  dry_ticks : side_of w (happens c (Transmit (number w))).chip ≡ side checked good
  dry_ticks =
      let s = (chan w c).sender in
      let k = shared None false s.shared.check in
      let r = s.insertion.run in
      let e : ticked_of w c ≡ framed (top (complement s.shared.check)) false checked =
      ap (λ (x : SenderSide). tick_sdlc come.good x.sender) dry_side
      ∙ tick_chooses come.good r k (Byte 0 d.last) refl
      ∙ next_byte_check come.good r k refl 0 d.last refl refl refl in
      tick_side w c (ap (λ (x : SenderSide). x.heeds) dry_side)
      ∙ ap (λ (x : Framed). side x.framer good) e

  -- nothing is loaded from there on, and no flag passes
  dry_none : (ys : List Event) → Host w (happens c (Transmit (number w))).chip ys
      → (loaded w c (Transmit (number w) ∷ ys) ≡ []) × (passed w c (Transmit (number w) ∷ ys) ≡ 0)
  dry_none ys h =
      let was = ap (λ (x : SenderSide). x.sender) dry_side in
      let is = ap (λ (x : SenderSide). x.sender) dry_ticks in
      let k = kept w h checked dry_ticks (in_check _ _ _ _ _ _) in (
        tick_loaded w c ys dried checked was is ∙ k.may_be.1,
        tick_passed w c ys dried was
            ∙ k.may_be.0,
      )

  dry_open : closed w c ≡ false
  dry_open = ap (λ (x : SenderSide). frame_ended x.sender) dry_side

pub fed_late : FedLate
fed_late w c p xs ys s h d l e =
    let more = Transmit (number w) ∷ ys in
    let all = host_join w more h (ticking (dry_open w (after c xs) d) l) in
    let z = dry_none w (after c xs) d ys l in
    (every_host w c p (xs ++ more) s all).whole e
    ∙ ap₂ (λ (n : ℕ) (b : List ℕ). flags n ++ frame b) (passed_join w c xs more z.1)
    (loaded_join w c xs more ∙ ap (λ (b : List ℕ). loaded w c xs ++ b) z.0
    ∙ append-nil (loaded w c xs))

below_front : (xs ys : List ℕ) → Below 256 (xs ++ ys) → Below 256 xs
below_front [] ys h = below_none
below_front (x ∷ xs) ys (below_more l h) = below_more l (below_front xs ys h)

pub incident_told : IncidentTold
incident_told w c p meant xs ys i =
    let more = Transmit (number w) ∷ ys in
    let j = after_join c xs more in
    record {
      line = fed_late w c p xs ys i.start i.fed i.dry i.late i.ends;
      other = λ b e.
          let f =
          frame_same (below_front (loaded w c xs) (i.missing ∷ i.more)
          (subst (Below 256) i.front b)) b e in
          omega (
            arith,
            ap length (f ∙ i.front),
            length-append (loaded w c xs) (i.missing ∷ i.more),
          );
      seen =
          ap (d6 w) j ∙ underrun_seen w (after c xs) ys i.dry i.unlatched
          (host_free w i.late)
          (ap (λ (d : Chip). (chan w d).pointer) (sym j) ∙ i.looks);
    }

pub no_incident : NoIncident
no_incident w c p meant xs ys i =
    void (sym i.unseen ∙ (incident_told w c p meant xs ys i.starved).seen)
