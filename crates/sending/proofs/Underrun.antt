-- Demand 3's underrun: the latch is set on the tick that finds the line dry and is shown then, the
-- frame holds the bytes loaded so far, and no frame closes unseen. Assumes nothing.
use Rattle.std.specs.Prelude.{◌≡◌, refl, true, false, List, [], ◌∷◌, ◌++◌, ℕ, ◌-◌, Option, Some, None, is_some}
use Rattle.std.specs.Option.{unwrap_or}
use Rattle.std.proofs.Common.{sym, ap, ◌∙◌}
use Rattle.common.specs.Tools.{void}
use Rattle.shared.specs.Shared.{shared}
use Rattle.shared.specs.Laws.Buffer.{buffer_empty}
use Rattle.sdlc.specs.declared.LineUnit.TheVariants.{Byte}
use Rattle.sdlc.specs.declared.Framer.{Framer}
use Rattle.sdlc.specs.Sending.{insertion, framer, tick_sdlc}
use Rattle.sender.specs.Sender.{framer_of}
use Rattle.status.specs.declared.Live.{Live}
use Rattle.status.specs.declared.Status.{Status}
use Rattle.status.specs.Status.{noticed, shown_bits}
use Rattle.channel.specs.Channel.{live_of, settled}
use Rattle.channel.specs.Events.{transmit_tick}
use Rattle.chip.specs.declared.Chip.{Chip}
use Rattle.chip.specs.Chip.{transmit_call}
use Rattle.chip.specs.Event.{Event, ControlWrite, DataWrite, Transmit}
use Rattle.whole.specs.Come.{opens}
use Rattle.whole.specs.Laws.Latch.{dry_sets, tick_set, Went, opened, latched, tick_went}
use Rattle.stories.specs.Story.{Which, A, B, number, chan, happens, after}
use Rattle.settings.specs.Bytes.{reset_status}
use Rattle.stories.specs.Sent.{d6}
use Rattle.history.specs.Sending.Side.{Heeded, good, good_heeded, SenderSide, sending_in, side_of}
use Rattle.history.specs.Sending.Side.{latch_of}
use Rattle.timely.specs.InTime.{InTime, over, still, writes, next_frame_lem, ticking}
use Rattle.timely.specs.Free.{Free}
use Rattle.sending.specs.Statement.{RunsDry, status_latched, UnderrunShown, LateInTime}
use Rattle.sending.specs.Statement.{UnderrunSeen, ResetShows, Watched, NotClosed}
use Rattle.sending.specs.Statement.{NeverUnseen}
use Rattle.history.specs.Sending.Events.{ticked_of, tick_side, write_side, tick_pointer}
use Rattle.sending.specs.Frame.{demand3}
use Rattle.shown.specs.Shown.{d6_read, Shows, shows_read, unlatched_shows, tick_shown}
use Rattle.shown.specs.Shown.{event_shown, reset_seen}
use Rattle.whole.specs.Come as come
use Rattle.history.specs.Sending.Stories as hosts

-- The tick that finds the line dry

dry_heeds : (w : Which) (c : Chip) → RunsDry w c → (side_of w c).heeds ≡ good
dry_heeds w c d = good_heeded (sending_in (chan w c)) d.settings

pub dry_latch : (w : Which) (c : Chip) → RunsDry w c
    → latch_of w (happens c (Transmit (number w))).chip ≡ true
dry_latch w c d =
    let s = (chan w c).sender in
    let k = s.shared in
    let e : framer_of s
    ≡ framer (Byte 0 d.last) (insertion s.insertion.run false)
    (shared None false k.check) =
    λ i. framer (d.byte i) (insertion s.insertion.run (d.paid i))
    (shared (buffer_empty k d.empty i) (d.cleared i) k.check) in
    ap (λ (x : SenderSide). x.sender.shared.latch) (tick_side w c (dry_heeds w c d))
    ∙ ap (λ (x : Framer). (tick_sdlc come.good x).framer.shared.latch) e
    ∙ dry_sets d.last s.insertion.run k.check

-- status that is latched stays as it is
tick_held : (w : Which) (c : Chip) → status_latched w c ≡ true
    → (chan w (happens c (Transmit (number w))).chip).status ≡ (chan w c).status
unfolding transmit_call transmit_tick settled noticed
tick_held A c n = rw n
tick_held B c n = rw n

-- and what it shows is not as the bits now are
latched_same : (o : Option Live) (x y : Live) → is_some o ≡ true → unwrap_or o x ≡ unwrap_or o y
latched_same None x y n = void n
latched_same (Some shown) x y n = refl

latched_read : (w : Which) (c : Chip) (live : Live) → (chan w c).pointer ≡ 0
    → status_latched w c ≡ true → d6 w c ≡ (shown_bits (chan w c).status live).underrun
latched_read w c live p n =
    d6_read w c p
    ∙ ap (λ (x : Live). x.underrun)
    (latched_same (chan w c).status.latched (live_of (chan w c)) live n)

pub underrun : UnderrunShown
underrun w c p d =
    let e = (happens c (Transmit (number w))).chip in
    let l = dry_latch w c d in
    let q = tick_pointer w c ∙ p in
    record {
      was = d.cleared;
      set = l;
      shown = λ n. shows_read w e q l (tick_shown w c (unlatched_shows (chan w c).status n) l);
      held = λ n.
          let s = tick_held w c n in
          let live = live_of (chan w c) in
          latched_read w e live q (ap (λ (x : Status). is_some x.latched) s ∙ n)
          ∙ ap (λ (x : Status). (shown_bits x live).underrun) s
          ∙ sym (latched_read w c live p n);
    }

-- After a tick and after a write

-- what a channel heeds, and its latch
abbrev pub heeds_of : Which → Chip → Heeded
heeds_of w c = (side_of w c).heeds

pub tick_heeds : (w : Which) (c : Chip) → heeds_of w c ≡ good
    → heeds_of w (happens c (Transmit (number w))).chip ≡ good
tick_heeds w c e = ap (λ (x : SenderSide). x.heeds) (tick_side w c e)

pub write_heeds : (w : Which) (c : Chip) (v : ℕ) → heeds_of w c ≡ good
    → heeds_of w (happens c (DataWrite (number w) v)).chip ≡ good
write_heeds w c v e = ap (λ (x : SenderSide). x.heeds) (write_side w c v) ∙ e

pub tick_latch : (w : Which) (c : Chip) → heeds_of w c ≡ good → latch_of w c ≡ true
    → latch_of w (happens c (Transmit (number w))).chip ≡ true
tick_latch w c e l =
    ap (λ (x : SenderSide). x.sender.shared.latch) (tick_side w c e)
    ∙ tick_set come.good (side_of w c).sender l

pub write_latch : (w : Which) (c : Chip) (v : ℕ)
    → latch_of w (happens c (DataWrite (number w) v)).chip ≡ latch_of w c
write_latch w c v = ap (λ (x : SenderSide). x.sender.shared.latch) (write_side w c v)

-- Late: with the latch set, whatever the host does is in time, and is another frame's

pub free_in_time : (w : Which) {c : Chip} {st : List Event} → Free w c st → heeds_of w c ≡ good
    → latch_of w c ≡ true → (n : ℕ) → InTime w [] c n [] st
free_in_time w hosts.ended e l n = over
free_in_time w (hosts.still {c = c} {e = x} r k f) e l n =
    still r k (free_in_time w f (ap (λ (x : SenderSide). x.heeds) k ∙ e)
    (ap (λ (x : SenderSide). x.sender.shared.latch) k ∙ l) n)
free_in_time w (hosts.writes {c = c} {v = v} f) e l n = next_frame_lem l
    (free_in_time w f (write_heeds w c v e) (write_latch w c v ∙ l) n)
free_in_time w (hosts.ticking {c = c} m f) e l n = ticking refl
    (free_in_time w f (tick_heeds w c e) (tick_latch w c e l) _)

in_time_join : (w : Which) {c : Chip} {n : ℕ} {rest : List ℕ} {xs : List Event} (ys : List Event)
    → InTime w [] c n rest xs
    → ((m : ℕ) → InTime w [] (after c xs) m [] ys) → InTime w [] c n rest (xs ++ ys)
unfolding after
in_time_join w ys (over {n = n}) f = f n
in_time_join w ys (still r k i) f = still r k (in_time_join w ys i f)
in_time_join w ys (writes e i) f = writes e (in_time_join w ys i f)
in_time_join w ys (next_frame_lem l i) f = next_frame_lem l (in_time_join w ys i f)
in_time_join w ys (ticking t i) f = ticking t (in_time_join w ys i f)

dry_tick_heeds : (w : Which) (c : Chip) → RunsDry w c
    → heeds_of w (happens c (Transmit (number w))).chip ≡ good
dry_tick_heeds w c d = tick_heeds w c (dry_heeds w c d)

-- a story that ran dry is in time for the bytes loaded so far
pub late_in_time : (w : Which) (c : Chip) (p v : ℕ) (vs : List ℕ) (xs ys : List Event)
    → InTime w [] c (p - 1) (v ∷ vs) xs → RunsDry w (after c xs)
    → Free w (happens (after c xs) (Transmit (number w))).chip ys
    → InTime w [] c (p - 1) (v ∷ vs) (xs ++ (Transmit (number w) ∷ ys))
late_in_time w c p v vs xs ys i d f =
    in_time_join w (Transmit (number w) ∷ ys) i
    (λ m. ticking refl
    (free_in_time w f (dry_tick_heeds w (after c xs) d) (dry_latch w (after c xs) d) _))

pub late_sent : LateInTime
late_sent w c p v vs xs ys s i d f n =
    demand3 w c p v vs (xs ++ (Transmit (number w) ∷ ys)) s (late_in_time w c p v vs xs ys i d f) n

-- Seen: from the choosing tick on

free_seen : (w : Which) {c : Chip} {st : List Event} → Free w c st → heeds_of w c ≡ good
    → latch_of w c ≡ true → Shows (chan w c).status
    → (latch_of w (after c st) ≡ true) × Shows (chan w (after c st)).status
unfolding after
free_seen w hosts.ended e l h = (l, h)
free_seen w (hosts.still {c = c} {e = x} r k f) e l h =
    let m = ap (λ (x : SenderSide). x.sender.shared.latch) k ∙ l in
    free_seen w f (ap (λ (x : SenderSide). x.heeds) k ∙ e) m (event_shown w c x l h m)
free_seen w (hosts.writes {c = c} {v = v} f) e l h =
    let m =
    write_latch w c v
    ∙ l in free_seen w f (write_heeds w c v e) m (event_shown w c (DataWrite (number w) v) l h m)
free_seen w (hosts.ticking {c = c} m f) e l h =
    let m = tick_latch w c e l in free_seen w f (tick_heeds w c e) m (tick_shown w c h m)

pub underrun_seen : UnderrunSeen
unfolding after
underrun_seen w c ys d n f p =
    let l = dry_latch w c d in
    let e = (happens c (Transmit (number w))).chip in
    let k =
    free_seen w f (dry_tick_heeds w c d) l
    (tick_shown w c (unlatched_shows (chan w c).status n) l) in
    shows_read w (after e ys) p k.0 k.1

-- status that was latched shows the latch with the next Reset External/Status
pub reset_shows : ResetShows
reset_shows w c p l =
    let e = (happens c (ControlWrite (number w) reset_status)).chip in
    let k = reset_seen w c p l in
    shows_read w e k.0 k.1 k.2

-- Never unseen

pub data Seen (w : Which) (c : Chip) : Type 0 where
  unclosed : NotClosed w c → Seen w c
  shown : latch_of w c ≡ true → Shows (chan w c).status → Seen w c

pub watched_seen : (w : Which) {c : Chip} {st : List Event} → Watched w c st → heeds_of w c ≡ good
    → Seen w c → Seen w (after c st)
unfolding after
watched_seen w hosts.ended e s = s
watched_seen w (hosts.still {c = c} {e = x} r k f) e (unclosed n) =
    watched_seen w f (ap (λ (x : SenderSide). x.heeds) k ∙ e)
    (unclosed (
      ap (λ (x : SenderSide). x.sender.shared.latch) k
          ∙ n.0,
      ap (λ (x : SenderSide). opens x.sender.unit) k ∙ n.1,
    ))
watched_seen w (hosts.still {c = c} {e = x} r k f) e (shown l h) =
    let m = ap (λ (x : SenderSide). x.sender.shared.latch) k ∙ l in
    watched_seen w f (ap (λ (x : SenderSide). x.heeds) k ∙ e) (shown m (event_shown w c x l h m))
watched_seen w (hosts.writes {c = c} {v = v} f) e (unclosed n) =
    watched_seen w f (write_heeds w c v e)
    (unclosed (
      write_latch w c v
          ∙ n.0,
      ap (λ (x : SenderSide). opens x.sender.unit) (write_side w c v) ∙ n.1,
    ))
watched_seen w (hosts.writes {c = c} {v = v} f) e (shown l h) =
    let m =
    write_latch w c v
    ∙ l in watched_seen w f (write_heeds w c v e)
    (shown m (event_shown w c (DataWrite (number w) v) l h m))
watched_seen w (hosts.ticking {c = c} u f) e (unclosed n) =
    watched_seen w f (tick_heeds w c e) (go (tick_went (side_of w c).sender n.0 n.1))
  where
    go : Went (ticked_of w c).framer → Seen w (happens c (Transmit (number w))).chip
    go (opened l o) =
        let t = tick_side w c e in
        unclosed (
          ap (λ (x : SenderSide). x.sender.shared.latch) t ∙ l,
          ap (λ (x : SenderSide). opens x.sender.unit) t ∙ o,
        )
    go (latched l) =
        let m = ap (λ (x : SenderSide). x.sender.shared.latch) (tick_side w c e) ∙ l in
        shown m (tick_shown w c (unlatched_shows (chan w c).status (u n.0)) m)
watched_seen w (hosts.ticking {c = c} u f) e (shown l h) =
    let m = tick_latch w c e l in watched_seen w f (tick_heeds w c e) (shown m (tick_shown w c h m))

pub never_unseen : NeverUnseen
never_unseen w c p st s f q z =
    go (watched_seen w f (good_heeded (sending_in (chan w c)) s.settings)
    (unclosed (s.cleared, ap opens s.flag)))
  where
    go : Seen w (after c st) → NotClosed w (after c st)
    go (unclosed n) = n
    go (shown l h) = void (sym z ∙ shows_read w (after c st) q l h)
