-- Demand 3's abort, from the host's write to what another chip tells. Assumes nothing.
use Rattle.std.specs.Prelude.{◌≡◌, refl, Bool, true, false, List, [], ◌∷◌, ◌++◌, ℕ, ◌+◌, ◌≤◌, take, drop, replicate}
use Rattle.std.proofs.Common.{sym, ap, ap₂, ◌∙◌, subst, append_assoc, arith, take-append-drop}
use Rattle.sdlc.specs.declared.LineUnit.TheVariants.{Abort}
use Rattle.sdlc.specs.declared.Addressing.{Addressing}
use Rattle.sdlc.specs.declared.Listener.{Listener}
use Rattle.chip.specs.declared.Chip.{Chip}
use Rattle.chip.specs.Event.{Event, ControlWrite}
use Rattle.whole.specs.Heard.{Final, hear_all, flag_free, lead, end_marks}
use Rattle.whole.specs.Laws.Heard.{hear_join}
use Rattle.whole.specs.Laws.Deaf.{end_marks_join}
use Rattle.stories.specs.Story.{Which, number, chan, happens, after}
use Rattle.stories.specs.Sent.{line_of, ticks}
use Rattle.stories.specs.Received.{bits_of}
use Rattle.history.specs.Sending.Side.{good_of, sending_in}
use Rattle.history.specs.Sending.Events.{skip_line, line_join}
use Rattle.history.specs.Receiving.Side as receiving
use Rattle.history.specs.Receiving.Events.{Hearing}
use Rattle.hosts.specs.Loaded.{loaded, passed}
use Rattle.hosts.proofs.Line.{every_host}
use Rattle.aborts.specs.Statement.{Cuts, LeftToRun, abort_line, sent, AbortCuts, AbortUntold}
use Rattle.aborts.specs.Statement.{AbortDeaf}
use Rattle.aborts.specs.Statement.{waiting_of, Listens, ends_told}
use Rattle.aborts.specs.Cut.{CutFrom, abort_cut, runs_line}
use Rattle.aborts.specs.Heard.{cut_silent}
use Rattle.aborts.specs.Told.{told_few, attends_front}

module _ (w : Which) (c : Chip) (p : ℕ) (xs : List Event) (v : ℕ) (k : Cuts w c p xs v) where
  pub cut : CutFrom (chan w (after c xs))
      (chan w (happens (after c xs) (ControlWrite (number w) v)).chip)
  cut =
      let h = every_host w c p xs k.start k.host in
      abort_cut w (after c xs) v k.write (good_of (sending_in (chan w (after c xs))) h.heeds)
      h.uncut

  cut_line : (ys : List Event)
      → LeftToRun w (happens (after c xs) (ControlWrite (number w) v)).chip ys
      → ticks w ys ≤ 16
      → line_of w (after c xs) (ControlWrite (number w) v ∷ ys) ≡ take (ticks w ys) abort_line
  cut_line ys f m =
      let h = every_host w c p xs k.start k.host in
      skip_line w (after c xs) (ControlWrite (number w) v) ys refl
      ∙ runs_line w f (cut.2 ∙ h.heeds) (Abort 8) cut.0 cut.1 m

pub abort3 : AbortCuts
abort3 w c p xs v k =
    let h = every_host w c p xs k.start k.host in
    record {
      line = λ ys f m.
          line_join w c xs (ControlWrite (number w) v ∷ ys)
          ∙ ap (λ (l : List Bool). line_of w c xs ++ l) (cut_line w c p xs v k ys f m);
      no_end_lem = λ g r zs b f.
          ap (λ (x : List Bool). end_marks (hear_all g (hear_all g r (take 8 x)).listener
          (drop 8 x ++ (replicate 8 true ++ (zs ++ (b ∷ []))))).got) h.begun
          ∙ cut_silent g zs b f r (passed w c xs) (loaded w c xs) (p + ticks w xs) h.begins
          (h.unfinished k.before);
    }

lead_free : flag_free 7 lead ≡ true
unfolding flag_free
lead_free = refl

-- a front part of a line tells no more ends than the line
front_few : (g : Addressing) (s : Listener) (xs ys : List Bool) (n : ℕ)
    → end_marks (hear_all g s (xs ++ take n ys)).got ≤ end_marks (hear_all g s (xs ++ ys)).got
front_few g s xs ys n =
    let a = xs ++ take n ys in
    let e : xs ++ ys ≡ a ++ drop n ys =
    ap (λ (l : List Bool). xs ++ l) (sym (take-append-drop n ys))
    ∙ sym (append_assoc xs (take n ys) (drop n ys)) in
    let f = hear_all g s a in
    let more = (hear_all g f.listener (drop n ys)).got in
    omega (
      arith,
      ap (λ (l : List Bool). end_marks (hear_all g s l).got) e,
      ap (λ (x : Final). end_marks x.got) (hear_join g s a (drop n ys)),
      end_marks_join f.got more,
    )

-- a receiver's story in two parts: the ends told in the second are those that wait before it and
-- those that it hears
heard_few : (u : Which) (r : Chip) (qs rs : List Event) (first bits : List Bool)
    → Listens u r (qs ++ rs) → bits_of u qs ≡ first
    → bits_of u rs ≡ bits
    → let x = receiving.side_of u r in
    let g = x.settings.addressing in
    ends_told u (after r qs) rs
    ≤ end_marks (waiting_of u (after r qs)) + end_marks
    (hear_all g (hear_all g x.listener first).listener bits).got
heard_few u r qs rs first bits l b d =
    let x = receiving.side_of u r in
    let g = x.settings.addressing in
    let i = attends_front u qs l.attends l.hearing in
    let y = receiving.side_of u (after r qs) in
    let hearing : Hearing y.settings = subst Hearing (sym i.0.settings) l.hearing in
    let there : y.listener ≡ (hear_all g x.listener first).listener =
    i.0.listener ∙ ap (λ (z : List Bool). (hear_all g x.listener z).listener) b in
    let same : end_marks (hear_all y.settings.addressing y.listener (bits_of u rs)).got
    ≡ end_marks (hear_all g (hear_all g x.listener first).listener bits).got =
    ap (λ (z : receiving.Heeded). end_marks
    (hear_all z.addressing y.listener (bits_of u rs)).got) i.0.settings
    ∙ ap₂ (λ (z : Listener) (t : List Bool). end_marks (hear_all g z t).got) there d in
    omega (arith, told_few u i.1 hearing, same)

pub abort_unheard : AbortUntold
abort_unheard w c p xs ys v k f m u r qs rs l b d =
    let x = receiving.side_of u r in
    let g = x.settings.addressing in
    let first = take 8 (sent w c p xs) in
    let more = drop 8 (sent w c p xs) in
    let bits : bits_of u rs ≡ more ++ take (ticks w ys) abort_line =
    d ∙ ap (λ (z : List Bool). more ++ z) (cut_line w c p xs v k ys f m) in
    omega (
      arith,
      heard_few u r qs rs first (more ++ take (ticks w ys) abort_line) l b bits,
      front_few g (hear_all g x.listener first).listener more abort_line (ticks w ys),
      (abort3 w c p xs v k).no_end_lem g x.listener lead false lead_free,
    )

pub abort_deaf : AbortDeaf
abort_deaf w c p xs v k u r qs rs zs y l b d f =
    let x = receiving.side_of u r in
    omega (
      arith,
      heard_few u r qs rs (take 8 (sent w c p xs))
          (drop 8 (sent w c p xs) ++ (replicate 8 true ++ (zs ++ (y ∷ [])))) l b d,
      (abort3 w c p xs v k).no_end_lem x.settings.addressing x.listener zs y f,
    )
