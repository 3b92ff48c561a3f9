-- A flag sends its own bits, from the tick that begins it. Assumes nothing.
use Rattle.std.specs.Prelude.{◌≡◌, refl, Bool, true, false, not, ◌&&◌, List, [], ◌∷◌, ◌++◌, ℕ, zero, suc, ◌+◌, ◌-◌, ◌≤◌, take, eqb}
use Rattle.std.proofs.Common.{sym, ap, ap₂, ◌∙◌, subst, arith}
use Rattle.common.specs.Tools.{both_left, both_right, not_true}
use Rattle.line.specs.declared.Insertion.{Insertion}
use Rattle.shared.specs.declared.Shared.{Shared}
use Rattle.shared.specs.Shared.{full}
use Rattle.sdlc.specs.declared.LineUnit.{LineUnit}
use Rattle.sdlc.specs.declared.LineUnit.TheVariants.{Mark, Flag, Byte, Check, Abort}
use Rattle.sdlc.specs.declared.Framing.{Framing}
use Rattle.sdlc.specs.declared.Framed.{Framed}
use Rattle.sdlc.specs.Sending.{insertion, not_counted, framer, flag_bit, tick_sdlc}
use Rattle.sdlc.specs.Sound.{SoundUnit}
use Rattle.sdlc.specs.Laws.Tick.{tick_flag, tick_chooses, next_mark, next_abort, next_check}
use Rattle.sdlc.specs.Laws.Tick.{next_flag_empty}
use Rattle.sdlc.specs.Laws.Tick.{next_byte_flag}
use Rattle.chip.specs.declared.Chip.{Chip}
use Rattle.chip.specs.Event.{Event, Transmit}
use Rattle.whole.specs.Come.{flag_tail}
use Rattle.whole.specs.Start.{flag_head}
use Rattle.stories.specs.Story.{Which, number, chan, happens, after}
use Rattle.stories.specs.Sent.{line_of, ticks}
use Rattle.history.specs.Sending.Side.{SenderSide, side_of}
use Rattle.history.specs.Sending.Events.{tick_more, skip_line}
use Rattle.history.specs.Sending.Events.{skip_ticks}
use Rattle.starts.specs.Statement.{OnAir, flag_next, GoesOn, ended, kept, ticking, WhereStarts}
use Rattle.starts.specs.Flag.{ticked_on, air_side, air_bit, air_stays, Begun, begun_by}

begins : (g : Framing) (u : LineUnit) (r : ℕ) (k : Shared) → g.on ≡ true
    → flag_next g.included k u ≡ true
    → Begun (tick_sdlc g (framer u (insertion r false) k))
begins g Mark r k o n =
    begun_by (tick_chooses g r k Mark refl ∙ next_mark g r k o)
begins g (Abort m) r k o n =
    begun_by (tick_chooses g r k (Abort m) n ∙ next_abort g r k o m)
begins g (Check m v) r k o n =
    begun_by (tick_chooses g r k (Check m v) n ∙ next_check g r k o m v)
begins g (Flag m) r k o n =
    let z = both_left (eqb m 0) (not (full k)) n in
    let f = not_true (full k) (both_right (eqb m 0) (not (full k)) n) in
    begun_by (tick_chooses g r k (Flag m) z ∙ next_flag_empty g r k o m f)
begins g (Byte m v) r k o n =
    let c = not k.latch && g.included in
    let z = both_left (eqb m 0) (not (full k) && not c) n in
    let y = both_right (eqb m 0) (not (full k) && not c) n in
    let f = not_true (full k) (both_left (not (full k)) (not c) y) in
    let i = not_true c (both_right (not (full k)) (not c) y) in
    begun_by (tick_chooses g r k (Byte m v) z ∙ next_byte_flag g r k o m v f i)

-- The flag goes on

record Along (w : Which) (c : Chip) (st : List Event) (n : ℕ) : Type 0 where
  pub line : line_of w c st ≡ take (ticks w st) (flag_tail n)
  pub unit : (chan w (after c st)).sender.unit ≡ Flag (n - ticks w st)
  pub counted : (chan w (after c st)).sender.insertion ≡ not_counted
  pub air : OnAir w (after c st)

along : (w : Which) {c : Chip} {st : List Event} → GoesOn w c st → (n : ℕ)
    → (chan w c).sender.unit ≡ Flag n
    → (chan w c).sender.insertion ≡ not_counted → OnAir w c → ticks w st ≤ n → Along w c st n
unfolding line_of ticks after
along w ended n u i a l =
    let z : n - 0 ≡ n = omega arith in
    record { line = refl; unit = u ∙ ap Flag (sym z); counted = i; air = a }
along w (kept {c = c} {e = x} {st = st} z p q b g) n u i a l =
    let t = skip_ticks w x st z in
    let k = along w g n (p ∙ u) (q ∙ i) b (omega (arith, t)) in
    record {
      line = skip_line w c x st z ∙ k.line ∙ ap (λ (m : ℕ). take m (flag_tail n)) (sym t);
      unit = k.unit ∙ ap (λ (m : ℕ). Flag (n - m)) (sym t);
      counted = k.counted;
      air = k.air;
    }
along w (ticking {st = st} g) zero u i a l = absurd (omega (arith, tick_more w st))
along w (ticking {c = c} {st = st} g) (suc n) u i a l =
    let d = (happens c (Transmit (number w))).chip in
    let k = (chan w c).sender.shared in
    let m = tick_more w st in
    let f = (side_of w c).heeds.framing in
    let e : ticked_on w c ≡ _ =
    ap₂ (λ (x : LineUnit) (y : Insertion). tick_sdlc f (framer x y k)) u i ∙ tick_flag f k n 0 in
    let s = air_side w c a in
    let o = along w g n
    (ap (λ (x : SenderSide). x.sender.unit) s ∙ ap (λ (x : Framed). x.framer.unit) e)
    (ap (λ (x : SenderSide). x.sender.insertion) s ∙ ap (λ (x : Framed). x.framer.insertion) e)
    (air_stays w c a) (omega (arith, m)) in
    let y : suc n - ticks w (Transmit (number w) ∷ st) ≡ n - ticks w st = omega (arith, m) in
    record {
      line =
          ap (λ (b : List Bool). b ++ line_of w d st)
          (air_bit w c a ∙ ap (λ (x : Framed). x.bit ∷ []) e)
          ∙ ap (λ (b : List Bool). flag_bit (suc n) ∷ b) o.line
          ∙ ap (λ (j : ℕ). take j (flag_tail (suc n))) (sym m);
      unit = o.unit ∙ ap Flag (sym y);
      counted = o.counted;
      air = o.air;
    }

pub where_starts : WhereStarts
unfolding line_of after
where_starts w c st b g l =
    let d = (happens c (Transmit (number w))).chip in
    let s = (chan w c).sender in
    let f = (side_of w c).heeds.framing in
    let x = begins f s.unit s.insertion.run s.shared b.air.on b.next in
    let e : ticked_on w c
    ≡ tick_sdlc f (framer s.unit (insertion s.insertion.run false) s.shared) =
    ap (λ (o : Bool). tick_sdlc f (framer s.unit (insertion s.insertion.run o) s.shared))
    b.paid in
    let y = air_side w c b.air in
    let k = along w g 7
    (ap (λ (z : SenderSide). z.sender.unit) y ∙ ap (λ (z : Framed). z.framer.unit) e ∙ x.unit)
    (ap (λ (z : SenderSide). z.sender.insertion) y ∙ ap (λ (z : Framed). z.framer.insertion) e
    ∙ x.counted)
    (air_stays w c b.air) (omega arith) in
    let m : 1 + ticks w st ≡ suc (ticks w st) = omega arith in
    let n : 8 - (1 + ticks w st) ≡ 7 - ticks w st = omega arith in
    let u : (chan w (after d st)).sender.unit ≡ Flag (8 - (1 + ticks w st)) =
    k.unit ∙ ap Flag (sym n) in
    record {
      line =
          ap (λ (q : List Bool). q ++ line_of w d st)
          (air_bit w c b.air ∙ ap (λ (z : Framed). z.bit ∷ []) e
          ∙ ap (λ (z : Bool). z ∷ []) x.bit)
          ∙ ap (λ (q : List Bool). false ∷ q) k.line
          ∙ ap flag_head (sym m);
      start = λ included empty preset cleared. record {
        some = omega arith;
        inside = l;
        flag = u;
        empty = empty;
        preset = preset;
        cleared = cleared;
        settings = record {
          sdlc_mode_lem = k.air.mode;
          on = k.air.on;
          included = included;
          no_break = k.air.no_break;
        };
        history =
            subst (λ (z : LineUnit). SoundUnit z (chan w (after d st)).sender.insertion) (sym u)
            (subst (SoundUnit (Flag (8 - (1 + ticks w st)))) (sym k.counted)
            ((refl, refl), omega arith));
      };
    }
