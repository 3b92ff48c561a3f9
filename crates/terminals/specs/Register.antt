-- The receive check of a chip in Monosync or Bisync, at every moment. Assumes nothing.
use Rattle.std.specs.Prelude.{None, ◌≡◌, Bool, true, List, [], ◌∷◌, ℕ, if◌then◌else◌}
use Rattle.std.proofs.Math.Path.{refl}
use Rattle.std.proofs.Common.{sym, ap, ap₂, ◌∙◌, subst}
use Rattle.std.proofs.Math.Bool.{false}
use Rattle.common.specs.Mode.{in_blocks}
use Rattle.common.specs.Tools.{bool_or, void}
use Rattle.shared.specs.Preset.{zeros}
use Rattle.bytesync.specs.declared.Reception.{Reception}
use Rattle.bytesync.specs.Hearing.{searching, hear_block}
use Rattle.blocks.specs.Register.{Tale, Hunt, Within, told, entrants_of, check_through}
use Rattle.blocks.specs.Register as register
use Rattle.blocks.proofs.Laws.Register.{Steady, ticked, through_one}
use Rattle.receiver.specs.declared.Receiver.{Receiver}
use Rattle.receiver.specs.declared.Heard.{Heard}
use Rattle.receiver.specs.Receiver.{by_matched, dropped, hear}
use Rattle.channel.specs.Channel.{settled}
use Rattle.channel.specs.Events.{receive_tick}
use Rattle.channel.specs.declared.Channel.{Channel}
use Rattle.chip.specs.declared.Chip.{Chip}
use Rattle.chip.specs.Event.{Event}
use Rattle.stories.specs.Story.{Which, chan, happens, after}
use Rattle.stories.specs.Received.{ToReceiver, Hears, Reads, Else, to_receiver, bit_in}
use Rattle.history.specs.Receiving.Roles.{by_role}
use Rattle.history.specs.Receiving.Side.{receiving_in}
use Rattle.terminals.specs.Side.{side_of}
use Rattle.receiver.specs.Laws.Tick.{hear_blocks}
use Rattle.terminals.specs.Events.{hear_off}
use Rattle.terminals.specs.Statement.{reception_of, check_of, Since, over, hears}
use Rattle.terminals.specs.Statement.{searches, still, tale_of, tales_of, RegisterIs}
use Rattle.terminals.specs.Statement.{RegisterSincePreset}

-- what a tick makes of the receiver
abbrev heard_in : Which → Chip → Bool → Heard
heard_in w c b = hear (receiving_in (chan w c)) (chan w c).receiver b

abbrev ReceiverIs : Which → Chip → Channel → ToReceiver → Type 0
ReceiverIs w c d (Hears b) = d.receiver ≡ (heard_in w c b).receiver
ReceiverIs w c d Reads = Unit
ReceiverIs w c d Else = Unit

receiver_is : (w : Which) (c : Chip) (e : Event)
    → ReceiverIs w c (chan w (happens c e).chip) (to_receiver w e)
unfolding receive_tick settled
receiver_is w c e = by_role w c (λ x r. ReceiverIs w c x.channel r) (λ x. tt) (λ b. refl) tt e

-- An event's tale, by its role

abbrev quiet_tale : Bool → Tale
quiet_tale h = if h then Hunt else Within

quiet_tale_lem : (w : Which) (c d : Chip) (r : ToReceiver) → bit_in r ≡ []
    → tale_of w c d r ≡ quiet_tale (reception_of w d).hunt
quiet_tale_lem w c d (Hears b) e = void (ap is_some (sym e))
  where
    is_some : List Bool → Bool
    is_some [] = false
    is_some (x ∷ xs) = true
quiet_tale_lem w c d Reads e = refl
quiet_tale_lem w c d Else e = refl

-- hunt is steady, and so is what is not in hunt
quiet_steady : (h : Bool) (r : Reception) (ts : List Tale) → r.hunt ≡ h
    → Steady r (quiet_tale h ∷ ts)
unfolding entrants_of
quiet_steady true r ts e = λ k h. refl
quiet_steady false r ts e = λ k. void (sym e ∙ k)

tale_steady : (w : Which) (c d : Chip) (b : Bool) (ts : List Tale)
    → Steady (reception_of w c) (tale_of w c d (Hears b) ∷ ts)
tale_steady w c d b ts k h = go (receiving_in (chan w c)).on
  where
    go : (o : Bool)
        → let g = receiving_in (chan w c) in
        let t = told (reception_of w c) (register.Hears g.matching b) in
        entrants_of h ((if o then t else Hunt) ∷ ts)
        ≡ entrants_of None ((if o then t else Hunt) ∷ ts)
    go true = unfold entrants_of in rw k
    go false = unfold entrants_of in refl

-- the next receiver, in hunt or not, takes a story's tales as they are
steady : (w : Which) {c : Chip} {st : List Event} → Since w c st
    → Steady (reception_of w c) (tales_of w c st)
unfolding tales_of entrants_of
steady w over = λ k h. refl
steady w (hears {c = c} {e = e} {st = st} {b = b} z m i) =
    let d = (happens c e).chip in
    subst (λ (r : ToReceiver). Steady (reception_of w c) (tale_of w c d r ∷ tales_of w d st)) (sym z)
    (tale_steady w c d b (tales_of w d st))
steady w (searches {c = c} {e = e} {st = st} z r k i) =
    let d = (happens c e).chip in
    let t : tale_of w c d (to_receiver w e) ≡ Hunt =
    quiet_tale_lem w c d (to_receiver w e) z ∙ ap (λ (x : Reception). quiet_tale x.hunt) r in
    subst (λ (x : Tale). Steady (reception_of w c) (x ∷ tales_of w d st)) (sym t)
    (λ k h. refl)
steady w (still {c = c} {e = e} {st = st} z r k i) =
    let d = (happens c e).chip in
    let t : tale_of w c d (to_receiver w e) ≡ quiet_tale (reception_of w c).hunt =
    quiet_tale_lem w c d (to_receiver w e) z ∙ ap (λ (x : Reception). quiet_tale x.hunt) r in
    subst (λ (x : Tale). Steady (reception_of w c) (x ∷ tales_of w d st)) (sym t)
    (quiet_steady (reception_of w c).hunt (reception_of w c) (tales_of w d st) refl)

-- what enters from here on
abbrev Enters : Reception → ℕ → List Tale → ℕ
Enters r k ts = check_through k (entrants_of r.block.held ts)

-- hunt: nothing waits
hunt_enters : (r : Reception) (k : ℕ) (ts : List Tale)
    → Enters (searching true) k ts ≡ Enters r k (Hunt ∷ ts)
unfolding entrants_of
hunt_enters r k ts = refl

-- a tick while on, and while off
tick_enters : (w : Which) (c d : Chip) (b : Bool) (ts : List Tale)
    → in_blocks (side_of w c).heeds.mode ≡ true → (chan w d).receiver ≡ (heard_in w c b).receiver
    → Steady (reception_of w d) ts
    → Enters (reception_of w d) (check_of w d) ts
    ≡ Enters (reception_of w c) (check_of w c) (tale_of w c d (Hears b) ∷ ts)
tick_enters w c d b ts m e s =
    let g = receiving_in (chan w c) in
    let r = (chan w c).receiver in
    let tale = told r.reception (register.Hears g.matching b) in
    bool_or g.on
    (λ o.
    let h = hear_block g.matching r.reception r.check b in
    let q : (chan w d).receiver ≡ (by_matched r h).receiver =
    e ∙ ap (λ (x : Heard). x.receiver) (hear_blocks g r b m o) in
    let t : tale_of w c d (Hears b) ≡ tale = ap (λ (z : Bool). if z then tale else Hunt) o in
    ap (λ (x : Receiver). Enters x.reception x.check ts) q
    ∙ ticked g.matching r.reception r.check b ts
    (subst (λ (x : Receiver). Steady x.reception ts) q s)
    ∙ ap (λ (x : Tale). Enters r.reception r.check (x ∷ ts)) (sym t))
    (λ o.
    let q : (chan w d).receiver ≡ dropped r true false =
    e ∙ ap (λ (x : Heard). x.receiver) (hear_off g r b m o) in
    let t : tale_of w c d (Hears b) ≡ Hunt = ap (λ (z : Bool). if z then tale else Hunt) o in
    ap (λ (x : Receiver). Enters x.reception x.check ts) q
    ∙ hunt_enters r.reception r.check ts
    ∙ ap (λ (x : Tale). Enters r.reception r.check (x ∷ ts)) (sym t))

-- no tick, the receiver as it was
quiet_enters : (h : Bool) (r : Reception) (k : ℕ) (ts : List Tale) → r.hunt ≡ h → Steady r ts
    → Enters r k ts ≡ Enters r k (quiet_tale h ∷ ts)
unfolding entrants_of
quiet_enters true r k ts e s = ap (check_through k) (s e r.block.held)
quiet_enters false r k ts e s = refl

story_enters : (w : Which) {c : Chip} {st : List Event} → Since w c st
    → check_of w (after c st) ≡ Enters (reception_of w c) (check_of w c) (tales_of w c st)
unfolding after tales_of
story_enters w over = unfold entrants_of check_through in refl
story_enters w (hears {c = c} {e = e} {st = st} {b = b} z m i) =
    let d = (happens c e).chip in
    let ts = tales_of w d st in
    let r : (chan w d).receiver ≡ (heard_in w c b).receiver =
    subst (ReceiverIs w c (chan w d)) z (receiver_is w c e) in
    story_enters w i ∙ tick_enters w c d b ts m r (steady w i)
    ∙ ap (λ (x : ToReceiver). Enters (reception_of w c) (check_of w c) (tale_of w c d x ∷ ts)) (sym z)
story_enters w (searches {c = c} {e = e} {st = st} z r k i) =
    let d = (happens c e).chip in
    let ts = tales_of w d st in
    let t : tale_of w c d (to_receiver w e) ≡ Hunt =
    quiet_tale_lem w c d (to_receiver w e) z ∙ ap (λ (x : Reception). quiet_tale x.hunt) r in
    story_enters w i
    ∙ ap₂ (λ (x : Reception) (y : ℕ). Enters x y ts) r k
    ∙ hunt_enters (reception_of w c) (check_of w c) ts
    ∙ ap (λ (x : Tale). Enters (reception_of w c) (check_of w c) (x ∷ ts)) (sym t)
story_enters w (still {c = c} {e = e} {st = st} z r k i) =
    let d = (happens c e).chip in
    let ts = tales_of w d st in
    let t : tale_of w c d (to_receiver w e) ≡ quiet_tale (reception_of w c).hunt =
    quiet_tale_lem w c d (to_receiver w e) z ∙ ap (λ (x : Reception). quiet_tale x.hunt) r in
    story_enters w i
    ∙ ap₂ (λ (x : Reception) (y : ℕ). Enters x y ts) r k
    ∙ quiet_enters (reception_of w c).hunt (reception_of w c) (check_of w c) ts refl
    (subst (λ (x : Reception). Steady x ts) r (steady w i))
    ∙ ap (λ (x : Tale). Enters (reception_of w c) (check_of w c) (x ∷ ts)) (sym t)

pub register_is : RegisterIs
register_is w c st i = story_enters w i

pub register_since_preset : RegisterSincePreset
register_since_preset w c st p vs r k i e =
    story_enters w i
    ∙ ap₂ (λ (x : Reception) (y : ℕ). Enters x y (tales_of w c st)) r k
    ∙ ap (check_through zeros) e ∙ through_one p zeros vs
