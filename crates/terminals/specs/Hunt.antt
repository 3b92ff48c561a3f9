-- Enter Hunt in Monosync and Bisync: the search starts again, and RR0 D4 shows it. Assumes nothing.
use Rattle.std.specs.Prelude.{◌≡◌, refl, Bool, true, false, ◌&&◌, ◌||◌, ℕ, eqb, if◌then◌else◌, Option, None, is_some}
use Rattle.std.specs.Option.{unwrap_or}
use Rattle.std.proofs.Common.{ap, ◌∙◌}
use Rattle.common.specs.Mode.{in_sdlc, in_blocks, of_blocks, synchronous}
use Rattle.common.specs.Tools.{if_elim}
use Rattle.common.specs.declared.Mode.{Mode}
use Rattle.receiver.specs.declared.Receiver.{Receiver}
use Rattle.receiver.specs.Receiver.{enter_hunt}
use Rattle.settings.specs.Settings.{store3, enters_hunt, mode_in, receiving_of}
use Rattle.status.specs.declared.Live.{Live}
use Rattle.status.specs.declared.Status.{Status}
use Rattle.status.specs.Status.{changed, noticed, shown_bits}
use Rattle.channel.specs.declared.Side as channel
use Rattle.channel.specs.declared.Side.TheVariants as channels
use Rattle.channel.specs.declared.Channel.{Channel}
use Rattle.channel.specs.Channel.{with_registers, with_receiver, with_pointer, live_of, settled}
use Rattle.channel.specs.Control.{set_wr3, set_register, control_written}
use Rattle.chip.specs.declared.Chip.{Chip}
use Rattle.chip.specs.Chip.{control_write_a, control_write_b, control_write}
use Rattle.stories.specs.Story.{Which, A, B, chan}
use Rattle.terminals.specs.Statement.{HuntBegun, HuntAgain}
use Rattle.terminals.specs.Shown.{d4_is}

-- hunt as it now is shows, unless status was latched
unlatched_shows : (s : Status) (was is : Live) → s.latched ≡ None → is.hunt ≡ true
    → (shown_bits (noticed s was is) is).hunt ≡ true
unfolding noticed
unlatched_shows s was is n h =
    let p : (shown_bits s is).hunt ≡ true =
    ap (λ (o : Option Live). (unwrap_or o is).hunt) n ∙ h in
    if_elim (λ (x : Status). (shown_bits x is).hunt ≡ true) (is_some s.latched) p
    (if_elim (λ (x : Status). (shown_bits x is).hunt ≡ true) (changed was is) h p)

blocks_synchronous : (m : Mode) → in_blocks m ≡ true → synchronous m ≡ true
blocks_synchronous = of_blocks (λ (m : Mode). synchronous m ≡ true) refl refl

hunts : (m : Mode) → in_blocks m ≡ true → (in_sdlc m && true) || (in_blocks m && true) ≡ true
hunts = of_blocks (λ (m : Mode). (in_sdlc m && true) || (in_blocks m && true) ≡ true) refl refl

-- what the write leaves
abbrev hunt_in : Channel → ℕ → Channel
hunt_in c v = with_receiver (with_registers c (store3 c.registers v)) (enter_hunt c.receiver)

wr3_hunts : (c : Channel) (v : ℕ) → in_blocks (mode_in c.registers) ≡ true → enters_hunt v ≡ true
    → set_wr3 c v ≡ hunt_in c v
wr3_hunts c v m h =
    let d = with_registers c (store3 c.registers v) in
    let s = synchronous (mode_in c.registers) in
    ap (λ (b : Bool). if b && s then with_receiver d (enter_hunt c.receiver) else d) h
    ∙ ap (λ (b : Bool). if b then with_receiver d (enter_hunt c.receiver) else d)
    (blocks_synchronous (mode_in c.registers) m)

written_is : (c : Channel) (s : channel.Side) (v : ℕ) → in_blocks (mode_in c.registers) ≡ true
    → c.pointer ≡ 3 → enters_hunt v ≡ true
    → (control_written c s v).channel ≡ with_pointer (settled c (hunt_in c v)) 0
unfolding control_written set_register
written_is c s v m p h =
    let at0 : eqb c.pointer 0 ≡ false = ap (λ (n : ℕ). eqb n 0) p in
    let at1 : eqb c.pointer 1 ≡ false = ap (λ (n : ℕ). eqb n 1) p in
    let at2 : eqb c.pointer 2 ≡ false = ap (λ (n : ℕ). eqb n 2) p in
    let at3 : eqb c.pointer 3 ≡ true = ap (λ (n : ℕ). eqb n 3) p in
    let at4 : eqb c.pointer 4 ≡ false = ap (λ (n : ℕ). eqb n 4) p in
    rw (at0, at4, at1, at2, at3)
    (ap (λ (x : Channel). with_pointer (settled c x) 0) (wr3_hunts c v m h))

hunt_live : (c : Channel) (v : ℕ) → in_blocks (mode_in c.registers) ≡ true
    → (live_of (hunt_in c v)).hunt ≡ true
unfolding live_of receiving_of
hunt_live c v m = hunts (mode_in c.registers) m

shown_in : (c : Channel) (v : ℕ) → in_blocks (mode_in c.registers) ≡ true
    → c.status.latched ≡ None → let d = with_pointer (settled c (hunt_in c v)) 0 in
    (shown_bits d.status (live_of d)).hunt ≡ true
unfolding settled live_of
shown_in c v m n =
    let x = hunt_in c v in
    unlatched_shows c.status (live_of c) (live_of x) n (hunt_live c v m)

-- the write on a channel x that stands for channel w of c
begun_by : (w : Which) (c d : Chip) (x : Channel) (v : ℕ)
    → chan w d ≡ with_pointer (settled x (hunt_in x v)) 0 → in_blocks (mode_in x.registers) ≡ true
    → x.receiver ≡ (chan w c).receiver → x.queue ≡ (chan w c).queue → x.status ≡ (chan w c).status
    → HuntBegun w c d
unfolding settled
begun_by w c d x v e m r q s = record {
  begun = ap (λ (y : Channel). y.receiver.reception) e;
  check = ap (λ (y : Channel). y.receiver.check) e ∙ ap (λ (y : Receiver). y.check) r;
  queue = ap (λ (y : Channel). y.queue) e ∙ q;
  shown = λ n.
      d4_is w d (ap (λ (y : Channel). y.pointer) e)
      ∙ ap (λ (y : Channel). (shown_bits y.status (live_of y)).hunt) e
      ∙ shown_in x v m (ap (λ (y : Status). y.latched) s ∙ n);
}

pub hunt_again : HuntAgain
unfolding control_write control_write_a control_write_b receiving_of
hunt_again A c v m p h =
    begun_by A c (control_write c 0 v).chip c.a v (written_is c.a channels.A v m p h) m
    refl refl refl
hunt_again B c v m p h =
    begun_by B c (control_write c 1 v).chip c.b v (written_is c.b channels.B v m p h) m
    refl refl refl
