-- A call is refused with the number of the first row of the paper's table that holds, and with
-- none if none does; a refused call changes nothing. Assumes nothing.
use Rattle.std.specs.Prelude.{◌≡◌, refl, ◌≢◌, ◌⊎◌, Bool, true, false, not, ◌&&◌, ◌||◌, List, [], ◌∷◌, ℕ, zero, suc, eqb, leb, if◌then◌else◌}
use Rattle.std.proofs.Common.{ap, inl, inr, ⊎_elim, arith, eqb-true, le-leb, ne_eqb}
use Rattle.common.specs.Tools.{if_elim, by_test, bool_or}
use Rattle.common.specs.declared.Refusal.TheVariants as refusal
use Rattle.queue.specs.Queue.{waits}
use Rattle.interrupts.specs.Interrupts.{may_take, acknowledged}
use Rattle.vector.specs.Vector.{acked_by}
use Rattle.settings.specs.Settings.{not_built}
use Rattle.channel.specs.declared.Side.{Side}
use Rattle.channel.specs.declared.Side.TheVariants.{A, B}
use Rattle.channel.specs.declared.Channel.{Channel}
use Rattle.channel.specs.declared.Answer.TheVariants.{Refused}
use Rattle.channel.specs.declared.Answered.{Answered}
use Rattle.channel.specs.Answer.{answer_number}
use Rattle.channel.specs.Channel.{answered}
use Rattle.channel.specs.Control.{control_written}
use Rattle.channel.specs.Events.{data_read, transmit_tick}
use Rattle.chip.specs.declared.Chip.{Chip}
use Rattle.chip.specs.declared.Outcome.{Outcome}
use Rattle.chip.specs.Interrupts.{with_a, with_b, pending_of, rr2, acknowledge}
use Rattle.chip.specs.Chip.{in_a, in_b, by_channel, in_channel}
use Rattle.chip.specs.Chip.{control_write_a, control_write_b, control_write, control_read_call}
use Rattle.chip.specs.Chip.{data_write_in}
use Rattle.chip.specs.Chip.{data_write_call, data_read_call, transmit_call}
use Rattle.chip.specs.Chip.{receive_in, receive_call, lines_in, lines_call}
use Rattle.chip.specs.Event.{Event, HardReset, ControlWrite, ControlRead, DataWrite, DataRead}
use Rattle.chip.specs.Event.{Transmit, Receive, SetLines, Acknowledge, Reti}
use Rattle.chip.specs.Event.{acked_answer, step}
use Rattle.promises.specs.Refusals.{Row, channel_above, bit_above, lines_above, setting_not_built}
use Rattle.promises.specs.Refusals.{none_waits}
use Rattle.promises.specs.Refusals.{rows_of, first_row}

abbrev number_in : Outcome → ℕ
number_in r = answer_number r.answer

-- The number

-- row 1, then what the channel's own call says
by_channel_number : (c : Chip) (ch : ℕ) (a b : Outcome) (rows : ℕ → List Row)
    → number_in a ≡ first_row (rows 0) → number_in b ≡ first_row (rows 1)
    → number_in (by_channel c ch a b) ≡ first_row (channel_above ch ∷ rows ch)
by_channel_number c zero a b rows p q = p
by_channel_number c (suc zero) a b rows p q = q
by_channel_number c (suc (suc n)) a b rows p q =
    let m = suc (suc n) in
    rw (ne_eqb m 0 (λ e. omega arith), ne_eqb m 1 (λ e. omega arith), le-leb 2 m (omega arith))

alike_number : (c : Chip) (ch : ℕ) (call : Channel → Answered) (rows : List Row)
    → ((x : Channel) → answer_number (call x).answer ≡ first_row rows)
    → number_in (in_channel c ch call) ≡ first_row (channel_above ch ∷ rows)
alike_number c ch call rows p =
    by_channel_number c ch (in_a c (call c.a)) (in_b c (call c.b)) (λ n. rows)
    (p c.a) (p c.b)

written_number : (x : Channel) (w : Side) (v : ℕ)
    → answer_number (control_written x w v).answer
    ≡ (if eqb x.pointer 4 && not_built v then 3 else 0)
unfolding control_written
written_number x w v =
    by_test (λ (r : Answered). answer_number r.answer
    ≡ (if eqb x.pointer 4 && not_built v then 3 else 0)) (eqb x.pointer 0)
    (λ e. let z : x.pointer ≡ 0 = eqb-true x.pointer 0 e in rw z)
    (λ e. bool_or (eqb x.pointer 4 && not_built v) (λ t. rw t) (λ t. rw t))

level_number : (x : Channel) (above : Bool) (r : Answered) → answer_number r.answer ≡ 0
    → answer_number (if above then answered (Refused refusal.Level) x else r).answer
    ≡ first_row ((2, above) ∷ [])
level_number x true r p = refl
level_number x false r p = p

tick_number : (x : Channel) → answer_number (transmit_tick x).answer ≡ 0
unfolding transmit_tick
tick_number x = refl

read_number : (x : Channel)
    → answer_number (data_read x).answer ≡ (if not (waits x.queue) then 10 else 0)
unfolding data_read
read_number x = bool_or (waits x.queue) (λ e. rw e) (λ e. rw e)

acked_number_lem : (taken : Bool) (v : ℕ)
    → answer_number (acked_answer (acked_by taken v)) ≡ (if not taken then 4 else 0)
acked_number_lem true v = refl
acked_number_lem false v = refl

pub refused_by_the_table : (c : Chip) (e : Event)
    → answer_number (step c e).answer ≡ first_row (rows_of c e)
unfolding
    control_write control_write_a control_write_b control_read_call data_write_call data_read_call transmit_call
    receive_call lines_call acknowledge
refused_by_the_table c HardReset = refl
refused_by_the_table c (ControlWrite ch v) =
    by_channel_number c ch _ _ (λ n. setting_not_built c n v ∷ [])
    (written_number c.a A v) (written_number c.b B v)
refused_by_the_table c (ControlRead ch) = by_channel_number c ch _ _ (λ n. []) refl refl
refused_by_the_table c (DataWrite ch v) =
    alike_number c ch (λ x. data_write_in x v) [] (λ x. refl)
refused_by_the_table c (DataRead ch) =
    by_channel_number c ch _ _ (λ n. none_waits c n ∷ []) (read_number c.a) (read_number c.b)
refused_by_the_table c (Transmit ch) = alike_number c ch transmit_tick [] tick_number
refused_by_the_table c (Receive ch bit) =
    alike_number c ch (λ x. receive_in x bit) (bit_above bit ∷ [])
    (λ x. level_number x (leb 2 bit) _ refl)
refused_by_the_table c (SetLines ch dcd cts) =
    alike_number c ch (λ x. lines_in x dcd cts) (lines_above dcd cts ∷ [])
    (λ x. level_number x (leb 2 dcd || leb 2 cts) _ refl)
refused_by_the_table c Acknowledge = acked_number_lem (may_take (pending_of c) c.service) (rr2 c)
refused_by_the_table c Reti = refl

-- Nothing changes

-- not refused, or the chip that came in
abbrev Kept : Chip → Outcome → Type 0
Kept c r = (number_in r ≡ 0) ⊎ (r.chip ≡ c)

abbrev KeptChannel : Channel → Answered → Type 0
KeptChannel x r = (answer_number r.answer ≡ 0) ⊎ (r.channel ≡ x)

by_channel_kept : (c : Chip) (ch : ℕ) (a b : Outcome) → Kept c a → Kept c b
    → Kept c (by_channel c ch a b)
by_channel_kept c ch a b p q =
    if_elim (Kept c) (eqb ch 0) {x = a} p (if_elim (Kept c) (eqb ch 1) {x = b} q (inr refl))

in_a_kept : (c : Chip) (r : Answered) → KeptChannel c.a r → Kept c (in_a c r)
in_a_kept c r (inl e) = inl e
in_a_kept c r (inr e) = inr (ap (λ (x : Channel). with_a c x) e)

in_b_kept : (c : Chip) (r : Answered) → KeptChannel c.b r → Kept c (in_b c r)
in_b_kept c r (inl e) = inl e
in_b_kept c r (inr e) = inr (ap (λ (x : Channel). with_b c x) e)

alike_kept : (c : Chip) (ch : ℕ) (call : Channel → Answered)
    → ((x : Channel) → KeptChannel x (call x)) → Kept c (in_channel c ch call)
alike_kept c ch call k =
    by_channel_kept c ch (in_a c (call c.a)) (in_b c (call c.b))
    (in_a_kept c (call c.a) (k c.a)) (in_b_kept c (call c.b) (k c.b))

written_kept : (x : Channel) (w : Side) (v : ℕ) → KeptChannel x (control_written x w v)
unfolding control_written
written_kept x w v =
    if_elim (KeptChannel x) (eqb x.pointer 0) (inl refl)
    (if_elim (KeptChannel x) (eqb x.pointer 4 && not_built v) (inr refl) (inl refl))

wr0_number : (x : Channel) (w : Side) (v : ℕ) → eqb x.pointer 0 ≡ true
    → answer_number (control_written x w v).answer ≡ 0
unfolding control_written
wr0_number x w v e = rw e

-- commands stand in WR0, and no write of WR0 is refused
write_a_kept : (c : Chip) (v : ℕ) → Kept c (control_write_a c v)
unfolding control_write_a
write_a_kept c v =
    bool_or (eqb c.a.pointer 0) (λ e. inl (wr0_number c.a A v e))
    (λ e. rw e (in_a_kept c (control_written c.a A v) (written_kept c.a A v)))

write_b_kept : (c : Chip) (v : ℕ) → Kept c (control_write_b c v)
unfolding control_write_b
write_b_kept c v =
    bool_or (eqb c.b.pointer 0) (λ e. inl (wr0_number c.b B v e))
    (λ e. rw e (in_b_kept c (control_written c.b B v) (written_kept c.b B v)))

level_kept : (x : Channel) (above : Bool) (r : Answered) → answer_number r.answer ≡ 0
    → KeptChannel x (if above then answered (Refused refusal.Level) x else r)
level_kept x true r p = inr refl
level_kept x false r p = inl p

read_kept : (x : Channel) → KeptChannel x (data_read x)
unfolding data_read
read_kept x = if_elim (KeptChannel x) (waits x.queue) (inl refl) (inr refl)

acknowledge_kept : (c : Chip) → Kept c (step c Acknowledge)
unfolding acknowledge acknowledged
acknowledge_kept c =
    bool_or (may_take (pending_of c) c.service) (λ e. inl (rw e)) (λ e. inr (rw e))

kept : (c : Chip) (e : Event) → Kept c (step c e)
unfolding control_write control_read_call data_write_call data_read_call transmit_call receive_call lines_call
kept c HardReset = inl refl
kept c (ControlWrite ch v) =
    by_channel_kept c ch _ _ (write_a_kept c v) (write_b_kept c v)
kept c (ControlRead ch) = by_channel_kept c ch _ _ (inl refl) (inl refl)
kept c (DataWrite ch v) = alike_kept c ch (λ x. data_write_in x v) (λ x. inl refl)
kept c (DataRead ch) = alike_kept c ch data_read read_kept
kept c (Transmit ch) = alike_kept c ch transmit_tick (λ x. inl (tick_number x))
kept c (Receive ch bit) =
    alike_kept c ch (λ x. receive_in x bit) (λ x. level_kept x (leb 2 bit) _ refl)
kept c (SetLines ch dcd cts) =
    alike_kept c ch (λ x. lines_in x dcd cts) (λ x. level_kept x (leb 2 dcd || leb 2 cts) _ refl)
kept c Acknowledge = acknowledge_kept c
kept c Reti = inl refl

-- "A refusal changes nothing, the register pointer included"
pub refused_changes_nothing : (c : Chip) (e : Event) → answer_number (step c e).answer ≢ 0
    → (step c e).chip ≡ c
refused_changes_nothing c e refused = ⊎_elim (λ z. absurd (refused z)) (λ same. same) (kept c e)
