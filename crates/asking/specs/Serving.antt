-- 01, Interrupts: acknowledge, RETI and WR0's command 7. Assumes nothing.
use Rattle.std.specs.Prelude.{◌≡◌, refl, List, [], ◌∷◌, ◌++◌, ◌+◌}
use Rattle.chip.specs.Event.{Event, SetLines, Acknowledge, Reti}
use Rattle.tales.specs.Tale.{Happens, telling, reads, refusal, vector}
use Rattle.tales.specs.Words.{command, set, writes, ticks, reset_status, as_reti, clear_underrun}
use Rattle.tales.specs.Words.{one_stop, sending}
use Rattle.asking.specs.Happens.{happens}

-- status affects the vector; DCD goes on in B, then in A, and both ask
abbrev in_b : List Event
in_b = set 1 1 0b101 ++ (SetLines 1 1 0 ∷ [])

abbrev in_a : List Event
in_a = set 0 1 0b1 ++ (SetLines 0 1 0 ∷ [])

-- B's is taken, and A's above it
abbrev b_taken : List Event
b_taken = in_b ++ (Acknowledge ∷ [])

abbrev both_taken : List Event
both_taken = b_taken ++ in_a ++ (Acknowledge ∷ [])

-- A's transmit is taken
abbrev sent_taken : List Event
sent_taken = sending 0 one_stop ++ set 0 1 0b10 ++ writes 0 0 ++ ticks 0 1 ++ (Acknowledge ∷ [])

pub record Told (happens : Happens) : Type 0 where
  -- "Acknowledge puts the highest source in service and leaves it pending"
  pub taken : vector happens in_b ≡ 0b0010
  pub left_pending : reads happens sent_taken 0 0 ≡ 0x46
  -- 4: "acknowledge with no pending source above all those in service"
  pub nothing_waits : refusal happens [] Acknowledge ≡ 4
  pub not_twice : refusal happens b_taken Acknowledge ≡ 4
  pub above_taken : vector happens (b_taken ++ in_a) ≡ 0b1010
  pub below_waits :
      refusal happens (in_a ++ (Acknowledge ∷ (command 0 reset_status ++ in_b))) Acknowledge ≡ 4
  -- "RETI ends the highest in service, or does nothing if there is none."
  pub highest_ended : vector happens (both_taken ++ (Reti ∷ [])) ≡ 0b1010
  pub highest_alone :
      refusal happens (both_taken ++ (Reti ∷ command 0 reset_status)) Acknowledge ≡ 4
  pub all_ended_lem : vector happens (both_taken ++ (Reti ∷ Reti ∷ command 0 reset_status)) ≡ 0b0010
  pub reti_leaves_pending : reads happens (sent_taken ++ (Reti ∷ [])) 0 0 ≡ 0x46
  -- "7 as RETI (A only, none in B)"
  pub through_a : vector happens (b_taken ++ command 0 as_reti) ≡ 0b0010
  pub not_through_b : refusal happens (b_taken ++ command 1 as_reti) Acknowledge ≡ 4
  pub not_in_wr6 : refusal happens (b_taken ++ set 0 6 as_reti) Acknowledge ≡ 4
  -- "Order: command, D7-6, pointer": D6 is cleared
  pub d6_with_7 : reads happens (command 0 (as_reti + clear_underrun)) 0 0 ≡ 0x04

pub told : Told happens
unfolding telling
told = record {
  taken = refl;
  left_pending = refl;
  nothing_waits = refl;
  not_twice = refl;
  above_taken = refl;
  below_waits = refl;
  highest_ended = refl;
  highest_alone = refl;
  all_ended_lem = refl;
  reti_leaves_pending = refl;
  through_a = refl;
  not_through_b = refl;
  not_in_wr6 = refl;
  d6_with_7 = refl;
}
