-- 01, Interrupts: priority and vectors, RR2 and RR0 D1. Assumes nothing.
use Rattle.std.specs.Prelude.{◌≡◌, refl, List, [], ◌∷◌, ◌++◌, ℕ}
use Rattle.chip.specs.Event.{Event, SetLines, Acknowledge}
use Rattle.tales.specs.Tale.{Happens, telling, reads, vector}
use Rattle.tales.specs.Words.{set, hears, writes, takes, ticks, one_stop, one_stop_odd, sdlc_mode}
use Rattle.tales.specs.Words.{hearing, sending, send_eight, char41, frame00}
use Rattle.asking.specs.Happens.{happens}

-- WR2 = F1, status on: vectors are F1, F3 and so on by bits 3-1
abbrev vectors : List Event
vectors = set 1 2 0xF1 ++ set 1 1 0b100

-- a character waits in a channel, its receive interrupt on for all
abbrev received : ℕ → ℕ → List Event
received ch wr1 = hearing ch one_stop ++ set ch 1 wr1 ++ char41 ch

-- a start bit has been sent, in A; in a channel, its transmit interrupt on
abbrev loads : List Event
loads = writes 0 0 ++ ticks 0 1

abbrev sent : ℕ → ℕ → List Event
sent ch wr1 = sending ch one_stop ++ set ch 1 wr1 ++ writes ch 0 ++ ticks ch 1

-- A has heard a frame of three characters, its receive interrupt on for all
abbrev heard_frame : List Event
heard_frame = hearing 0 sdlc_mode ++ set 0 1 0b11000 ++ frame00 0

-- A hears 41 with a wrong parity bit, odd parity being set, in this receive mode
abbrev wrong_parity : ℕ → List Event
wrong_parity mode = hearing 0 one_stop_odd ++ set 0 1 mode ++ hears 0 11 0b01000001001

-- DCD has gone on
abbrev carrier : ℕ → ℕ → List Event
carrier ch wr1 = set ch 1 wr1 ++ (SetLines ch 1 0 ∷ [])

pub record Told (happens : Happens) : Type 0 where
  -- "Vector bits 3-1: B transmit 0, external 1, receive 2, special 3; A 4 to 7."
  pub b_transmit : reads happens (vectors ++ sent 1 0b110) 1 2 ≡ 0xF1
  pub b_external : reads happens (vectors ++ carrier 1 0b101) 1 2 ≡ 0xF3
  pub b_receive : reads happens (vectors ++ received 1 0b11100) 1 2 ≡ 0xF5
  pub a_transmit : vector happens (vectors ++ sent 0 0b10) ≡ 0xF9
  pub a_external : vector happens (vectors ++ carrier 0 0b1) ≡ 0xFB
  pub a_receive : vector happens (vectors ++ received 0 0b11000) ≡ 0xFD
  -- "RR2 with none pending: 3. Status off: WR2."
  pub none_pending : reads happens vectors 1 2 ≡ 0xF7
  pub status_off : reads happens (set 1 2 0xF1 ++ carrier 0 0b1) 1 2 ≡ 0xF1
  -- "D2 status affects vector (B)"
  pub not_by_a : reads happens (set 1 2 0xF1 ++ carrier 0 0b101) 1 2 ≡ 0xF1
  -- "WR2: vector, B only; in A the write is accepted and stores nothing"; "RR2: vector, B. Other
  -- reads give 0."
  pub not_through_a : reads happens (set 0 2 0xF1) 1 2 ≡ 0
  pub no_rr2_in_a : reads happens vectors 0 2 ≡ 0
  -- "Priority: A receive, transmit, external, then B."
  pub receive_first :
      vector happens (vectors ++ received 0 0b11010 ++ set 0 5 send_eight ++ loads) ≡ 0xFD
  pub transmit_next : vector happens (vectors ++ sent 0 0b11 ++ (SetLines 0 1 0 ∷ [])) ≡ 0xF9
  pub a_before_b : vector happens (vectors ++ carrier 0 0b1 ++ received 1 0b11100) ≡ 0xFB
  -- "RR2 that of the highest pending": in service or not
  pub served_shows : reads happens (vectors ++ carrier 0 0b1 ++ (Acknowledge ∷ [])) 1 2 ≡ 0xFB
  -- "special: .. frame end", good or bad
  pub frame_end :
      reads happens (vectors ++ heard_frame ++ takes 0 2) 1 2 ≡ 0xFF
  -- "parity in mode 2"
  pub parity_in_mode_2 : reads happens (vectors ++ wrong_parity 0b10000) 1 2 ≡ 0xFF
  pub no_parity_in_mode_3 : reads happens (vectors ++ wrong_parity 0b11000) 1 2 ≡ 0xFD
  -- RR0 "D1 any source pending (A; 0 in B)", in service or not
  pub d1_of_b_in_a : reads happens (carrier 1 0b1) 0 0 ≡ 0x46
  pub no_d1_in_b : reads happens (carrier 1 0b1) 1 0 ≡ 0x4C
  pub d1_in_service : reads happens (carrier 0 0b1 ++ (Acknowledge ∷ [])) 0 0 ≡ 0x4E

pub told : Told happens
unfolding telling
told = record {
  b_transmit = refl;
  b_external = refl;
  b_receive = refl;
  a_transmit = refl;
  a_external = refl;
  a_receive = refl;
  none_pending = refl;
  status_off = refl;
  not_by_a = refl;
  not_through_a = refl;
  no_rr2_in_a = refl;
  receive_first = refl;
  transmit_next = refl;
  a_before_b = refl;
  served_shows = refl;
  frame_end = refl;
  parity_in_mode_2 = refl;
  no_parity_in_mode_3 = refl;
  d1_of_b_in_a = refl;
  no_d1_in_b = refl;
  d1_in_service = refl;
}
