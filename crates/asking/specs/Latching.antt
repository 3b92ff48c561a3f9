-- 01, Interrupts and external status: "RR0 D7 to D3 are latched together at any change, except D6
-- falling, which shows at once if nothing is latched. Reset External/Status shows them afresh, and
-- latches again if one changed by that rule." With WR1 D0 set RR0 D1 tells whether they are
-- latched. Assumes nothing.
use Rattle.std.specs.Prelude.{◌≡◌, refl, List, [], ◌∷◌, ◌++◌, ℕ}
use Rattle.chip.specs.Event.{Event, Receive, SetLines}
use Rattle.tales.specs.Tale.{Happens, telling, reads}
use Rattle.tales.specs.Words.{command, set, send_abort, reset_status, clear_underrun, one_stop}
use Rattle.tales.specs.Words.{sdlc_mode}
use Rattle.tales.specs.Words.{hearing, framing, blank, flag, ones}
use Rattle.asking.specs.Happens.{happens}

-- "Reset External/Status"
abbrev afresh : List Event
afresh = command 0 reset_status

-- external interrupts on, and A's lines as given
abbrev lines : ℕ → ℕ → List Event
lines dcd cts = SetLines 0 dcd cts ∷ []

abbrev asking : List Event
asking = set 0 1 0b1

-- a break has come, and status is shown afresh
abbrev broken : List Event
broken = hearing 0 one_stop ++ asking ++ blank 0 ++ afresh

-- between flags, nothing latched
abbrev opened : List Event
opened = hearing 0 sdlc_mode ++ flag 0 ++ afresh ++ afresh ++ asking

pub record Told (happens : Happens) : Type 0 where
  -- any change latches
  pub dcd_rises : reads happens (asking ++ lines 1 0) 0 0 ≡ 0x4E
  pub cts_rises : reads happens (asking ++ lines 0 1) 0 0 ≡ 0x66
  pub dcd_falls : reads happens (asking ++ lines 1 0 ++ afresh ++ lines 0 0) 0 0 ≡ 0x46
  pub break_ends : reads happens (broken ++ (Receive 0 1 ∷ [])) 0 0 ≡ 0x47
  pub hunt_ends : reads happens (hearing 0 sdlc_mode ++ afresh ++ asking ++ flag 0) 0 0 ≡ 0x46
  pub d6_rises :
      reads happens (framing 0 ++ afresh ++ asking ++ command 0 send_abort) 0 0 ≡ 0x56
  -- "except D6 falling, which shows at once if nothing is latched"
  pub d6_falls : reads happens (asking ++ command 0 clear_underrun) 0 0 ≡ 0x04
  pub d6_held : reads happens (lines 1 0 ++ command 0 clear_underrun) 0 0 ≡ 0x4C
  -- "latched together": all five stay as they were shown
  pub held_together : reads happens (lines 1 0 ++ lines 0 1) 0 0 ≡ 0x4C
  -- "shows them afresh"
  pub shown_afresh : reads happens (lines 1 0 ++ lines 0 1 ++ afresh) 0 0 ≡ 0x64
  pub unlatched : reads happens (asking ++ lines 1 0 ++ afresh) 0 0 ≡ 0x4C
  -- "and latches again if one changed by that rule"
  pub latched_again : reads happens (asking ++ lines 1 0 ++ lines 0 1 ++ afresh) 0 0 ≡ 0x66
  pub not_by_d6 :
      reads happens (asking ++ lines 1 0 ++ command 0 clear_underrun ++ afresh) 0 0 ≡ 0x0C
  pub nothing_latched : reads happens (lines 1 0 ++ afresh ++ afresh ++ asking) 0 0 ≡ 0x4C
  -- an abort's D7 stays "until the next 0"
  pub abort_stays : reads happens (opened ++ ones 0 7 ++ afresh) 0 0 ≡ 0xC4

pub told : Told happens
unfolding telling
told = record {
  dcd_rises = refl;
  cts_rises = refl;
  dcd_falls = refl;
  break_ends = refl;
  hunt_ends = refl;
  d6_rises = refl;
  d6_falls = refl;
  d6_held = refl;
  held_together = refl;
  shown_afresh = refl;
  unlatched = refl;
  latched_again = refl;
  not_by_d6 = refl;
  nothing_latched = refl;
  abort_stays = refl;
}
