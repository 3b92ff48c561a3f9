-- 02, P3, receiving: "Monosync .. matches WR7"; "WR3 D1 keeps leading sync characters out of the
-- queue, and Enter Hunt starts the search again, RR0 D4 showing it. A character enters the receive
-- check when the next one has been assembled, if WR3 D3 is set at that moment; RR1 D6 is then 1
-- exactly while that check is not zero." Assumes nothing.
use Rattle.std.specs.Prelude.{◌≡◌, refl, List, [], ◌∷◌, ◌++◌, ℕ}
use Rattle.chip.specs.Event.{Event}
use Rattle.tales.specs.Tale.{Happens, telling, bytes, reads}
use Rattle.tales.specs.Words.{command, set, hears, takes, preset_received, reset_status}
use Rattle.laundry.specs.Happens.{happens}

-- A in Monosync, sync 16, CRC-16, WR3 as given, the check preset, status shown afresh
abbrev listening : ℕ → List Event
listening wr3 =
    set 0 4 0 ++ (set 0 7 0x16 ++ (set 0 5 0b100 ++ (set 0 3 wr3
    ++ (command 0 preset_received ++ (command 0 reset_status ++ command 0 reset_status)))))

-- WR3: on; on and checking; on and stripping
abbrev on : ℕ
on = 0b1

abbrev checking : ℕ
checking = 0b1001

abbrev stripping : ℕ
stripping = 0b11

abbrev enters_hunt : ℕ
enters_hunt = 0b10001

abbrev sync : List Event
sync = hears 0 8 0b01101000

-- 41, its check C0 30, and a pad, read as they come
abbrev whole : List Event
whole =
    sync ++ (hears 0 16 0b1000001000000011 ++ (takes 0 2
    ++ (hears 0 16 0b0000110011111111 ++ takes 0 2)))

pub record Told (happens : Happens) : Type 0 where
  -- "D6 is then 1 exactly while that check is not zero": 0 when the pad is complete, with nothing
  -- waiting
  pub good : reads happens (listening checking ++ whole) 0 1 ≡ 0x01
  -- and 1 when the pad has entered in its turn, with nothing waiting
  pub spoilt :
      reads happens (listening checking ++ (whole ++ (hears 0 8 0b11111111 ++ takes 0 1))) 0 1
      ≡ 0x41
  -- "when the next one has been assembled"
  pub waits : reads happens (listening checking ++ (sync ++ hears 0 8 0b10000000)) 0 1 ≡ 0x01
  -- "preset to zeros here", and the matched sync does not enter
  pub preset : reads happens (listening checking ++ (sync ++ hears 0 16 0)) 0 1 ≡ 0x01
  -- "keeps leading sync characters out of the queue", and no later one
  pub leading :
      bytes happens (listening stripping ++ (sync ++ (sync ++ (hears 0 8 0b11111111 ++ sync)))) 0 2
      ≡ 0xFF ∷ 0x16 ∷ []
  -- a sync is what WR7 says when the character is complete, not what it said at the match
  pub written_anew :
      reads happens (listening stripping ++ (sync ++ (set 0 7 0x35 ++ hears 0 8 0b10101100))) 0 0
      ≡ 0x44
  -- "Enter Hunt starts the search again, RR0 D4 showing it": half of a sync from before does not
  -- count
  pub searching :
      reads happens
      (listening on ++ (hears 0 4 0b0110 ++ (set 0 3 enters_hunt ++ hears 0 4 0b1000))) 0 0
      ≡ 0x54
  pub found :
      reads happens
      (listening on ++ (set 0 3 enters_hunt ++ (hears 0 4 0b0110 ++ hears 0 4 0b1000))) 0 0
      ≡ 0x44
  -- from one of the two modes to the other the half character is dropped, and the search begins
  pub changed :
      reads happens (listening on ++ (sync ++ (hears 0 4 0b1111
      ++ (command 0 reset_status ++ (set 0 4 0b10000 ++ command 0 reset_status))))) 0 0
      ≡ 0x54

pub told : Told happens
unfolding telling
told = record {
  good = refl;
  spoilt = refl;
  waits = refl;
  preset = refl;
  leading = refl;
  written_anew = refl;
  searching = refl;
  found = refl;
  changed = refl;
}
