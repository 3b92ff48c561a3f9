-- 02, P3: "Bisync uses WR6 then WR7 for both", sending and receiving. Assumes nothing.
use Rattle.std.specs.Prelude.{◌≡◌, refl, List, [], ◌∷◌, ◌++◌, ℕ}
use Rattle.chip.specs.Event.{Event}
use Rattle.tales.specs.Tale.{Happens, telling, digits, line, bytes, reads}
use Rattle.tales.specs.Words.{command, set, hears, reset_status}
use Rattle.laundry.specs.Happens.{happens}

-- A in Bisync, its two sync characters 16 and 35
abbrev bisync : List Event
bisync = set 0 4 0b10000 ++ (set 0 6 0x16 ++ set 0 7 0x35)

-- its sender on
abbrev sends : List Event
sends = bisync ++ set 0 5 0b1000

-- its receiver on, or on and stripping; status shown afresh
abbrev listening : ℕ → List Event
listening wr3 = bisync ++ (set 0 3 wr3 ++ (command 0 reset_status ++ command 0 reset_status))

abbrev on : ℕ
on = 0b1

abbrev stripping : ℕ
stripping = 0b11

abbrev pair : List Event
pair = hears 0 8 0b01101000 ++ hears 0 8 0b10101100

pub record Told (happens : Happens) : Type 0 where
  -- "WR6 then WR7", and again: a sync is the two of them
  pub sent :
      line happens sends 0 24
      ≡ digits 8 0b01101000 ++ (digits 8 0b10101100 ++ digits 8 0b01101000)
  -- hunt ends with both, in this order, and not with the first
  pub found : reads happens (listening on ++ pair) 0 0 ≡ 0x44
  pub half : reads happens (listening on ++ hears 0 8 0b01101000) 0 0 ≡ 0x54
  pub turned :
      reads happens (listening on ++ (hears 0 8 0b10101100 ++ hears 0 8 0b01101000)) 0 0 ≡ 0x54
  -- leading ones are compared in turn: 16, then 35; a 35 where a 16 is due is no sync
  pub in_turn :
      bytes happens (listening stripping ++ (pair ++ (pair ++ hears 0 8 0b10101100))) 0 1
      ≡ 0x35 ∷ []

pub told : Told happens
unfolding telling
told = record { sent = refl; found = refl; half = refl; turned = refl; in_turn = refl }
