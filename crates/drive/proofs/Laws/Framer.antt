-- A station's ticks and data writes are those of the SDLC sender alone: what else they change in
-- channel A is said by what they leave of it. Assumes nothing.
use Rattle.std.specs.Prelude.{◌≡◌, true, false, not, ◌&&◌, ◌||◌, if◌then◌else◌}
use Rattle.std.proofs.Math.Path.{refl, ap, ap₂}
use Rattle.std.proofs.Common.{sym, ◌∙◌}
use Rattle.std.proofs.Math.Bool.{Bool}
use mathlib.Core.List.{List, [], ◌∷◌}
use Prim.Native.Nat.{ℕ, zero, suc}
use Rattle.common.specs.Tools.{if_elim, by_test, void}
use Rattle.common.specs.Mode.{in_blocks}
use Rattle.common.specs.declared.Mode.{Mode}
use Rattle.shared.specs.declared.Shared.{Shared}
use Rattle.shared.specs.Shared.{full}
use Rattle.sdlc.specs.declared.LineUnit.{LineUnit}
use Rattle.sdlc.specs.declared.LineUnit.TheVariants.{Mark, Flag, Byte, Check, Abort}
use Rattle.sdlc.specs.declared.Framer.{Framer}
use Rattle.sdlc.specs.declared.Framed.{Framed}
use Rattle.bytesync.specs.Sending.{sends_check}
use Rattle.sdlc.specs.Sending.{following, no_bit_left, goes_on, going, tick_sdlc, checking}
use Rattle.whole.specs.Come.{good, filled_with}
use Rattle.whole.specs.Laws.Latch.{tick_set}
use Rattle.sender.specs.declared.Ticked.{Ticked}
use Rattle.sender.specs.Sender.{framer_of, framer_in}
use Rattle.sender.specs.Good.{Good}
use Rattle.settings.specs.Settings.{transmit_on}
use Rattle.status.specs.declared.Live.{Live}
use Rattle.status.specs.declared.Status.{Status}
use Rattle.status.specs.Status.{noticed}
use Rattle.channel.specs.Channel.{with_sender, with_status, with_transmit, live_of, settled}
use Rattle.channel.specs.Events.{transmit_tick}
use Rattle.channel.specs.Laws.Still.{noticed_same}
use Rattle.chip.specs.declared.Chip.{Chip}
use Rattle.chip.specs.Interrupts.{with_a}
use Rattle.chip.specs.Chip.{data_write_call, transmit_call}
use Rattle.feed.specs.Feeding.{takes_byte, Supplied, supply, after_ticks, ticks_line}
use Rattle.drive.specs.Drive.{look_a, empty_a, write_a, tick_a, bit_a, Offered, offered, offer}
use Rattle.drive.specs.Drive.{driven, driven_line}
use Rattle.drive.specs.Framer.{with_underrun, channel_with, chip_with}
use Rattle.drive.proofs.Laws.Calls.{sending_a, tick_good, Stands, bit_stands}
use Rattle.drive.proofs.Laws.Look.{d2, look_same}

-- What a tick of the sender says of its buffer

-- a byte that is loaded was in the buffer, and is no longer there
abbrev Loads : Bool → Framed → Type 0
Loads was t =
    (full t.framer.shared ≡ (was && not t.loaded)) × ((t.loaded && not was) ≡ false)

none_loaded : (was : Bool) → (was ≡ (was && true)) × (false ≡ false)
none_loaded true = (refl, refl)
none_loaded false = (refl, refl)

some_loaded : (was : Bool) → was ≡ true → (false ≡ (was && false)) × (not was ≡ false)
some_loaded true e = (refl, refl)
some_loaded false e = void e

module _ (r : ℕ) (k : Shared) where
  following_loads : (u : LineUnit) → Loads (full k) (following good u r k)
  unfolding following
  following_loads Mark = none_loaded (full k)
  following_loads (Flag n) =
      by_test (Loads (full k)) (full k) (some_loaded (full k)) (λ e. none_loaded (full k))
  following_loads (Byte n v) =
      by_test (Loads (full k)) (full k) (some_loaded (full k))
      (λ e. if_elim (Loads (full k)) (not k.latch && true) (none_loaded (full k))
      (none_loaded (full k)))
  following_loads (Check n v) = none_loaded (full k)
  following_loads (Abort n) = none_loaded (full k)

  goes_on_loads : (u : LineUnit) → Loads (full k) (goes_on u r k)
  goes_on_loads Mark = none_loaded (full k)
  goes_on_loads (Flag n) = none_loaded (full k)
  goes_on_loads (Byte n v) = none_loaded (full k)
  goes_on_loads (Check n v) = none_loaded (full k)
  goes_on_loads (Abort n) = none_loaded (full k)

tick_loads : (s : Framer) → Loads (full s.shared) (tick_sdlc good s)
unfolding tick_sdlc going
tick_loads s =
    let k = s.shared in
    let r = s.insertion.run in
    if_elim (Loads (full k)) s.insertion.owed (none_loaded (full k))
    (if_elim (Loads (full k)) (no_bit_left s.unit) (following_loads r k s.unit)
    (goes_on_loads r k s.unit))

-- The other parts of the channel

-- transmit is pending behind a load
pending_on : (was is loaded on : Bool) → is ≡ (was && not loaded) → (loaded && not was) ≡ false
    → ((not was && on) || (loaded && on)) ≡ (not is && on)
pending_on was is loaded on e f = cases was loaded on f ∙ ap (λ (b : Bool). not b && on) (sym e)
  where
    cases : (was loaded on : Bool) → (loaded && not was) ≡ false
        → ((not was && on) || (loaded && on)) ≡ (not (was && not loaded) && on)
    cases true true on f = refl
    cases true false on f = refl
    cases false true on f = void (sym f)
    cases false false true f = refl
    cases false false false f = refl

-- the status rule sees the latch rise, once
module _ (t : Status) (l : Live) (clear : l.underrun ≡ false) where
  own : l ≡ with_underrun l false
  own = λ i. with_underrun l (clear i)

  status_on : (was is : Bool) → (was ≡ true → is ≡ true)
      → noticed (noticed t l (with_underrun l was)) (with_underrun l was) (with_underrun l is)
      ≡ noticed t l (with_underrun l is)
  status_on true true up = noticed_same (noticed t l (with_underrun l true)) (with_underrun l true)
  status_on true false up = void (up refl)
  status_on false false up =
      noticed_same (noticed t l (with_underrun l false)) (with_underrun l false)
  status_on false true up =
      let none = ap (noticed t l) (sym own) ∙ noticed_same t l in
      ap (λ (x : Status). noticed x (with_underrun l false) (with_underrun l true)) none
      ∙ ap (λ (x : Live). noticed t x (with_underrun l true)) (sym own)

-- A call, and all of them

module _ (c : Chip) (p : c.a.pointer ≡ 0) (g : Good (sending_a c))
    (clear : c.a.sender.shared.latch ≡ false) where
  with_stands : (s : Framer) → Stands (chip_with c s) s
  with_stands s = record { pointer = p; good = g; sends = refl }

  tick_with : (s : Framer) → tick_a (chip_with c s) ≡ chip_with c (tick_sdlc good s).framer
  unfolding tick_a transmit_call transmit_tick settled live_of
  tick_with s =
      let a = c.a in
      let t = tick_sdlc good s in
      let on = transmit_on a.registers.wr1 in
      let live = live_of a in
      let latch = s.shared.latch in
      let after : Ticked → Chip = λ x.
      with_a c (with_status (with_transmit (with_sender (channel_with a s) x.sender)
      ((not (full s.shared) && on) || (x.loaded && on)))
      (noticed (noticed a.status live (with_underrun live latch)) (with_underrun live latch)
      (with_underrun live x.sender.shared.latch))) in
      let put : Bool → Status → Chip = λ b x.
      let sent = with_sender a (framer_in a.sender t.framer) in
      with_a c (with_transmit (with_status sent x) b) in
      let loads = tick_loads s in
      ap after (tick_good (sending_a c) (framer_in a.sender s) g)
      ∙ ap₂ put
      (pending_on (full s.shared) (full t.framer.shared) t.loaded on loads.0 loads.1)
      (status_on a.status live clear latch t.framer.shared.latch (tick_set good s))

  write_with : (s : Framer) (v : ℕ) → write_a (chip_with c s) v ≡ chip_with c (filled_with s v)
  unfolding write_a data_write_call
  write_with s v = refl

  bit_with : (s : Framer) → bit_a (chip_with c s) ≡ (tick_sdlc good s).bit
  bit_with s = bit_stands (with_stands s)

  -- in SDLC a check of Monosync or Bisync is none
  ready_with : (s : Framer) → empty_a (chip_with c s) ≡ takes_byte s
  ready_with s =
      let blocks = sends_check c.a.sender.block in
      d2 (chip_with c s) p
      ∙ ap (λ (m : Mode). not (full s.shared)
      && not (if in_blocks m then blocks else checking s.unit))
      (with_stands s).good.sdlc_mode_lem

  offer_with : (s : Framer) (rest : List ℕ)
      → let y = supply s rest in
      offer (chip_with c s) rest ≡ offered (chip_with c y.framer) y.rest
  unfolding offer supply
  offer_with s [] = refl
  offer_with s (v ∷ rest) =
      let x = chip_with c s in
      let look = look_same x p in
      let yes = ap (λ (y : Chip). offered (write_a y v) rest) look
      ∙ ap (λ (y : Chip). offered y rest) (write_with s v) in
      let no = ap (λ (y : Chip). offered y (v ∷ rest)) look in
      let written = offered (write_a (look_a x) v) rest in
      let waiting = offered (look_a x) (v ∷ rest) in
      ap (λ (b : Bool). if b then written else waiting) (ready_with s)
      ∙ both (takes_byte s) yes no
    where
      there : Supplied → Offered
      there y = offered (chip_with c y.framer) y.rest

      both : (b : Bool) {u w : Offered} {y z : Supplied} → u ≡ there y → w ≡ there z
          → (if b then u else w) ≡ there (if b then y else z)
      both true e f = e
      both false e f = f

  pub driven_with : (n : ℕ) (s : Framer) (rest : List ℕ)
      → driven n (chip_with c s) rest ≡ chip_with c (after_ticks n s rest)
  unfolding driven after_ticks
  driven_with zero s rest = refl
  driven_with (suc n) s rest =
      let y = supply s rest in
      ap (λ (x : Offered). driven n (tick_a x.chip) x.rest) (offer_with s rest)
      ∙ ap (λ (x : Chip). driven n x y.rest) (tick_with y.framer)
      ∙ driven_with n (tick_sdlc good y.framer).framer y.rest

  pub line_with : (n : ℕ) (s : Framer) (rest : List ℕ)
      → driven_line n (chip_with c s) rest ≡ ticks_line n s rest
  unfolding driven_line ticks_line
  line_with zero s rest = refl
  line_with (suc n) s rest =
      let y = supply s rest in
      let f = y.framer in
      let t = tick_sdlc good f in
      ap (λ (x : Offered). bit_a x.chip ∷ driven_line n (tick_a x.chip) x.rest)
      (offer_with s rest)
      ∙ ap (λ (x : Chip). bit_a (chip_with c f) ∷ driven_line n x y.rest) (tick_with f)
      ∙ ap₂ (λ (b : Bool) (l : List Bool). b ∷ l) (bit_with f) (line_with n t.framer y.rest)

-- a channel whose byte waits is itself such a channel
pub own_framer : (c : Chip) → c.a.transmit ≡ false → full c.a.sender.shared ≡ true
    → chip_with c (framer_of c.a.sender) ≡ c
unfolding live_of
own_framer c t f =
    let a = c.a in
    let on = transmit_on a.registers.wr1 in
    let pending = not (full a.sender.shared) && on in
    ap (λ (x : Status). with_a c (with_transmit (with_status a x) pending))
    (noticed_same a.status (live_of a))
    ∙ ap (λ (b : Bool). with_a c (with_transmit a (not b && on))) f
    ∙ ap (λ (b : Bool). with_a c (with_transmit a b)) (sym t)
