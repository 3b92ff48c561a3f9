-- What a character puts on the line, tick by tick. Assumes nothing.
use Rattle.std.specs.Prelude.{◌≡◌, refl, Bool, true, false, ◌&&◌, List, [], ◌∷◌, eqb}
use Rattle.std.proofs.Common.{ap, ◌∙◌}
use Prim.Native.Nat.{ℕ, zero, suc, ◌-◌}
use native.Mathlib.Omega.{arith}
use Rattle.std.proofs.Math.Dec.{eqb-suc-zero}
use Rattle.std.proofs.Math.ListN.{length}
use Rattle.line.specs.Bits.{from_low}
use Rattle.shared.specs.declared.Shared.{Shared}
use Rattle.shared.specs.Shared.{full, waiting_byte, emptied}
use Rattle.asynchronous.specs.declared.Typing.{Typing}
use Rattle.asynchronous.specs.declared.Character.{Character}
use Rattle.asynchronous.specs.declared.Typed.{Typed}
use Rattle.asynchronous.specs.Sending.{character_bits, holding, typed, start_character}
use Rattle.asynchronous.specs.Sending.{tick_character}
use Rattle.line.specs.Laws.Bits.{odd_joined, half_joined}

module _ (g : Typing) (k : Shared) where
  -- the start bit
  pub tick_loads : (c : Character) → eqb c.left 0 ≡ true → g.on ≡ true → full k ≡ true
      → tick_character g c k ≡ start_character g (waiting_byte k) k
  unfolding tick_character
  tick_loads c e h f = rw (e, h, f)

  pub tick_waits : (c : Character) → eqb c.left 0 ≡ true → g.on && full k ≡ false
      → tick_character g c k ≡ typed true false c k
  unfolding tick_character
  tick_waits c e h = rw (e, h)

  -- the next of the bits held
  pub tick_character_lem : (b : Bool) (bs : List Bool)
      → tick_character g (holding (b ∷ bs)) k ≡ typed b false (holding bs) k
  unfolding tick_character from_low
  tick_character_lem b bs =
      let p : suc (length bs) - 1 ≡ length bs = omega arith in
      rw (eqb-suc-zero (length bs), p, odd_joined (from_low bs) b, half_joined (from_low bs) b)

-- what n ticks send
unfoldable pub sent_in : ℕ → Typing → Character → Shared → List Bool
sent_in zero g c k = []
sent_in (suc n) g c k =
    let t = tick_character g c k in t.bit ∷ sent_in n g t.character t.shared

-- the bits held go out, the first first
holding_line : (g : Typing) (k : Shared) (bs : List Bool) → sent_in (length bs) g (holding bs) k ≡ bs
unfolding sent_in
holding_line g k [] = refl
holding_line g k (b ∷ bs) =
    ap (λ (x : Typed). x.bit ∷ sent_in (length bs) g x.character x.shared)
    (tick_character_lem g k b bs)
    ∙ ap (λ (l : List Bool). b ∷ l) (holding_line g k bs)

-- "start 0, the low bits, parity, stop ones"
pub character_line : (g : Typing) (c : Character) (k : Shared)
    → eqb c.left 0 ≡ true → g.on ≡ true → full k ≡ true
    → let line = false ∷ character_bits g (waiting_byte k) in sent_in (length line) g c k ≡ line
unfolding sent_in
character_line g c k e h f =
    let bs = character_bits g (waiting_byte k) in
    ap (λ (x : Typed). x.bit ∷ sent_in (length bs) g x.character x.shared)
    (tick_loads g k c e h f)
    ∙ ap (λ (l : List Bool). false ∷ l) (holding_line g (emptied k) bs)
