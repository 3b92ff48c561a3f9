-- 01, Registers: the mode that the last accepted WR4 chose; 02, P3: two byte-synchronous ones more.
-- Assumes nothing.
use Rattle.std.specs.Prelude.{◌≡◌, refl, Bool, true, false, ◌||◌, ℕ, eqb, if◌then◌else◌}
use Rattle.std.proofs.Common.{sym, ap, ◌∙◌, eqb-true}
use Rattle.common.specs.Tools.{void}
use Rattle.common.specs.declared.Mode.{Mode}
use Rattle.common.specs.declared.Mode.TheVariants.{NoMode, Asynchronous, Monosync, Bisync}
use Rattle.common.specs.declared.Mode.TheVariants.{Sdlc}

abbrev pub in_sdlc : Mode → Bool
in_sdlc NoMode = false
in_sdlc Asynchronous = false
in_sdlc Monosync = false
in_sdlc Bisync = false
in_sdlc Sdlc = true

-- Monosync or Bisync
abbrev pub in_blocks : Mode → Bool
in_blocks NoMode = false
in_blocks Asynchronous = false
in_blocks Monosync = true
in_blocks Bisync = true
in_blocks Sdlc = false

-- what is so of both is so of a mode that is one of them
pub of_blocks : (P : Mode → Type 0) → P Monosync → P Bisync → (m : Mode) → in_blocks m ≡ true → P m
of_blocks P p q NoMode e = void e
of_blocks P p q Asynchronous e = void e
of_blocks P p q Monosync e = p
of_blocks P p q Bisync e = q
of_blocks P p q Sdlc e = void e

-- 01, Registers: WR4 "D3-2 .. 00 synchronous"
abbrev pub synchronous : Mode → Bool
synchronous m = in_sdlc m || in_blocks m

-- two modes are one if they have one number
abbrev pub mode_number : Mode → ℕ
mode_number NoMode = 0
mode_number Asynchronous = 1
mode_number Monosync = 2
mode_number Bisync = 3
mode_number Sdlc = 4

abbrev pub same_mode : Mode → Mode → Bool
same_mode m n = eqb (mode_number m) (mode_number n)

-- and only then
abbrev numbered : ℕ → Mode
numbered k =
    if eqb k 0 then NoMode
    else (if eqb k 1 then Asynchronous
    else (if eqb k 2 then Monosync
    else (if eqb k 3 then Bisync
    else Sdlc)))

numbered_back : (m : Mode) → numbered (mode_number m) ≡ m
numbered_back NoMode = refl
numbered_back Asynchronous = refl
numbered_back Monosync = refl
numbered_back Bisync = refl
numbered_back Sdlc = refl

pub mode_same : (m n : Mode) → same_mode m n ≡ true → m ≡ n
mode_same m n e =
    sym (numbered_back m) ∙ ap numbered (eqb-true (mode_number m) (mode_number n) e) ∙ numbered_back n
