-- Ticks keep what a history gives. Assumes nothing.
use Rattle.std.specs.Prelude.{Bool, ◌&&◌, ◌≤◌, eqb}
use Rattle.std.proofs.Common.{arith}
use Rattle.common.specs.Tools.{if_elim}
use Rattle.shapes.specs.declared.Length.{Length}
use Rattle.shapes.specs.declared.Length.TheVariants.{Five, Six, Seven, Eight}
use Rattle.shapes.specs.Sent.{size, length_named}
use Rattle.shared.specs.declared.Shared.{Shared}
use Rattle.shared.specs.Shared.{full, waiting_byte}
use Rattle.asynchronous.specs.declared.Format.{Format}
use Rattle.asynchronous.specs.declared.Typing.{Typing}
use Rattle.asynchronous.specs.declared.Character.{Character}
use Rattle.asynchronous.specs.declared.Typed.{Typed}
use Rattle.asynchronous.specs.declared.Assembly.{Assembly}
use Rattle.asynchronous.specs.declared.Assembled.{Assembled}
use Rattle.asynchronous.specs.Sending.{tick_character}
use Rattle.asynchronous.specs.Hearing.{hear_character}
use Rattle.asynchronous.specs.Sound.{SoundCharacter, SoundAssembly}
use Rattle.asynchronous.specs.Laws.Character.{character_most}
use Rattle.line.specs.Laws.Bits.{bit_few}

abbrev SoundTyped : Typed → Type 0
SoundTyped t = SoundCharacter t.character

pub tick_sound : (g : Typing) (c : Character) (k : Shared) → SoundCharacter c
    → SoundCharacter (tick_character g c k).character
unfolding tick_character
tick_sound g c k h =
    if_elim SoundTyped (eqb c.left 0)
    (if_elim SoundTyped (g.on && full k) (character_most g (waiting_byte k)) h)
    (omega arith)

abbrev SoundAssembled : Assembled → Type 0
SoundAssembled t = SoundAssembly t.assembly

size_within : (n : Length) → size n ≤ 8
size_within Five = omega arith
size_within Six = omega arith
size_within Seven = omega arith
size_within Eight = omega arith

pub hear_sound : (g : Format) (a : Assembly) (x b : Bool) → SoundAssembly a
    → SoundAssembly (hear_character g a x b).assembly
unfolding hear_character
hear_sound g a x b h =
    if_elim SoundAssembled a.wait (if_elim SoundAssembled b h h)
    (if_elim SoundAssembled (eqb a.left 0)
    (if_elim SoundAssembled b h (omega (arith, size_within (length_named g.length), bit_few g.parity)))
    (if_elim SoundAssembled (eqb a.left 1) (omega arith) (omega arith)))
