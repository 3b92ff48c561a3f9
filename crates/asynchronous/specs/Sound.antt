-- What only asynchronous parts with a history have: of a character to send at most eight data bits,
-- parity and two stops are left, of one that is heard eight, parity and one. Assumes nothing.
use Rattle.std.specs.Prelude.{◌≤◌}
use Rattle.asynchronous.specs.declared.Character.{Character}
use Rattle.asynchronous.specs.declared.Assembly.{Assembly}

abbrev pub SoundCharacter : Character → Type 0
SoundCharacter c = c.left ≤ 11

abbrev pub SoundAssembly : Assembly → Type 0
SoundAssembly a = a.left ≤ 10
