-- What only an SDLC sender and receiver with a history have: a unit's bits still to be sent are
-- fewer than the unit has, ones are counted and a zero is owed in byte and check alone, and the
-- count stays below five; at most seven ones are counted on the line, the delay has its leading one
-- and fits a byte, and a character behind it has at most seven bits. Assumes nothing.
use Rattle.std.specs.Prelude.{◌≡◌, false, ◌≤◌, ◌<◌}
use Rattle.line.specs.declared.Insertion.{Insertion}
use Rattle.sdlc.specs.declared.LineUnit.{LineUnit}
use Rattle.sdlc.specs.declared.LineUnit.TheVariants.{Mark, Flag, Byte, Check, Abort}
use Rattle.sdlc.specs.declared.Content.{Content}

abbrev Still : Insertion → Type 0
Still i = (i.run ≡ 0) × (i.owed ≡ false)

abbrev pub SoundUnit : LineUnit → Insertion → Type 0
SoundUnit Mark i = Still i
SoundUnit (Flag n) i = Still i × (n ≤ 7)
SoundUnit (Byte n v) i = (i.run < 5) × (n ≤ 7)
SoundUnit (Check n v) i = (i.run < 5) × (n ≤ 15)
SoundUnit (Abort n) i = Still i × (n ≤ 8)

pub record SoundContent (c : Content) : Type 0 where
  pub run : c.ones ≤ 7
  pub led : 1 ≤ c.delay
  pub fits : c.delay ≤ 255
  pub part : c.chars.count ≤ 7
