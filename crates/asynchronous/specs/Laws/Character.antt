-- Laws of a character's bits: how many they are at most, and which stop bits a number names.
-- Assumes nothing.
use Rattle.std.specs.Prelude.{◌≡◌, Bool, true, List, [], ◌∷◌, ◌++◌, ℕ, ◌≤◌, eqb, length, if◌then◌else◌}
use Rattle.std.proofs.Common.{arith, length-append}
use Rattle.common.specs.Tools.{bool_or, if_elim}
use Rattle.line.specs.Laws.Bits.{low_bits_length}
use Rattle.shapes.specs.Sent.{length_named, bits_sent, sent_bits}
use Rattle.shapes.proofs.Sent.{bits_most}
use Rattle.asynchronous.specs.declared.Format.{Format}
use Rattle.asynchronous.specs.declared.Stops.{Stops}
use Rattle.asynchronous.specs.declared.Stops.TheVariants.{One, Two}
use Rattle.asynchronous.specs.declared.Typing.{Typing}
use Rattle.asynchronous.specs.Sending.{parity_bits, stop_bits, stops_named, character_bits}

-- a character has at most one parity and two stop bits
parity_most : (f : Format) (bs : List Bool) → length (parity_bits f bs) ≤ 1
parity_most f bs = if_elim (λ (x : List Bool). length x ≤ 1) f.parity (omega arith) (omega arith)

pub stops_most : (s : Stops) → length (stop_bits s) ≤ 2
unfolding stop_bits
stops_most One = omega arith
stops_most Two = omega arith

-- by any number: two are two, and every other number is one
pub stop_bits_named : (n : ℕ)
    → stop_bits (stops_named n) ≡ (if eqb n 2 then true ∷ true ∷ [] else true ∷ [])
unfolding stop_bits stops_named
stop_bits_named n = bool_or (eqb n 2) (λ p. rw p) (λ p. rw p)

pub stops_most_named : (n : ℕ) → length (stop_bits (stops_named n)) ≤ 2
stops_most_named n = stops_most (stops_named n)

pub character_most : (g : Typing) (v : ℕ) → length (character_bits g v) ≤ 11
character_most g v =
    let n = length_named g.format.length in
    let d = sent_bits n v in
    let p = parity_bits g.format d in
    let s = stop_bits (stops_named g.stops) in
    omega (
      arith,
      length-append d (p ++ s),
      length-append p s,
      low_bits_length (bits_sent n v) v,
      bits_most n v,
      parity_most g.format d,
      stops_most (stops_named g.stops),
    )
