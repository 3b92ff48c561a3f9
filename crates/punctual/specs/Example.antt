-- A story in time amid all sorts of other events, and the theorem said of it. Assumes nothing.
use Rattle.std.specs.Prelude.{refl, [], ◌∷◌}
use Rattle.line.specs.Bits.{low_bits, text_bits}
use Rattle.line.specs.Check.{check_step, check_over, top_bits, check_bits}
use Rattle.line.specs.Insertion.{stuff, zeros}
use Rattle.stories.specs.Story.{A}
use Rattle.stories.specs.Sent.{ticks}
use Rattle.stories.specs.Sending.{times, begin, noisy}
use Rattle.timely.specs.Tests.{in_time_lem}
use Rattle.sending.proofs.Example as sending
use Rattle.punctual.specs.Statement.{Punctual}
use Rattle.punctual.specs.Punctual.{in_time_loads}

noisy_punctual : Punctual A begin noisy (255 ∷ 136 ∷ [])
unfolding ticks times stuff zeros text_bits low_bits check_over check_step check_bits top_bits
noisy_punctual =
    in_time_loads A begin 3 255 (136 ∷ []) noisy sending.starts
    (in_time_lem A begin 2 (255 ∷ 136 ∷ []) noisy (sending.examples).noisy_timely) refl
