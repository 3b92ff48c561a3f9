-- Laws of a length that a number names: what holds of five, six and seven data bits by these
-- numbers, and of eight by every other. Assumes nothing.
use Rattle.std.specs.Prelude.{◌≡◌, ℕ, eqb, if◌then◌else◌}
use Rattle.common.specs.Tools.{bool_or}
use Rattle.shapes.specs.declared.Length.{Length}
use Rattle.shapes.specs.declared.Length.TheVariants.{Five, Six, Seven, Eight}
use Rattle.shapes.specs.Shapes.{shape_bits}
use Rattle.shapes.specs.Sent.{length_named, size, bits_sent}

by_number : (f : Length → ℕ) (n : ℕ)
    → f (length_named n)
    ≡ (if eqb n 5 then f Five else (if eqb n 6 then f Six else (if eqb n 7 then f Seven else f Eight)))
unfolding length_named
by_number f n =
    bool_or (eqb n 5) (λ p. rw p)
    (λ p. bool_or (eqb n 6) (λ q. rw (p, q))
    (λ q. bool_or (eqb n 7) (λ r. rw (p, q, r)) (λ r. rw (p, q, r))))

pub size_named : (n : ℕ)
    → size (length_named n)
    ≡ (if eqb n 5 then 5 else (if eqb n 6 then 6 else (if eqb n 7 then 7 else 8)))
size_named n = by_number size n

-- by the number five as many as the byte's shape says
pub sent_named : (n v : ℕ)
    → bits_sent (length_named n) v
    ≡ (if eqb n 5 then shape_bits v else (if eqb n 6 then 6 else (if eqb n 7 then 7 else 8)))
unfolding bits_sent
sent_named n v = by_number (λ l. bits_sent l v) n
