-- The law of the vector by a level's number. Assumes nothing.
use Rattle.std.specs.Prelude.{◌≡◌, ℕ, eqb, if◌then◌else◌}
use Rattle.common.specs.Tools.{bool_or}
use Rattle.interrupts.specs.Interrupts.{source_named}
use Rattle.vector.specs.declared.Special.{Special}
use Rattle.vector.specs.Vector.{code_of}

-- bits 3-1 for a level, 0 to 5 in the order of priority; every level above is none
pub code_named : (level : ℕ) (special : Special)
    → code_of (source_named level) special
    ≡ (if eqb level 0 then (if special.a then 7 else 6)
    else (if eqb level 1 then 4
    else (if eqb level 2 then 5
    else (if eqb level 3 then (if special.b then 3 else 2)
    else (if eqb level 4 then 0
    else (if eqb level 5 then 1
    else 3))))))
unfolding code_of source_named
code_named level special =
    bool_or (eqb level 0) (λ p. rw p)
    (λ p. bool_or (eqb level 1) (λ q. rw (p, q))
    (λ q. bool_or (eqb level 2) (λ r. rw (p, q, r))
    (λ r. bool_or (eqb level 3) (λ s. rw (p, q, r, s))
    (λ s. bool_or (eqb level 4) (λ t. rw (p, q, r, s, t))
    (λ t. bool_or (eqb level 5) (λ u. rw (p, q, r, s, t, u)) (λ u. rw (p, q, r, s, t, u)))))))
