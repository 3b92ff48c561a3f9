-- Refusal 4 in the paper's own words: an acknowledge is refused exactly when no pending source
-- lies above all those in service. Assumes nothing.
use Rattle.std.specs.Prelude.{◌≡◌, [], ◌∷◌}
use Rattle.std.proofs.Common.{sym, ◌∙◌, arith}
use Rattle.common.specs.Tools.{bool_or}
use Rattle.interrupts.specs.Interrupts.{may_take}
use Rattle.interrupts.specs.Priority.{SourceAbove}
use Rattle.interrupts.specs.Laws.Priority.{taken_above, above_taken}
use Rattle.channel.specs.Answer.{answer_number}
use Rattle.chip.specs.declared.Chip.{Chip}
use Rattle.chip.specs.Interrupts.{pending_of}
use Rattle.chip.specs.Event.{Acknowledge, step}
use Rattle.promises.specs.Refusals.{nothing_above, first_row}
use Rattle.promises.specs.Laws.Refusals.{refused_by_the_table}

-- 4: "acknowledge with no pending source above all those in service"

pub refused_none_above : (c : Chip) → answer_number (step c Acknowledge).answer ≡ 4
    → SourceAbove (pending_of c) c.service → ⊥
refused_none_above c e s =
    let z : first_row (nothing_above c ∷ []) ≡ 0 = rw (above_taken (pending_of c) c.service s) in
    let w = sym (refused_by_the_table c Acknowledge) ∙ e in
    omega arith

pub none_above_refused : (c : Chip) → (SourceAbove (pending_of c) c.service → ⊥)
    → answer_number (step c Acknowledge).answer ≡ 4
none_above_refused c n =
    refused_by_the_table c Acknowledge
    ∙ bool_or (may_take (pending_of c) c.service)
    (λ e. absurd (n (taken_above (pending_of c) c.service e))) (λ e. rw e)
