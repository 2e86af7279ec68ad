use Rattle.std.proofs.Common.{get_or}
use Rattle.backlog.specs.Blanks.{no_held}
use Rattle.backlog.specs.Holdings.{is_between, number_at, assign_to}
use Rattle.backlog.specs.Sweeps.{Swept}
use Rattle.backlog.proofs.holding.reassign_slots.Given as goal

abbrev pub invariant-loop-place : goal.invariant-loop-place
invariant-loop-place l =
    Swept no_held (λ i. get_or l.initial.slots i no_held) (λ i. is_between l.last l.sent (number_at l.passed i))
    (assign_to l.assigned) l.slots l.place
