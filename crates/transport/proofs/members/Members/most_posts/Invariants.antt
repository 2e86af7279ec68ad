use Rattle.std.proofs.Common.{◌≡◌, ◌-◌, cond}
use Rattle.transport.specs.Members.{hears_in}
use Rattle.transport.specs.Nets.{least_below}
use Rattle.transport.proofs.members.Members.most_posts.Given as goal

-- the least room of the receivers so far
abbrev pub invariant-loop-receiver : goal.invariant-loop-receiver
invariant-loop-receiver g l =
    l.least ≡ least_below l.receiver (λ j. cond (hears_in l.self l.sender j) (l.limit - g.Q.Queues.queued l.queues l.sender j) l.limit) l.limit
