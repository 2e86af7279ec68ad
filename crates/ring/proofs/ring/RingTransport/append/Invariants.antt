use Rattle.std.proofs.Common.{◌≡◌}
use Rattle.transport.specs.Stored.{stored}
use Rattle.ring.specs.Meaning.{ring_meaning}
use Rattle.ring.proofs.Posts.{part_posted}
use Rattle.ring.proofs.ring.RingTransport.append.Given as goal

abbrev pub invariant-loop-receiver : goal.invariant-loop-receiver
invariant-loop-receiver g l =
    ring_meaning g.B.Body.remade l.self ≡
    part_posted (ring_meaning g.B.Body.remade l.initial.self) (stored g.B.Body.remade l.row) l.receiver
