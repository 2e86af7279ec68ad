use Rattle.std.proofs.Common.{◌≡◌, ◌≤◌, length}
use Rattle.transport.specs.Nets.{queue, after_takes}
use Rattle.transport.proofs.draining.drain.Given as goal

-- so many frames were taken, and as many were there
abbrev pub invariant-loop-count : goal.invariant-loop-count
invariant-loop-count g l =
    (g.T.Transport.meaning l.t ≡ after_takes (g.T.Transport.meaning l.initial.t) l.sender l.receiver l.count) ×
    (l.count ≤ length (queue (g.T.Transport.meaning l.initial.t) l.sender l.receiver))
