use Rattle.std.proofs.Common.{◌+◌, ◌%◌, arith}
use Rattle.std.proofs.lemmas.Bool.{leb-true}
use Rattle.backlog.specs.Blanks.{no_stub}
use Rattle.backlog.specs.Holdings.{stored}
use Rattle.backlog.proofs.Changes.{tickets_changed}
use Rattle.backlog.proofs.backlog.Backlog.hold_ticket.Goals as goal

pub returns : goal.returns
returns c =
    tickets_changed c.args.self.now _ c.args.issuer.value _ c.store.new.self (λ r. stored r ((r.passed + r.count) % 16) c.args.stub)
    c.index.ensures (omega (arith, leb-true)) (c.store.ensures no_stub)
