use Rattle.std.proofs.Common.{◌∙◌}
use Rattle.printer.specs.Transmitting.{repaid}
use Rattle.printer.proofs.transmitting.repay.Goals as goal

pub returns-clause-table : goal.returns-clause-table
returns-clause-table g c =
    let p = c.in_ok-post.ensures in
    c.settle_debt.ensures.table ∙ (λ i. repaid (p.me i).value (p.table i))

pub returns-clause-net : goal.returns-clause-net
returns-clause-net g c = rw (c.in_ok-post.ensures.net, c.reassignment.ensures)
