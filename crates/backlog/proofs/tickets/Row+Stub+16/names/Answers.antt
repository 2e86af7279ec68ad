use Rattle.std.proofs.Common.{◌+◌, ◌%◌, refl, rules}
use borrow.Author.Tests.{tests}
use Rattle.backlog.specs.Holdings.{ticket_row}
use Rattle.backlog.specs.Tickets.{is_for}
use Rattle.backlog.proofs.AnyOf.{any_back_below}
use Rattle.backlog.proofs.tickets.Row+Stub+16.names.Goals as goal

pub returns : goal.returns
returns c =
    let row = ticket_row c.args.self.now in
    any_back_below row.count (λ i. is_for (row.slot ((row.passed + i) % 16)) c.args.sender c.args.message.0) _ _ refl refl
    (λ x b q k. search (rules, tests)) _ _ c.rev.ensures.runs c.any.ensures.runs
