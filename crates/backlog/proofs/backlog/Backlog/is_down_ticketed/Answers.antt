use Rattle.std.proofs.Common.{◌+◌, rules}
use borrow.Author.Tests.{tests}
use Rattle.roles.proofs.Ranges.{any_in_range}
use Rattle.backlog.specs.Holdings.{holding_of}
use Rattle.backlog.specs.Wanted.{is_ticketed_down}
use Rattle.backlog.proofs.backlog.Backlog.is_down_ticketed.Goals as goal

pub returns : goal.returns
returns c =
    let held = holding_of c.args.self.now in
    let row = held.messages c.args.sender.value in
    any_in_range (row.passed + 1) row.count (is_ticketed_down c.args.count.value held c.args.sender.value) _ _ _ _ c.any.ensures.ran c.numbers.ensures.first c.numbers.ensures.end
    (λ x b q k. search (rules, tests))
