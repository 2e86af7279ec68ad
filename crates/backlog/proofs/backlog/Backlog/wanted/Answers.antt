use Rattle.std.proofs.Common.{◌%◌, refl, rules}
use borrow.Author.Tests.{tests}
use Rattle.frame.specs.declared.MessageNumber.{MessageNumber}
use Rattle.frame.specs.declared.PrinterNumber.{PrinterNumber}
use Rattle.backlog.specs.Holdings.{holding_of}
use Rattle.backlog.specs.Wanted.{wanted_of}
use Rattle.backlog.proofs.Searches.{find_map_in_range}
use Rattle.backlog.proofs.backlog.Backlog.wanted.Goals as goal

pub returns-clause-answer : goal.returns-clause-answer
returns-clause-answer c =
    let n = c.args.count.value in
    find_map_in_range c.args.from n (λ (m : PrinterNumber × MessageNumber). (m.0.value, m.1))
    (λ y. wanted_of n (holding_of c.args.self.now) c.args.to (y % n)) _ _ refl refl (λ x b q k. search (rules, tests)) _ c.find_map.ensures.runs
