use Rattle.std.proofs.Common.{◌∙◌, take, rules}
use borrow.Author.Tests.{tests}
use Rattle.std.proofs.lemmas.Iterator.{YieldsList-from_slice}
use Rattle.std.proofs.lemmas.Iterator.Search.{any_from_yields_List}
use Rattle.backlog.specs.Blanks.{no_row}
use Rattle.backlog.specs.Holdings.{ticket_row}
use Rattle.backlog.specs.Tickets.{names}
use Rattle.backlog.specs.declared.rows.Row.{Row}
use Rattle.backlog.specs.declared.rows.Stub.{Stub}
use Rattle.backlog.proofs.AnyOf.{any_taken}
use Rattle.backlog.proofs.backlog.Backlog.is_ticketed.Goals as goal

pub returns : goal.returns
returns c =
    let n = c.args.count.value in
    let rows = c.args.self.now.tickets in
    let named = λ (row : Row Stub 16). names (ticket_row row) c.args.sender c.args.message.0 in
    any_from_yields_List named _ _ c.any.result c.any.ensures.ran (YieldsList-from_slice (take n rows) cc) (λ x b q k. search (rules, tests))
    ∙ any_taken named rows (no_row 16) n (search rules)
