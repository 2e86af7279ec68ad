use Rattle.std.proofs.Common.{rules}
use Rattle.backlog.proofs.Blank.{blank_tickets, nothing_in_rows}
use Rattle.backlog.proofs.backlog.Backlog.open.Goals as goal

-- of the rows it is asked what they hold, and not how they are made
pub returns : goal.returns
returns c = nothing_in_rows _ _ (search rules) (search (rules, blank_tickets))
