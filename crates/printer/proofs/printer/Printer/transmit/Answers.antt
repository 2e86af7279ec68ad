use Rattle.std.proofs.Common.{length, true, Some, sym, ap, ◌∙◌}
use Rattle.roles.specs.Nearest.{delay_in}
use Rattle.table.specs.Desks.{desk, pass_all}
use Rattle.table.specs.Dues.{due}
use Rattle.table.specs.declared.Heed.TheVariants.{Clocks}
use Rattle.printer.specs.Transmitting.{transmitted}
use Rattle.printer.specs.Views.{number_of, kept_by, desk_of}
use Rattle.printer.proofs.Steps.{lawful_if, lawful_transmitted}
use Rattle.printer.proofs.printer.Printer.transmit.Goals as goal

pub returns-in_ok-issue-in-Some-Ticket-clause-after : goal.returns-in_ok-issue-in-Some-Ticket-clause-after
returns-in_ok-issue-in-Some-Ticket-clause-after g c =
    let a = c.args in
    let n = length a.delays.now.row.now in
    let delay = delay_in a.delays.now.row.now in
    let p = c.in_ok-issue-in-Some-Ticket.ensures in
    let due_is = ap Some (sym c.in-Some-Ticket.field-0-is) ∙ c.in-Some-Ticket.ensures.answer in
    c.pass_on.ensures.after ∙
    ((λ i. pass_all Clocks n delay (p.me i).value (desk (p.table i) a.list.now a.shelf.now)) ∙
    ap (transmitted n delay (number_of a.self.now) (desk_of a.self.now a.list.now a.shelf.now))
    (due_is ∙ (λ i. due (c.count.ensures i) (number_of a.self.now) (kept_by a.self.now))))

pub returns-in_ok-issue-in-Some-Ticket-clause-lawful : goal.returns-in_ok-issue-in-Some-Ticket-clause-lawful
returns-in_ok-issue-in-Some-Ticket-clause-lawful g c =
    let a = c.args in
    lawful_if _ true (desk_of a.self.now a.list.now a.shelf.now) _ _ (returns-in_ok-issue-in-Some-Ticket-clause-after g c)
    (lawful_transmitted _ (delay_in a.delays.now.row.now) _ _ (due (length a.delays.now.row.now) (number_of a.self.now) (kept_by a.self.now)))
