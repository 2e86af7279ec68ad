use Rattle.std.proofs.Common.{length, true, Some, ◌∙◌}
use Rattle.roles.specs.Nearest.{delay_in}
use Rattle.table.specs.Desks.{desk, pass_all}
use Rattle.table.specs.declared.Heed.TheVariants.{Clocks}
use Rattle.printer.specs.Views.{desk_of}
use Rattle.printer.proofs.Steps.{lawful_if, lawful_taken}
use Rattle.printer.proofs.printer.Printer.take.Goals as goal

pub returns-clause-lawful : goal.returns-clause-lawful
returns-clause-lawful g c =
    let a = c.args in
    let ds = a.delays.now.row.now in
    let p = c.receive.ensures in
    lawful_if (length ds) true (desk_of a.self.now a.list.now a.shelf.now) _ _
    (c.pass_on.ensures.after ∙ (λ i. pass_all Clocks (length ds) (delay_in ds) (p.me i).value (desk (p.table i) a.list.now (c.lay_body.ensures i))))
    (lawful_taken _ g.T.Body.Body.row _ _ _ _ (Some c.in_ok-frame.frame))
