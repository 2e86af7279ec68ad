use Rattle.std.proofs.Common.{not, refl, ap, rules}
use borrow.Author.Tests.{tests}
use Rattle.roles.proofs.Ranges.{any_below_range}
use Rattle.table.specs.Passing.{holds_up}
use Rattle.table.specs.Printers.{printer_of}
use Rattle.table.proofs.table.PrinterTable.all_qualify.Goals as goal

pub returns : goal.returns
returns c =
    ap not (any_below_range c.args.count.value (holds_up c.args.self.now.me.value (printer_of c.args.self.now) c.args.ticket) _ _ _ _
    c.any.ensures.ran refl refl (λ x b q k. search (rules, tests)))
