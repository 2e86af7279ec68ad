use Rattle.std.proofs.Common.{◌≡◌, ◌-◌, length}
use Rattle.roles.specs.Nearest.{delay_in}
use Rattle.table.specs.Desks.{desk, pass_all}
use Rattle.table.specs.Printers.{printer_of}
use Rattle.table.proofs.table.PrinterTable.pass_on.Given as goal

-- what is left to pass on from here gives what all gave at first
abbrev pub invariant-loop-ticket : goal.invariant-loop-ticket
invariant-loop-ticket g l =
    (l.self.me ≡ l.initial.self.me) × (
    pass_all l.heed (length l.delays.row.now) (delay_in l.delays.row.now) l.initial.self.me.value (desk (printer_of l.self) l.list l.shelf)
    ≡ pass_all l.heed (length l.delays.row.now) (delay_in l.delays.row.now) l.initial.self.me.value (desk (printer_of l.initial.self) l.initial.list l.shelf))

abbrev pub decreases-loop-ticket : goal.decreases-loop-ticket
decreases-loop-ticket g l = length l.initial.list - l.self.length
