use Rattle.table.specs.Printers.{printer_of}
use Rattle.table.proofs.Sound.{sound}
use Rattle.printer.proofs.Holds.{repaid_sound}
use Rattle.printer.proofs.transmitting.settle_debt.Goals as goal

pub invariant_of-table : goal.invariant_of-table
invariant_of-table c =
    let t = c.args.table.now in
    repaid_sound t.me.value (printer_of t) _ c.reassign_all.ensures (sound t)
