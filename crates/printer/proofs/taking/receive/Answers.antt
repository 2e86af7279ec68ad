use Rattle.table.specs.Printers.{printer_of}
use Rattle.table.proofs.Sound.{sound}
use Rattle.printer.proofs.Receipts.{received_sound}
use Rattle.printer.proofs.taking.receive.Goals as goal

pub invariant_of-table : goal.invariant_of-table
invariant_of-table g c =
    let t = c.args.table.now in
    received_sound t.me.value c.args.from.value c.args.frame (printer_of t) _ c.requires.from_other c.hold_frame.ensures (sound t)
