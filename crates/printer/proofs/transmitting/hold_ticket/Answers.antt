use Rattle.table.specs.Printers.{printer_of}
use Rattle.table.proofs.Sound.{sound}
use Rattle.printer.proofs.Holds.{issued_sound}
use Rattle.printer.proofs.transmitting.hold_ticket.Goals as goal

pub invariant_of-table : goal.invariant_of-table
invariant_of-table c =
    let t = c.args.table.now in
    issued_sound t.me.value c.args.sender c.args.message (printer_of t) _ c.requires.sender_bound c.hold_ticket.ensures (sound t)
