use Rattle.std.proofs.Common.{sym, ap}
use Rattle.std.specs.Option.{ok_or}
use Rattle.body.specs.Faults.{unfit}
use Rattle.frame.proofs.Parts.{printer_of_self}
use Rattle.frame.proofs.printer_number.PrinterNumber.new.Goals as goal

pub returns-then-is_printer : goal.returns-then-is_printer
returns-then-is_printer c = ap (λ o. ok_or o unfit) (sym (printer_of_self _))
