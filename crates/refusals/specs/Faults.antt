-- The refusals of a printer.
use Rattle.std.specs.Prelude.{ℕ}
use Rattle.transport.specs.Faults as carried
use Rattle.transport.specs.declared.Layer.{Layer}
use Rattle.transport.specs.declared.Layer.TheVariants as layers
use Rattle.transport.specs.declared.TransportFault.{TransportFault}
use Rattle.refusals.specs.declared.faults.PrinterFault.{PrinterFault}
use Rattle.refusals.specs.declared.faults.PrinterFault.TheVariants.{Transport, Printer}
use Rattle.refusals.specs.declared.faults.PrinterRefusal.{PrinterRefusal}
use Rattle.refusals.specs.declared.faults.PrinterRefusal.TheVariants.{Switching, RoleHeld, ReassignmentOwed, SevenUndelivered, Undelivered, NotActive, ListFull, NothingDue, ClockSpent, NoRoom}

abbrev pub refusal_number : PrinterRefusal → ℕ
refusal_number Switching = 7
refusal_number RoleHeld = 8
refusal_number ReassignmentOwed = 9
refusal_number SevenUndelivered = 10
refusal_number Undelivered = 11
refusal_number NotActive = 12
refusal_number ListFull = 13
refusal_number NothingDue = 14
refusal_number ClockSpent = 15
refusal_number NoRoom = 18

abbrev pub fault_number : PrinterFault → ℕ
fault_number (Transport f) = carried.refusal_number f.refusal
fault_number (Printer r p) = refusal_number r

abbrev pub fault_layer : PrinterFault → Layer
fault_layer (Transport f) = carried.refusal_layer f.refusal
fault_layer (Printer r p) = layers.Printer

abbrev pub fault_printer : PrinterFault → ℕ
fault_printer (Transport f) = f.printer
fault_printer (Printer r p) = p

-- a refusal by printer me
abbrev pub refused_by : ℕ → PrinterRefusal → PrinterFault
refused_by me r = Printer r me

-- a transport's fault keeps its layer
abbrev pub carried_up : TransportFault → PrinterFault
carried_up f = Transport f
