-- Printers whose parts are equal.
use Rattle.std.proofs.Common.{◌≡◌}
use Rattle.table.specs.Printers.{Printer}

pub printer_path : (a b : Printer) → a.clocks ≡ b.clocks → a.duty ≡ b.duty → a.conf ≡ b.conf → a.holding ≡ b.holding →
    a.length ≡ b.length → a ≡ b
printer_path a b p q r s t = λ i. record { clocks = p i; duty = q i; conf = r i; holding = s i; length = t i }
