use Rattle.std.specs.Option.{option_map}
use Rattle.frame.specs.declared.PrinterNumber.{PrinterNumber}
use Rattle.roles.specs.Configurations.{conf_of}
use Rattle.roles.specs.Nearest.{Nearest, delay_in}
use Rattle.roles.proofs.seats.Configuration.nearest.Given as goal

abbrev pub invariant-loop-printer : goal.invariant-loop-printer
invariant-loop-printer l =
    Nearest l.printer (conf_of l.self) (delay_in l.delays.row.now) (option_map (λ (p : PrinterNumber). p.value) l.best)
