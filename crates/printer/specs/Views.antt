-- What a printer is known by.
use Rattle.std.specs.Prelude.{ℕ, List}
use Rattle.table.specs.Printers as table
use Rattle.table.specs.Desks.{Desk, desk}
use Rattle.table.specs.declared.Record.{Record}
use Rattle.printer.specs.declared.printer.Printer.{Printer}

-- its number in the hall
abbrev pub number_of : Printer → ℕ
number_of p = p.table.me.value

-- what it keeps
abbrev pub kept_by : Printer → table.Printer
kept_by p = table.printer_of p.table

-- what it keeps, with its parts of the two stores
abbrev pub desk_of : {R : Type 0} → Printer → List (Record R) → List R → Desk R
desk_of p list shelf = desk (kept_by p) list shelf
