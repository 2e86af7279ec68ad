-- What passing on leaves alone.
use Rattle.std.specs.Prelude.{◌≡◌, ◌≤◌, length, take}
use Rattle.table.specs.Desks.{Desk}

-- the list only grows at its end; clocks and shelf stay
pub record Grown {R : Type 0} (d e : Desk R) : Type 0 where
  pub clocks : e.printer.clocks ≡ d.printer.clocks
  pub shelf : e.shelf ≡ d.shelf
  pub places : length e.list ≡ length d.list
  pub longer : d.printer.length ≤ e.printer.length
  pub beginning : take d.printer.length e.list ≡ take d.printer.length d.list
