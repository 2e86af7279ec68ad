-- What every step keeps.
use Rattle.std.specs.Prelude.{ℕ, ◌≤◌}
use Rattle.table.specs.Desks.{Desk}
use Rattle.table.specs.Given.{Given}

-- a step from one desk to another: the clock never falls, and the configuration stays the one that the list gives
pub record Lawful {R : Type 0} (n : ℕ) (d e : Desk R) : Type 0 where
  pub clock : d.printer.clocks.own ≤ e.printer.clocks.own
  pub given : Given n d → Given n e
