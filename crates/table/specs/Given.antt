-- The configuration that a list gives.
use Rattle.std.specs.Prelude.{◌≡◌, ℕ, List, [], ◌∷◌, take}
use Rattle.roles.specs.Configurations.{Conf, changed, opening_conf}
use Rattle.table.specs.Desks.{Desk}
use Rattle.table.specs.declared.records.Record.{Record}

module _ {R : Type 0} where
  -- a configuration changed by one record after the other
  abbrev pub changed_by : ℕ → Conf → List (Record R) → Conf
  changed_by n c [] = c
  changed_by n c (r ∷ rest) = changed_by n (changed n c r.kind r.printer) rest

  -- all active at first, then changed by each record
  abbrev pub given_by : ℕ → List (Record R) → Conf
  given_by n list = changed_by n opening_conf list

  -- a printer's configuration is the one that its list gives
  abbrev pub Given : ℕ → Desk R → Type 0
  Given n d = d.printer.conf ≡ given_by n (take d.printer.length d.list)
