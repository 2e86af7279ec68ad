-- A printer together with its parts of the two stores, and passing on until nothing can be passed on.
use Rattle.std.specs.Prelude.{◌≡◌, ℕ, zero, suc, ◌-◌, Bool, cond, List, length, Some, None, Option, nat_lt}
use Rattle.backlog.specs.Tickets.{first_ticket}
use Rattle.backlog.specs.declared.Ticket.{Ticket}
use Rattle.table.specs.Passing.{may_pass, passed_on, kind_held}
use Rattle.table.specs.Printers.{Printer}
use Rattle.table.specs.Records.{modify, written}
use Rattle.table.specs.declared.passing.Heed.{Heed}
use Rattle.table.specs.declared.records.Record.{Record}

-- what it keeps, its list, of which the first records up to the printer's length count, and its shelf
pub record Desk (R : Type 0) : Type 0 where
  pub printer : Printer
  pub list : List (Record R)
  pub shelf : List R

abbrev pub desk : {R : Type 0} → Printer → List (Record R) → List R → Desk R
desk p list shelf = record { printer = p; list = list; shelf = shelf }

abbrev pub only_if : {A : Type 0} → (A → Bool) → Option A → Option A
only_if test None = None
only_if test (Some a) = cond (test a) (Some a) None

-- the first held ticket, if there is room in a list of so many places and the ticket may be passed on
abbrev pub next_to_pass : Heed → ℕ → ℕ → Printer → ℕ → Option Ticket
next_to_pass heed n me p places =
    cond (nat_lt p.length places) (only_if (may_pass heed n me p) (first_ticket n p.holding)) None

module _ {R : Type 0} where
  -- a ticket's message is delivered
  abbrev pub pass_one : ℕ → (ℕ → ℕ) → ℕ → Desk R → Ticket → Desk R
  pass_one n delay me d t = record {
    printer = passed_on n delay me d.printer t;
    list = modify d.list d.printer.length (written (kind_held d.printer t) t.sender t.message d.shelf);
    shelf = d.shelf;
  }

  abbrev pub pass_next : Option Ticket → (Ticket → Desk R) → Desk R → Desk R
  pass_next None next d = d
  pass_next (Some t) next d = next t

  -- at most so many tickets are passed on, one after the other
  unfoldable pub passing : ℕ → Heed → ℕ → (ℕ → ℕ) → ℕ → Desk R → Desk R
  passing zero heed n delay me d = d
  passing (suc j) heed n delay me d =
      pass_next (next_to_pass heed n me d.printer (length d.list)) (λ t. passing j heed n delay me (pass_one n delay me d t)) d

  -- as many as the list has room for
  abbrev pub pass_all : Heed → ℕ → (ℕ → ℕ) → ℕ → Desk R → Desk R
  pass_all heed n delay me d = passing (length d.list - d.printer.length) heed n delay me d

  -- nothing can be passed on: no ticket is held, the first may not be passed on, or the list is full
  abbrev pub Stuck : Heed → ℕ → ℕ → Desk R → Type 0
  Stuck heed n me d = next_to_pass heed n me d.printer (length d.list) ≡ None
