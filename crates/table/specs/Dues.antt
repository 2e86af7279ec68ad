-- Which frame is due.
use Rattle.std.specs.Prelude.{◌≡◌, ℕ, ◌<◌, ◌≤◌, Bool, true, cond, not, ◌&&◌, Some, None, Option, nat_lt}
use Rattle.frame.specs.declared.MessageNumber.{MessageNumber}
use Rattle.roles.specs.Configurations.{is_active, own_pair}
use Rattle.backlog.specs.Wanted.{wanted, down_ticketed}
use Rattle.table.specs.Printers.{Printer}
use Rattle.table.specs.declared.dues.Due.{Due}
use Rattle.table.specs.declared.dues.Due.TheVariants.{Reassignment, Ticket, Clock}

-- a printer issues tickets while it is active, its own down has no ticket, and it holds fewer than sixteen of its own
abbrev pub may_ticket : ℕ → ℕ → Printer → Bool
may_ticket n me p = is_active p.conf me && (not (down_ticketed n p.holding me) && nat_lt (p.holding.tickets me).count 16)

-- the message that gets the next ticket: one assigned to the printer under its present role number
abbrev pub ticket_due : ℕ → ℕ → Printer → Option (ℕ × MessageNumber)
ticket_due n me p = cond (may_ticket n me p) (wanted n p.holding (own_pair p.conf me) p.duty.turn) None

-- an active printer tells its clock once it has risen since the last post
abbrev pub clock_due : ℕ → Printer → Bool
clock_due me p = is_active p.conf me && nat_lt p.clocks.posted p.clocks.own

abbrev pub ticket_or : Option (ℕ × MessageNumber) → Option Due → Option Due
ticket_or (Some m) d = Some (Ticket m.0 m.1)
ticket_or None d = d

-- the first that is due: an owed reassignment, then a ticket, then the clock
abbrev pub due : ℕ → ℕ → Printer → Option Due
due n me p = cond p.duty.owes (Some Reassignment) (ticket_or (ticket_due n me p) (cond (clock_due me p) (Some Clock) None))

-- what a printer may rely on in posting what is due: it has messages to reassign; a ticket names a message in its range,
-- and there is room to hold it
abbrev pub FitsTicket : ℕ → Printer → ℕ → MessageNumber → Type 0
FitsTicket me p x k = (x < 8) × (1 ≤ k.0) × ((p.holding.tickets me).count < 16)

abbrev pub FitsDue : ℕ → Printer → Due → Type 0
FitsDue me p Reassignment = p.duty.owes ≡ true
FitsDue me p (Ticket x k) = FitsTicket me p x k
FitsDue me p Clock = Unit {0}
