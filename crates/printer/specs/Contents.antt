-- A frame seen through three questions: its message if any, its tickets, its reassignment if any.
use Rattle.std.specs.Prelude.{ℕ, List, [], ◌∷◌, Some, None, Option}
use Rattle.frame.specs.declared.Content.{Content}
use Rattle.frame.specs.declared.Content.TheVariants.{Data, Up, Down, Ticket, Reassign, Clock}
use Rattle.frame.specs.declared.MessageNumber.{MessageNumber}
use Rattle.frame.specs.declared.RoleNumber.{RoleNumber}
use Rattle.frame.specs.declared.TicketNumber.{TicketNumber}
use Rattle.roles.specs.declared.RecordKind.{RecordKind}
use Rattle.roles.specs.declared.RecordKind.TheVariants as kinds
use Rattle.backlog.specs.declared.Stub.{Stub}

pub record Message (B : Type 0) : Type 0 where
  pub kind : RecordKind
  pub number : MessageNumber
  pub assigned : ℕ × RoleNumber
  pub body : Option B

-- messages last + 1 to sent are assigned anew
pub record Reassignment : Type 0 where
  pub last : MessageNumber
  pub sent : MessageNumber
  pub assigned : ℕ × RoleNumber

module _ {B : Type 0} where
  abbrev pub message_in : Content B → Option (Message B)
  message_in (Data k s r b) = Some (record { kind = kinds.Data; number = k; assigned = (s, r); body = Some b })
  message_in (Up k s r) = Some (record { kind = kinds.Up; number = k; assigned = (s, r); body = None })
  message_in (Down k s r) = Some (record { kind = kinds.Down; number = k; assigned = (s, r); body = None })
  message_in (Ticket x k) = None
  message_in (Reassign l c s r) = None
  message_in Clock = None

  -- a ticket's number is the frame's clock
  abbrev pub tickets_in : TicketNumber → Content B → List Stub
  tickets_in clock (Data k s r b) = []
  tickets_in clock (Up k s r) = []
  tickets_in clock (Down k s r) = []
  tickets_in clock (Ticket x k) = record { number = clock; sender = x; message = k } ∷ []
  tickets_in clock (Reassign l c s r) = []
  tickets_in clock Clock = []

  abbrev pub reassignment_in : Content B → Option Reassignment
  reassignment_in (Data k s r b) = None
  reassignment_in (Up k s r) = None
  reassignment_in (Down k s r) = None
  reassignment_in (Ticket x k) = None
  reassignment_in (Reassign l c s r) = Some (record { last = l; sent = c; assigned = (s, r) })
  reassignment_in Clock = None
