-- Taking a frame.
use Rattle.std.specs.Prelude.{ℕ, ◌+◌, max, Bool, cond, ◌&&◌, ◌||◌, List, [], ◌∷◌, length, is_some, Some, None, Ok, Err, Option, nat_le, nat_lt, slice_set}
use Rattle.frame.specs.declared.Frame.{Frame}
use Rattle.frame.specs.declared.MessageNumber.{MessageNumber}
use Rattle.transport.specs.Nets.{Net, oldest}
use Rattle.transport.specs.declared.TransportRefusal.TheVariants.{NothingWaits}
use Rattle.roles.specs.Functions.{put}
use Rattle.backlog.specs.Holdings.{Holding, hold_message, hold_ticket, reassigned}
use Rattle.backlog.specs.declared.Stub.{Stub}
use Rattle.table.specs.Desks.{Desk, desk, pass_all}
use Rattle.table.specs.Printers.{Printer, Hearing}
use Rattle.table.specs.Records.{shelf_place}
use Rattle.table.specs.declared.Heed.TheVariants as heed
use Rattle.printer.specs.Contents.{Message, Reassignment, message_in, tickets_in, reassignment_in}
use Rattle.refusals.specs.Faults.{carried_up, refused_by}
use Rattle.printer.specs.Answers.{Answer}
use Rattle.refusals.specs.declared.PrinterRefusal.TheVariants.{ListFull, NoRoom}

-- the heard clock becomes the frame's, and the own clock the larger of the two
abbrev pub hear : ℕ → ℕ → Hearing → Hearing
hear x clock k = record { own = max k.own clock; posted = k.posted; heard = put k.heard x clock }

abbrev pub with_tickets : ℕ → List Stub → Holding → Holding
with_tickets x [] h = h
with_tickets x (s ∷ rest) h = with_tickets x rest (hold_ticket h x s)

abbrev pub with_reassignment : ℕ → Option Reassignment → Holding → Holding
with_reassignment x None h = h
with_reassignment x (Some r) h = reassigned h x r.last.0 r.sent.0 r.assigned

module _ {B : Type 0} where
  -- there is no room for what a frame of x brings: it has a message, and eight of its sender are held, or its tickets
  -- would make more than sixteen of their issuer
  abbrev pub lacks_room : ℕ → Holding → Frame B → Bool
  lacks_room x h f =
      (is_some (message_in f.payload.content) && nat_le 8 (h.messages x).count)
      || nat_lt 16 ((h.tickets x).count + length (tickets_in f.payload.clock f.payload.content))

  abbrev pub with_message : ℕ → Option (Message B) → Holding → Holding
  with_message x None h = h
  with_message x (Some m) h = hold_message h x m.number.0 (record { kind = m.kind; assigned = m.assigned })

  -- what is held after a frame of x: its message, then its tickets; a reassignment changes what was held before
  abbrev pub holding_after : ℕ → Frame B → Holding → Holding
  holding_after x f h =
      with_reassignment x (reassignment_in f.payload.content)
      (with_tickets x (tickets_in f.payload.clock f.payload.content) (with_message x (message_in f.payload.content) h))

  -- a body is laid on the shelf
  abbrev pub with_body : {R : Type 0} → (B → R) → ℕ → MessageNumber → Option B → List R → List R
  with_body row x k None shelf = shelf
  with_body row x k (Some b) shelf = slice_set shelf (shelf_place x k.0) (row b)

  abbrev pub with_message_body : {R : Type 0} → (B → R) → ℕ → Option (Message B) → List R → List R
  with_message_body row x None shelf = shelf
  with_message_body row x (Some m) shelf = with_body row x m.number m.body shelf

  abbrev pub shelf_after : {R : Type 0} → (B → R) → ℕ → Frame B → List R → List R
  shelf_after row x f shelf = with_message_body row x (message_in f.payload.content) shelf

  abbrev pub received : ℕ → Frame B → Printer → Printer
  received x f p = record {
    clocks = hear x f.payload.clock.0 p.clocks;
    duty = p.duty;
    conf = p.conf;
    holding = holding_after x f p.holding;
    length = p.length;
  }

  -- what taking answers, by the oldest frame from x
  abbrev pub take_by : ℕ → ℕ → Printer → Option (Frame B) → Answer
  take_by me x p None = Err (carried_up (record { refusal = NothingWaits; printer = me }))
  take_by me x p (Some f) = cond (lacks_room x p.holding f) (Err (refused_by me NoRoom)) (Ok tt)

  abbrev pub take_answer : ℕ → ℕ → Printer → ℕ → Net B → Answer
  take_answer me x p places t = cond (nat_le places p.length) (Err (refused_by me ListFull)) (take_by me x p (oldest t x me))

  -- the printer with its stores after the frame is taken: it is held, and then passing on follows
  abbrev pub taken : {R : Type 0} → (B → R) → ℕ → (ℕ → ℕ) → ℕ → ℕ → Desk R → Option (Frame B) → Desk R
  taken row n delay me x d None = d
  taken row n delay me x d (Some f) =
      pass_all heed.Clocks n delay me (desk (received x f d.printer) d.list (shelf_after row x f d.shelf))
