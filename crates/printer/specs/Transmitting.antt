-- Transmitting the first frame due.
use Rattle.std.specs.Prelude.{ℕ, ◌+◌, Bool, true, false, cond, not, ◌&&◌, [], ◌∷◌, is_some, Some, None, Err, Option, nat_le}
use Rattle.frame.specs.declared.Content.{Content}
use Rattle.frame.specs.declared.Content.TheVariants as contents
use Rattle.frame.specs.declared.Frame.{Frame}
use Rattle.frame.specs.declared.MessageNumber.{MessageNumber}
use Rattle.transport.specs.Nets.{Net, after_post}
use Rattle.backlog.specs.Holdings.{reassigned_all, hold_ticket}
use Rattle.table.specs.Desks.{Desk, desk, pass_all}
use Rattle.table.specs.Dues.{due}
use Rattle.table.specs.Printers.{Printer}
use Rattle.table.specs.declared.Due.{Due}
use Rattle.table.specs.declared.Due.TheVariants.{Reassignment, Ticket, Clock}
use Rattle.table.specs.declared.Heed.TheVariants as heed
use Rattle.refusals.specs.Faults.{refused_by}
use Rattle.printer.specs.Answers.{Answer, first_refusal, unless}
use Rattle.printer.specs.Making.{last_sent}
use Rattle.printer.specs.Posts.{frame_from, own_frame, posting_answer, posted_at}
use Rattle.refusals.specs.declared.PrinterRefusal.{PrinterRefusal}
use Rattle.refusals.specs.declared.PrinterRefusal.TheVariants.{ListFull, NothingDue, ClockSpent}

abbrev pub is_ticket : Option Due → Bool
is_ticket None = false
is_ticket (Some Reassignment) = false
is_ticket (Some (Ticket x k)) = true
is_ticket (Some Clock) = false

abbrev pub transmit_refusal : ℕ → ℕ → Printer → ℕ → Option PrinterRefusal
transmit_refusal n me p places = first_refusal (
    (nat_le places p.length, ListFull)
    ∷ (not (is_some (due n me p)), NothingDue)
    ∷ (is_ticket (due n me p) && nat_le 4294967295 p.clocks.own, ClockSpent)
    ∷ [])

-- what posting a ticket answers
abbrev pub ticket_answer : {B : Type 0} → ℕ → Printer → Net B → Answer
ticket_answer me p t = cond (nat_le 4294967295 p.clocks.own) (Err (refused_by me ClockSpent)) (posting_answer t me)

-- what transmit answers, with a list of so many places
abbrev pub transmit_answer : {B : Type 0} → ℕ → ℕ → Printer → ℕ → Net B → Answer
transmit_answer n me p places t = unless me (transmit_refusal n me p places) (posting_answer t me)

-- the sequencer gets all messages that are not delivered, and nothing is owed then
abbrev pub repaid : ℕ → Printer → Printer
repaid me p = record {
  clocks = p.clocks;
  duty = record { state = p.duty.state; sequencer = p.duty.sequencer; owes = false; turn = p.duty.turn };
  conf = p.conf;
  holding = reassigned_all p.holding me p.duty.sequencer;
  length = p.length;
}

-- a ticket with the number of the printer's clock is held, and the sender after that one is tried first next time
abbrev pub issued : ℕ → ℕ → MessageNumber → Printer → Printer
issued me x k p = record {
  clocks = p.clocks;
  duty = record { state = p.duty.state; sequencer = p.duty.sequencer; owes = p.duty.owes; turn = x + 1 };
  conf = p.conf;
  holding = hold_ticket p.holding me (record { number = record { 0 = p.clocks.own }; sender = x; message = k });
  length = p.length;
}

abbrev pub reassign_content : {B : Type 0} → ℕ → Printer → Content B
reassign_content me p =
    contents.Reassign (record { 0 = (p.holding.messages me).passed }) (record { 0 = last_sent me p }) p.duty.sequencer.0 p.duty.sequencer.1

-- the frame that is posted; the clock rises by 1 for a ticket
abbrev pub due_frame : {B : Type 0} → ℕ → Printer → Due → Frame B
due_frame me p Reassignment = own_frame me p (reassign_content me p)
due_frame me p (Ticket x k) = frame_from me (record { 0 = p.clocks.own + 1 }) (contents.Ticket x k)
due_frame me p Clock = own_frame me p contents.Clock

-- passing on follows a ticket
abbrev pub after_due : {R : Type 0} → ℕ → (ℕ → ℕ) → ℕ → Desk R → Due → Desk R
after_due n delay me d Reassignment = desk (repaid me (posted_at d.printer.clocks.own d.printer)) d.list d.shelf
after_due n delay me d (Ticket x k) =
    pass_all heed.Clocks n delay me (desk (issued me x k (posted_at (d.printer.clocks.own + 1) d.printer)) d.list d.shelf)
after_due n delay me d Clock = desk (posted_at d.printer.clocks.own d.printer) d.list d.shelf

-- the printer with its stores after it has transmitted, and the transport
abbrev pub transmitted : {R : Type 0} → ℕ → (ℕ → ℕ) → ℕ → Desk R → Option Due → Desk R
transmitted n delay me d None = d
transmitted n delay me d (Some x) = after_due n delay me d x

abbrev pub after_transmit : {B : Type 0} → ℕ → Printer → Net B → Option Due → Net B
after_transmit me p t None = t
after_transmit me p t (Some x) = after_post t (due_frame me p x)
