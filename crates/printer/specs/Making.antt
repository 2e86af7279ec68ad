-- Making messages, and changing the sequencer.
use Rattle.std.specs.Prelude.{ℕ, ◌+◌, Bool, true, false, not, ◌&&◌, [], ◌∷◌, Ok, Option, nat_le, nat_lt}
use Rattle.frame.specs.declared.Content.{Content}
use Rattle.frame.specs.declared.Content.TheVariants as contents
use Rattle.frame.specs.declared.MessageNumber.{MessageNumber}
use Rattle.transport.specs.Nets.{Net}
use Rattle.roles.specs.Configurations.{is_active, own_pair}
use Rattle.roles.specs.declared.RecordKind.{RecordKind}
use Rattle.roles.specs.declared.RecordKind.TheVariants.{Data, Up, Down, Gone}
use Rattle.backlog.specs.Holdings.{hold_message}
use Rattle.table.specs.Printers.{Printer}
use Rattle.table.specs.declared.PrinterState.{PrinterState}
use Rattle.table.specs.declared.PrinterState.TheVariants.{Active, Passive, Rising, Falling}
use Rattle.printer.specs.Answers.{Answer, first_refusal, unless}
use Rattle.printer.specs.Posts.{posting_answer, posted_at}
use Rattle.refusals.specs.declared.PrinterRefusal.{PrinterRefusal}
use Rattle.refusals.specs.declared.PrinterRefusal.TheVariants.{Switching, RoleHeld, ReassignmentOwed, SevenUndelivered, Undelivered, NotActive}

abbrev pub is_switching : PrinterState → Bool
is_switching Active = false
is_switching Passive = false
is_switching Rising = true
is_switching Falling = true

-- a printer that wants to rise is active already, or one that wants to fall is passive already
abbrev pub has_role : RecordKind → PrinterState → Bool
has_role Data s = false
has_role Up Active = true
has_role Up Passive = false
has_role Up Rising = false
has_role Up Falling = false
has_role Down Active = false
has_role Down Passive = true
has_role Down Rising = false
has_role Down Falling = false
has_role Gone s = false

-- a down is made although a reassignment is owed
abbrev pub minds_debt : RecordKind → Bool
minds_debt Data = true
minds_debt Up = true
minds_debt Down = false
minds_debt Gone = true

-- how many own messages are not delivered
abbrev pub undelivered : ℕ → Printer → ℕ
undelivered me p = (p.holding.messages me).count

-- the number of the last own message
abbrev pub last_sent : ℕ → Printer → ℕ
last_sent me p = (p.holding.messages me).passed + undelivered me p

abbrev pub next_number : ℕ → Printer → MessageNumber
next_number me p = record { 0 = last_sent me p + 1 }

abbrev pub make_refusal : RecordKind → ℕ → Printer → Option PrinterRefusal
make_refusal kind me p = first_refusal (
    (is_switching p.duty.state, Switching)
    ∷ (has_role kind p.duty.state, RoleHeld)
    ∷ (minds_debt kind && p.duty.owes, ReassignmentOwed)
    ∷ (nat_le 7 (undelivered me p), SevenUndelivered)
    ∷ [])

-- what making a message answers
abbrev pub make_answer : {B : Type 0} → RecordKind → ℕ → Printer → Net B → Answer
make_answer kind me p t = unless me (make_refusal kind me p) (posting_answer t me)

abbrev pub state_made : RecordKind → PrinterState → PrinterState
state_made Data s = s
state_made Up s = Rising
state_made Down s = Falling
state_made Gone s = s

-- a message that the printer makes is held, assigned to its sequencer
abbrev pub held_own : RecordKind → ℕ → Printer → Printer
held_own kind me p = record {
  clocks = p.clocks;
  duty = record { state = state_made kind p.duty.state; sequencer = p.duty.sequencer; owes = p.duty.owes; turn = p.duty.turn };
  conf = p.conf;
  holding = hold_message p.holding me (last_sent me p + 1) (record { kind = kind; assigned = p.duty.sequencer });
  length = p.length;
}

-- the printer posts a message and holds it
abbrev pub made : RecordKind → ℕ → Printer → Printer
made kind me p = held_own kind me (posted_at p.clocks.own p)

module _ {B : Type 0} (me : ℕ) (p : Printer) where
  abbrev pub data_content : B → Content B
  data_content b = contents.Data (next_number me p) p.duty.sequencer.0 p.duty.sequencer.1 b

  abbrev pub up_content : Content B
  up_content = contents.Up (next_number me p) p.duty.sequencer.0 p.duty.sequencer.1

  abbrev pub down_content : Content B
  down_content = contents.Down (next_number me p) p.duty.sequencer.0 p.duty.sequencer.1

abbrev pub change_refusal : ℕ → Printer → ℕ → Option PrinterRefusal
change_refusal me p q = first_refusal (
    (is_switching p.duty.state, Switching)
    ∷ (has_role Up p.duty.state, RoleHeld)
    ∷ (p.duty.owes, ReassignmentOwed)
    ∷ (nat_lt 0 (undelivered me p), Undelivered)
    ∷ (not (is_active p.conf q), NotActive)
    ∷ [])

abbrev pub change_answer : ℕ → Printer → ℕ → Answer
change_answer me p q = unless me (change_refusal me p q) (Ok tt)

-- printer q, under its role number, is the sequencer
abbrev pub sequenced_by : Printer → ℕ → Printer
sequenced_by p q = record {
  clocks = p.clocks;
  duty = record { state = p.duty.state; sequencer = own_pair p.conf q; owes = p.duty.owes; turn = p.duty.turn };
  conf = p.conf;
  holding = p.holding;
  length = p.length;
}
