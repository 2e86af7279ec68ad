-- What the departure of another printer does.
use Rattle.std.specs.Prelude.{ℕ, ◌+◌, Bool, true, cond, not, ◌&&◌, Some, None, Option}
use Rattle.frame.specs.declared.RoleNumber.{RoleNumber}
use Rattle.roles.specs.Configurations.{Conf, is_active, own_pair, changed}
use Rattle.roles.specs.Functions.{put}
use Rattle.roles.specs.declared.RecordKind.TheVariants.{Gone}
use Rattle.backlog.specs.Holdings.{Holding, Row, with_messages, drop_messages, reassigned_row}
use Rattle.backlog.specs.declared.Held.{Held}
use Rattle.table.specs.Desks.{Desk, pass_all}
use Rattle.table.specs.Passing.{ruled}
use Rattle.table.specs.Printers.{Printer}
use Rattle.table.specs.Records.{modify, written}
use Rattle.table.specs.declared.duty.Duty.{Duty}
use Rattle.table.specs.declared.duty.PrinterState.TheVariants.{Active}
use Rattle.table.specs.declared.passing.Heed.TheVariants.{Nothing}

-- the printer has become active: by the departure, since a gone record changes no other rank
abbrev pub is_promoted : ℕ → Conf → Conf → Bool
is_promoted me old new = is_active new me && not (is_active old me)

-- a row whose held messages are all given to s, if so told
abbrev pub taken_over : Bool → ℕ × RoleNumber → Row Held → Row Held
taken_over won s r = record {
  passed = r.passed;
  count = r.count;
  slot = λ i. cond won ((reassigned_row r r.passed (r.passed + r.count) s).slot i) (r.slot i);
}

-- who is promoted takes over its own messages
abbrev pub own_taken_over : Bool → ℕ → ℕ × RoleNumber → Holding → Holding
own_taken_over won me s h = with_messages h (put h.messages me (taken_over won s (h.messages me)))

-- and is active and its own sequencer, and owes nothing
abbrev pub promoted_duty : Bool → ℕ × RoleNumber → Duty → Duty
promoted_duty won s d = record {
  state = cond won Active d.state;
  sequencer = cond won s d.sequencer;
  owes = not won && d.owes;
  turn = d.turn;
}

-- who has become active, with its role number; what that changes in its part and in what it holds
abbrev pub promotion : Bool → ℕ × RoleNumber → Option (ℕ × RoleNumber)
promotion won s = cond won (Some s) None

abbrev pub duty_promoted : Option (ℕ × RoleNumber) → Duty → Duty
duty_promoted None d = d
duty_promoted (Some s) d = promoted_duty true s d

abbrev pub holding_promoted : Option (ℕ × RoleNumber) → ℕ → Holding → Holding
holding_promoted None me h = h
holding_promoted (Some s) me h = own_taken_over true me s h

-- printer x is gone: its messages are dropped, and the gone record has its effect
abbrev pub bereft : ℕ → (ℕ → ℕ) → ℕ → Printer → ℕ → Printer
bereft n delay me p x =
    let c = changed n p.conf Gone x in
    let won = is_promoted me p.conf c in
    let h = own_taken_over won me (own_pair c me) (drop_messages p.holding x) in
    record {
      clocks = p.clocks;
      duty = ruled n delay me c (h.messages me).count (promoted_duty won (own_pair c me) p.duty);
      conf = c;
      holding = h;
      length = p.length + 1;
    }

module _ {R : Type 0} where
  -- a gone record, with number 0
  abbrev pub departed : ℕ → (ℕ → ℕ) → ℕ → Desk R → ℕ → Desk R
  departed n delay me d x = record {
    printer = bereft n delay me d.printer x;
    list = modify d.list d.printer.length (written Gone x (record { 0 = 0 }) d.shelf);
    shelf = d.shelf;
  }

  -- all held tickets are passed on, without regard to clocks, and then x is gone
  abbrev pub left_by : ℕ → (ℕ → ℕ) → ℕ → Desk R → ℕ → Desk R
  left_by n delay me d x = departed n delay me (pass_all Nothing n delay me d) x
