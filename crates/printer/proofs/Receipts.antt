-- What a frame leaves alone: what was passed on, and the own messages of who takes it.
use Rattle.std.proofs.Common.{◌≡◌, ℕ, ◌≤◌, sym, refl, subst}
use Rattle.frame.specs.declared.Content.{Content}
use Rattle.frame.specs.declared.Content.TheVariants.{Data, Up, Down, Ticket, Reassign, Clock}
use Rattle.frame.specs.declared.Frame.{Frame}
use Rattle.frame.specs.declared.TicketNumber.{TicketNumber}
use Rattle.roles.proofs.Functions.{put_all, put_other}
use Rattle.backlog.specs.Holdings.{Holding, Row}
use Rattle.backlog.specs.declared.Held.{Held}
use Rattle.table.specs.Printers.{Printer}
use Rattle.table.proofs.Sound.{Sound}
use Rattle.printer.specs.Contents.{message_in, tickets_in, reassignment_in}
use Rattle.printer.specs.Taking.{holding_after, with_message, with_tickets, with_reassignment}
use Rattle.printer.proofs.Holds.{changed_to, stored_passed}

module _ {B : Type 0} (x : ℕ) (h : Holding) where
  abbrev brought : TicketNumber → Content B → Holding
  brought k c = with_reassignment x (reassignment_in c) (with_tickets x (tickets_in k c) (with_message x (message_in c) h))

  messages_kept : (m : ℕ) (k : TicketNumber) (c : Content B) → ((y : ℕ) → (h.messages y).passed ≤ m) → (y : ℕ) → ((brought k c).messages y).passed ≤ m
  messages_kept m k (Data n s r b) l = stored_passed h.messages x _ m _ l
  messages_kept m k (Up n s r) l = stored_passed h.messages x _ m _ l
  messages_kept m k (Down n s r) l = stored_passed h.messages x _ m _ l
  messages_kept m k (Ticket y n) l = l
  messages_kept m k (Reassign a c s r) l = put_all (λ r. r.passed ≤ m) h.messages x _ (l x) l
  messages_kept m k Clock l = l

  tickets_kept : (m : ℕ) (k : TicketNumber) (c : Content B) → ((b : ℕ) → (h.tickets b).passed ≤ m) → (b : ℕ) → ((brought k c).tickets b).passed ≤ m
  tickets_kept m k (Data n s r b) l = l
  tickets_kept m k (Up n s r) l = l
  tickets_kept m k (Down n s r) l = l
  tickets_kept m k (Ticket y n) l = stored_passed h.tickets x _ m _ l
  tickets_kept m k (Reassign a c s r) l = l
  tickets_kept m k Clock l = l

  other_row : (k : TicketNumber) (c : Content B) (y : ℕ) → (y ≡ x → ⊥) → h.messages y ≡ (brought k c).messages y
  other_row k (Data n s r b) y d = sym (put_other h.messages x _ y d)
  other_row k (Up n s r) y d = sym (put_other h.messages x _ y d)
  other_row k (Down n s r) y d = sym (put_other h.messages x _ y d)
  other_row k (Ticket z n) y d = refl
  other_row k (Reassign a c s r) y d = sym (put_other h.messages x _ y d)
  other_row k Clock y d = refl

-- a printer that takes another's frame keeps its bounds
pub received_sound : {B : Type 0} (me x : ℕ) (f : Frame B) (p : Printer) (h : Holding) → (x ≡ me → ⊥) → h ≡ holding_after x f p.holding → Sound me p →
    Sound me (changed_to p p.duty h)
received_sound me x f p h d e s =
    let k = f.payload.clock in
    let c = f.payload.content in
    let row = other_row x p.holding k c me (λ z. d (sym z)) in
    subst (λ g. Sound me (changed_to p p.duty g)) (sym e) (record {
      length_ok = s.length_ok;
      sequencer_ok = s.sequencer_ok;
      turn_ok = s.turn_ok;
      roles_ok = s.roles_ok;
      messages_ok = messages_kept x p.holding p.length k c s.messages_ok;
      tickets_ok = tickets_kept x p.holding p.length k c s.tickets_ok;
      own_ok = subst (λ (r : Row Held). r.count ≤ 7) row s.own_ok;
      owes_ok = λ o. subst (λ (r : Row Held). 1 ≤ r.count) row (s.owes_ok o);
    })
