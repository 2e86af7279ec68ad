-- The bounds that holding keeps.
use Rattle.std.proofs.Common.{◌≡◌, ℕ, ◌<◌, ◌≤◌, sym, ap, subst, arith}
use Rattle.std.proofs.lemmas.Bool.{false≢true}
use Rattle.std.proofs.lemmas.Bool.Decides.{nat_tests}
use Rattle.frame.specs.declared.MessageNumber.{MessageNumber}
use Rattle.roles.specs.Functions.{put}
use Rattle.roles.specs.declared.RecordKind.{RecordKind}
use Rattle.roles.proofs.Functions.{put_all, put_same}
use Rattle.backlog.specs.Holdings.{Holding, Row, stored}
use Rattle.backlog.specs.declared.Held.{Held}
use Rattle.table.specs.Printers.{Printer}
use Rattle.table.specs.declared.Duty.{Duty}
use Rattle.table.proofs.Sound.{Sound}
use Rattle.printer.specs.Making.{undelivered, held_own}
use Rattle.printer.specs.Transmitting.{issued, repaid}

-- one more held, and no more passed on
pub stored_passed : {A : Type 0} (rows : ℕ → Row A) (x i m : ℕ) (a : A) → ((y : ℕ) → (rows y).passed ≤ m) → (y : ℕ) →
    (put rows x (stored (rows x) i a) y).passed ≤ m
stored_passed rows x i m a h y = put_all (λ r. r.passed ≤ m) rows x (stored (rows x) i a) (h x) h y

-- a printer that makes a message keeps its bounds
pub held_own_sound : (kind : RecordKind) (me : ℕ) (p : Printer) → undelivered me p < 7 → Sound me p → Sound me (held_own kind me p)
held_own_sound kind me p few s =
    let own = ap (λ (r : Row Held). r.count) (put_same p.holding.messages me ((held_own kind me p).holding.messages me)) in
    record {
      length_ok = s.length_ok;
      sequencer_ok = s.sequencer_ok;
      turn_ok = s.turn_ok;
      roles_ok = s.roles_ok;
      messages_ok = stored_passed p.holding.messages me _ p.length _ s.messages_ok;
      tickets_ok = s.tickets_ok;
      own_ok = grind (arith, nat_tests);
      owes_ok = λ _. grind (arith, nat_tests);
    }

-- a printer with another holding and another part
abbrev pub changed_to : Printer → Duty → Holding → Printer
changed_to p d h = record { clocks = p.clocks; duty = d; conf = p.conf; holding = h; length = p.length }

-- one that issues a ticket keeps its bounds
pub issued_sound : (me x : ℕ) (k : MessageNumber) (p : Printer) (h : Holding) → x < 8 → h ≡ (issued me x k p).holding → Sound me p →
    Sound me (changed_to p (issued me x k p).duty h)
issued_sound me x k p h small e s = subst (λ g. Sound me (changed_to p (issued me x k p).duty g)) (sym e) (record {
  length_ok = s.length_ok;
  sequencer_ok = s.sequencer_ok;
  turn_ok = omega arith;
  roles_ok = s.roles_ok;
  messages_ok = s.messages_ok;
  tickets_ok = stored_passed p.holding.tickets me _ p.length _ s.tickets_ok;
  own_ok = s.own_ok;
  owes_ok = s.owes_ok;
})

-- and so does one that pays its debt
pub repaid_sound : (me : ℕ) (p : Printer) (h : Holding) → h ≡ (repaid me p).holding → Sound me p → Sound me (changed_to p (repaid me p).duty h)
repaid_sound me p h e s = subst (λ g. Sound me (changed_to p (repaid me p).duty g)) (sym e) (record {
  length_ok = s.length_ok;
  sequencer_ok = s.sequencer_ok;
  turn_ok = s.turn_ok;
  roles_ok = s.roles_ok;
  messages_ok = λ y. grind (arith, nat_tests, s.messages_ok y, s.messages_ok me);
  tickets_ok = s.tickets_ok;
  own_ok = grind (arith, nat_tests, s.own_ok);
  owes_ok = λ f. absurd (false≢true f);
})
