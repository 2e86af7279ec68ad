-- A departure, put together from its parts; the bounds that it keeps; and that there is room for it.
use Rattle.std.proofs.Common.{◌≡◌, ℕ, ◌+◌, ◌-◌, ◌<◌, ◌≤◌, Bool, true, false, cond, not, ◌&&◌, ltb, List, length, Some, None, Option, sym, refl, ap, ◌∙◌, subst, arith}
use Rattle.std.proofs.lemmas.Bool.{cond_both, ltb-true}
use Rattle.std.proofs.lemmas.Bool.Decides.{nat_tests}
use Rattle.frame.specs.declared.RoleNumber.{RoleNumber}
use Rattle.roles.specs.Configurations.{Conf, changed, is_active, own_pair}
use Rattle.roles.proofs.Functions.{put_own}
use Rattle.roles.proofs.RoleBounds.{changed_bound}
use Rattle.roles.specs.declared.RecordKind.TheVariants.{Gone}
use Rattle.backlog.specs.Holdings.{Holding, with_messages, drop_messages}
use Rattle.backlog.specs.Tickets.{first_ticket, tickets_held}
use Rattle.backlog.specs.declared.Ticket.{Ticket}
use Rattle.backlog.proofs.TicketLaws.{There, first_ticket_there, tickets_held_pass}
use Rattle.table.specs.Departures.{is_promoted, own_taken_over, promoted_duty, promotion, duty_promoted, holding_promoted, bereft, departed, left_by}
use Rattle.table.specs.Desks.{Desk, desk, next_to_pass, only_if, pass_one, passing, pass_all}
use Rattle.table.specs.Passing.{ruled, may_pass}
use Rattle.table.specs.Printers.{Printer}
use Rattle.table.specs.declared.duty.Duty.{Duty}
use Rattle.table.specs.Records.{modify, written}
use Rattle.table.specs.declared.passing.Heed.{Heed}
use Rattle.table.specs.declared.passing.Heed.TheVariants.{Nothing}
use Rattle.table.specs.declared.records.Record.{Record}
use Rattle.table.proofs.Deliveries.{sequencer_near, owes_some}
use Rattle.table.proofs.Passings.{next_of, passing_keeps}
use Rattle.table.proofs.Paths.{printer_path}
use Rattle.table.proofs.Sound.{Sound}

-- an office taken, or not, by what a departure says
holding_of_promotion : (won : Bool) (s : ℕ × RoleNumber) (me : ℕ) (h : Holding) → holding_promoted (promotion won s) me h ≡ own_taken_over won me s h
holding_of_promotion true s me h = refl
holding_of_promotion false s me h = sym (ap (with_messages h) (put_own h.messages me))

duty_of_promotion : (won : Bool) (s : ℕ × RoleNumber) (d : Duty) → duty_promoted (promotion won s) d ≡ promoted_duty won s d
duty_of_promotion true s d = refl
duty_of_promotion false s d = refl

module _ (n : ℕ) (delay : ℕ → ℕ) (me : ℕ) (p : Printer) (x : ℕ) where
  -- what each part became is what a departure says
  pub bereaved : (was : Bool) (c : Conf) (o : Option (ℕ × RoleNumber)) (g h : Holding) (d e : Duty) (undelivered : ℕ) →
      was ≡ is_active p.conf me → c ≡ changed n p.conf Gone x → o ≡ promotion (is_active c me && not was) (own_pair c me) →
      g ≡ drop_messages p.holding x → h ≡ holding_promoted o me g → d ≡ duty_promoted o p.duty → undelivered ≡ (h.messages me).count →
      e ≡ ruled n delay me c undelivered d →
      record { clocks = p.clocks; duty = e; conf = c; holding = h; length = p.length + 1 } ≡ bereft n delay me p x
  bereaved was c o g h d e undelivered ew ec eo eg eh ed eu ee =
      let k = changed n p.conf Gone x in
      let won = is_promoted me p.conf k in
      let o' = eo ∙ (λ i. promotion (is_active (ec i) me && not (ew i)) (own_pair (ec i) me)) in
      let h' = eh ∙ ((λ i. holding_promoted (o' i) me (eg i)) ∙ holding_of_promotion won (own_pair k me) me (drop_messages p.holding x)) in
      let d' = ed ∙ (ap (λ q. duty_promoted q p.duty) o' ∙ duty_of_promotion won (own_pair k me) p.duty) in
      let u' = eu ∙ ap (λ (m : Holding). (m.messages me).count) h' in
      printer_path _ _ refl (ee ∙ (λ i. ruled n delay me (ec i) (u' i) (d' i))) ec h' refl

  -- a departure keeps the bounds
  pub bereft_sound : n < 9 → me ≤ 7 → p.length < 65536 → Sound me p → Sound me (bereft n delay me p x)
  bereft_sound small few room s = record {
    length_ok = omega arith;
    sequencer_ok = sequencer_near n delay me c u d small
        (cond_both won (own_pair c me) p.duty.sequencer (λ (q : ℕ × RoleNumber). q.0 ≤ 7) (λ _. few) (λ _. s.sequencer_ok));
    turn_ok = s.turn_ok;
    roles_ok = changed_bound n p.conf Gone x p.length s.roles_ok;
    messages_ok = λ y. grind (arith, nat_tests, s.messages_ok y, s.messages_ok x, s.messages_ok me);
    tickets_ok = λ b. let k = s.tickets_ok b in omega arith;
    own_ok = grind (arith, nat_tests, s.own_ok);
    owes_ok = owes_some n delay me c u d;
  }
    where
      c : Conf
      c = changed n p.conf Gone x

      won : Bool
      won = is_promoted me p.conf c

      d : Duty
      d = promoted_duty won (own_pair c me) p.duty

      u : ℕ
      u = ((own_taken_over won me (own_pair c me) (drop_messages p.holding x)).messages me).count

-- a ticket that is next to be passed on is held, and there is a place for its record
pub next_there : (heed : Heed) (n me : ℕ) (p : Printer) (places : ℕ) (t : Ticket) → next_to_pass heed n me p places ≡ Some t →
    (t.issuer < n) × (0 < (p.holding.tickets t.issuer).count) × (p.length < places)
next_there heed n me p places t e = by (ltb p.length places) refl (first_ticket n p.holding) (first_ticket_there n p.holding) e
  where
    by : (b : Bool) → ltb p.length places ≡ b → (o : Option Ticket) → There n p.holding o →
        cond b (only_if (may_pass heed n me p) o) None ≡ Some t → (t.issuer < n) × (0 < (p.holding.tickets t.issuer).count) × (p.length < places)
    by false r o h e = absurd (let z : ◌≡◌ {A = ℕ} 0 1 = cc in omega arith)
    by true r None h e = absurd (let z : ◌≡◌ {A = ℕ} 0 1 = cc in omega arith)
    by true r (Some u) h e = chosen (may_pass heed n me p u) e
      where
        chosen : (m : Bool) → cond m (Some u) None ≡ Some t → (t.issuer < n) × (0 < (p.holding.tickets t.issuer).count) × (p.length < places)
        chosen false e = absurd (let z : ◌≡◌ {A = ℕ} 0 1 = cc in omega arith)
        chosen true e =
            let q : u ≡ t = cc in
            let l = ltb-true p.length places r in
            let k = subst (λ (v : Ticket). (v.issuer < n) × (0 < (p.holding.tickets v.issuer).count)) q h in
            (k.0, k.1, l)

module _ {R : Type 0} (heed : Heed) (n : ℕ) (delay : ℕ → ℕ) (me : ℕ) where
  -- each record that is passed on uses up a ticket
  abbrev pub reach : Desk R → ℕ
  reach d = d.printer.length + tickets_held n d.printer.holding

  pub reach_kept : (j : ℕ) (d : Desk R) → reach (passing j heed n delay me d) ≡ reach d
  reach_kept j d = passing_keeps heed n delay me (λ e. reach e ≡ reach d) one j d refl
    where
      one : (e : Desk R) (t : Ticket) → next_of heed n delay me e ≡ Some t → reach e ≡ reach d → reach (pass_one n delay me e t) ≡ reach d
      one e t found so_far =
          let k = next_there heed n me e.printer (length e.list) t found in
          let f = tickets_held_pass n e.printer.holding t.sender t.issuer k.0 k.1 in
          omega arith

  -- so there is room for one record more
  pub room_left : (d d' : Desk R) (m : ℕ) → d' ≡ pass_all heed n delay me d → reach d < m → d'.printer.length < m
  room_left d d' m e l =
      let k = ap reach e ∙ reach_kept (length d.list - d.printer.length) d in
      omega arith

module _ {R : Type 0} (n : ℕ) (delay : ℕ → ℕ) (me : ℕ) where
  -- a departure after all is passed on, at the printer m that `me` names
  pub left_after : (m : ℕ) (d d' : Desk R) (x : ℕ) (p : Printer) (list : List (Record R)) → m ≡ me → d' ≡ pass_all Nothing n delay me d →
      p ≡ bereft n delay m d'.printer x → list ≡ modify d'.list d'.printer.length (written Gone x (record { 0 = 0 }) d'.shelf) →
      desk p list d'.shelf ≡ left_by n delay me d x
  left_after m d d' x p list e all ep el =
      (λ i. desk (ep i) (el i) d'.shelf) ∙ (λ i. departed n delay (e i) (all i) x)
