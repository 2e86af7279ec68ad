-- Every record changes the configuration as it changes the one that the list gives.
use Rattle.std.proofs.Common.{◌≡◌, ℕ, zero, suc, ◌+◌, ◌-◌, ◌<◌, List, [], ◌∷◌, length, take, sym, refl, ap, ◌∙◌, subst, add-one, arith}
use Rattle.roles.specs.Configurations.{Conf, changed}
use Rattle.roles.specs.declared.RecordKind.{RecordKind}
use Rattle.roles.specs.declared.RecordKind.TheVariants.{Gone}
use Rattle.backlog.specs.Tickets.{tickets_held}
use Rattle.backlog.specs.declared.Ticket.{Ticket}
use Rattle.table.specs.Departures.{departed, left_by}
use Rattle.table.specs.Desks.{Desk, pass_one, pass_all}
use Rattle.table.specs.Given.{changed_by, given_by, Given}
use Rattle.table.specs.Records.{modify}
use Rattle.table.specs.declared.passing.Heed.{Heed}
use Rattle.table.specs.declared.passing.Heed.TheVariants.{Nothing}
use Rattle.table.specs.declared.records.Record.{Record}
use Rattle.table.proofs.GrownLaws.{grown_all}
use Rattle.table.proofs.Passings.{passing_keeps}
use Rattle.table.proofs.Leavings.{next_there, room_left}

module _ {R : Type 0} (n : ℕ) where
  -- one record more, of this kind and printer, at the end of what counts
  written_next : (c : Conf) (list : List (Record R)) (i : ℕ) (f : Record R → Record R) (k : RecordKind) (x : ℕ) →
      ((r : Record R) → (f r).kind ≡ k) → ((r : Record R) → (f r).printer ≡ x) → i < length list →
      changed n (changed_by n c (take i list)) k x ≡ changed_by n c (take (suc i) (modify list i f))
  written_next c [] i f k x p q l = absurd (let z : i < 0 = l in omega arith)
  written_next c (r ∷ rest) zero f k x p q l = sym (λ j. changed n c (p r j) (q r j))
  written_next c (r ∷ rest) (suc i) f k x p q l = written_next (changed n c r.kind r.printer) rest i f k x p q (omega arith)

  -- a desk whose list has one record more
  given_next : (d d' : Desk R) (f : Record R → Record R) (k : RecordKind) (x : ℕ) →
      ((r : Record R) → (f r).kind ≡ k) → ((r : Record R) → (f r).printer ≡ x) → d.printer.length < length d.list →
      d'.printer.length ≡ d.printer.length + 1 → d'.printer.conf ≡ changed n d.printer.conf k x → d'.list ≡ modify d.list d.printer.length f →
      Given n d → Given n d'
  given_next d d' f k x p q l el ec eli g =
      ec ∙ (ap (λ c. changed n c k x) g ∙ (written_next _ d.list d.printer.length f k x p q l ∙
      sym (λ j. given_by n (take (len j) (eli j)))))
    where
      len : d'.printer.length ≡ suc d.printer.length
      len = el ∙ add-one d.printer.length

  pub given_passed : (delay : ℕ → ℕ) (me : ℕ) (d : Desk R) (t : Ticket) → d.printer.length < length d.list → Given n d →
      Given n (pass_one n delay me d t)
  given_passed delay me d t l g = given_next d (pass_one n delay me d t) _ _ t.sender (λ r. refl) (λ r. refl) l refl refl refl g

  pub given_departed : (delay : ℕ → ℕ) (me : ℕ) (d : Desk R) (x : ℕ) → d.printer.length < length d.list → Given n d →
      Given n (departed n delay me d x)
  given_departed delay me d x l g = given_next d (departed n delay me d x) _ Gone x (λ r. refl) (λ r. refl) l refl refl refl g

  -- passing on keeps the configuration the one that the list gives
  pub given_all : (heed : Heed) (delay : ℕ → ℕ) (me : ℕ) (d : Desk R) → Given n d → Given n (pass_all heed n delay me d)
  given_all heed delay me d g =
      passing_keeps heed n delay me (Given n) (λ e t found. given_passed delay me e t (next_there heed n me e.printer (length e.list) t found).2)
      (length d.list - d.printer.length) d g

  -- and so does a departure after it
  pub given_left : (delay : ℕ → ℕ) (me : ℕ) (d : Desk R) (x : ℕ) →
      d.printer.length + tickets_held n d.printer.holding < length d.list → Given n d → Given n (left_by n delay me d x)
  given_left delay me d x room g =
      let e = pass_all Nothing n delay me d in
      let l = room_left Nothing n delay me d e (length d.list) refl room in
      given_departed delay me e x (subst (λ (m : ℕ). e.printer.length < m) (sym (grown_all Nothing n delay me d).places) l)
      (given_all Nothing delay me d g)
