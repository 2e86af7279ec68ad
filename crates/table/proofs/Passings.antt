-- Passing on, step by step: it goes on as long as there is a next ticket, and then nothing is left to pass on.
use Rattle.std.proofs.Common.{◌≡◌, ℕ, zero, suc, ◌+◌, ◌-◌, ◌<◌, length, Some, None, Option, sym, refl, ap, ◌∙◌, arith}
use Rattle.backlog.specs.declared.Ticket.{Ticket}
use Rattle.table.specs.Desks.{Desk, next_to_pass, pass_one, pass_next, passing, pass_all, Stuck}
use Rattle.table.specs.declared.passing.Heed.{Heed}
use Rattle.table.proofs.RecordLaws.{modify_length}

module _ {R : Type 0} (heed : Heed) (n : ℕ) (delay : ℕ → ℕ) (me : ℕ) where
  abbrev pub next_of : Desk R → Option Ticket
  next_of d = next_to_pass heed n me d.printer (length d.list)

  -- what each ticket that is passed on keeps, passing on keeps
  pub passing_keeps : (Good : Desk R → Type 0) → ((d : Desk R) (t : Ticket) → next_of d ≡ Some t → Good d → Good (pass_one n delay me d t)) →
      (j : ℕ) (d : Desk R) → Good d → Good (passing j heed n delay me d)
  unfolding passing
  passing_keeps Good step zero d g = g
  passing_keeps Good step (suc j) d g = by (next_of d) refl (λ t. passing_keeps Good step j (pass_one n delay me d t))
    where
      by : (o : Option Ticket) → next_of d ≡ o → ((t : Ticket) → Good (pass_one n delay me d t) → Good (passing j heed n delay me (pass_one n delay me d t))) →
          Good (pass_next o (λ t. passing j heed n delay me (pass_one n delay me d t)) d)
      by None e ih = g
      by (Some t) e ih = ih t (step d t e g)

  pub pass_stops : (d : Desk R) → next_of d ≡ None → pass_all heed n delay me d ≡ d
  unfolding passing
  pass_stops d e = by (length d.list - d.printer.length)
    where
      by : (j : ℕ) → passing j heed n delay me d ≡ d
      by zero = refl
      by (suc j) = ap (λ o. pass_next o (λ t. passing j heed n delay me (pass_one n delay me d t)) d) e

  pub pass_goes_on : (d : Desk R) (t : Ticket) → d.printer.length < length d.list → next_of d ≡ Some t →
      pass_all heed n delay me d ≡ pass_all heed n delay me (pass_one n delay me d t)
  unfolding passing
  pass_goes_on d t room e =
      let f : length d.list - d.printer.length ≡ suc (length d.list - (d.printer.length + 1)) = omega arith in
      ap (λ j. passing j heed n delay me d) f ∙
      (ap (λ o. pass_next o (λ u. passing (length d.list - (d.printer.length + 1)) heed n delay me (pass_one n delay me d u)) d) e ∙
      ap (λ m. passing (m - (d.printer.length + 1)) heed n delay me (pass_one n delay me d t)) (sym (modify_length d.list d.printer.length _)))

  -- a loop that has come from `start` to d, at the printer m that `me` names
  pub pass_again : (m : ℕ) (start d d' : Desk R) (t : Ticket) → m ≡ me → d.printer.length < length d.list →
      Some t ≡ next_to_pass heed n m d.printer (length d.list) → d' ≡ pass_one n delay m d t →
      pass_all heed n delay me d ≡ pass_all heed n delay me start → pass_all heed n delay me d' ≡ pass_all heed n delay me start
  pass_again m start d d' t e room found step so_far =
      ap (pass_all heed n delay me) (step ∙ ap (λ x. pass_one n delay x d t) e) ∙
      (sym (pass_goes_on d t room (sym (found ∙ ap (λ x. next_to_pass heed n x d.printer (length d.list)) e))) ∙ so_far)

  pub pass_ends : (m : ℕ) (start d : Desk R) → m ≡ me → None ≡ next_to_pass heed n m d.printer (length d.list) →
      pass_all heed n delay me d ≡ pass_all heed n delay me start → (d ≡ pass_all heed n delay me start) × Stuck heed n me d
  pass_ends m start d e none so_far =
      let stuck = sym (none ∙ ap (λ x. next_to_pass heed n x d.printer (length d.list)) e) in
      (sym (pass_stops d stuck) ∙ so_far, stuck)
