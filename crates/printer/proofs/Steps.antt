-- Transmitting and taking keep the laws of steps.
use Rattle.std.proofs.Common.{◌≡◌, ℕ, ◌+◌, ◌≤◌, Bool, cond, Some, None, Option, sym, subst, arith}
use Rattle.std.proofs.lemmas.Bool.{cond_both}
use Rattle.frame.specs.declared.Frame.{Frame}
use Rattle.table.specs.Desks.{Desk, desk, pass_all}
use Rattle.table.specs.Given.{Given}
use Rattle.table.specs.Printers.{Hearing}
use Rattle.table.specs.declared.Due.{Due}
use Rattle.table.specs.declared.Due.TheVariants.{Reassignment, Ticket, Clock}
use Rattle.table.specs.declared.Heed.TheVariants as heed
use Rattle.table.proofs.GivenLaws.{given_all}
use Rattle.table.proofs.GrownLaws.{grown_all}
use Rattle.printer.specs.Laws.{Lawful}
use Rattle.printer.specs.Posts.{posted_at}
use Rattle.printer.specs.Taking.{taken, received, shelf_after}
use Rattle.printer.specs.Transmitting.{transmitted, issued}

module _ {R : Type 0} (n : ℕ) where
  pub lawful_none : (d : Desk R) → Lawful n d d
  lawful_none d = record { clock = omega arith; given = λ g. g }

  -- passing on after a step that leaves list and configuration alone
  lawful_passed : (delay : ℕ → ℕ) (me : ℕ) (d e : Desk R) → d.printer.clocks.own ≤ e.printer.clocks.own → (Given n d → Given n e) →
      Lawful n d (pass_all heed.Clocks n delay me e)
  lawful_passed delay me d e l g = record {
    clock = subst (λ (k : Hearing). d.printer.clocks.own ≤ k.own) (sym (grown_all heed.Clocks n delay me e).clocks) l;
    given = λ f. given_all n heed.Clocks delay me e (g f);
  }

  pub lawful_transmitted : (delay : ℕ → ℕ) (me : ℕ) (d : Desk R) (o : Option Due) → Lawful n d (transmitted n delay me d o)
  lawful_transmitted delay me d None = lawful_none d
  lawful_transmitted delay me d (Some Reassignment) = record { clock = omega arith; given = λ g. g }
  lawful_transmitted delay me d (Some (Ticket x k)) =
      lawful_passed delay me d (desk (issued me x k (posted_at (d.printer.clocks.own + 1) d.printer)) d.list d.shelf) (omega arith) (λ g. g)
  lawful_transmitted delay me d (Some Clock) = record { clock = omega arith; given = λ g. g }

  pub lawful_taken : {B : Type 0} (row : B → R) (delay : ℕ → ℕ) (me x : ℕ) (d : Desk R) (o : Option (Frame B)) → Lawful n d (taken row n delay me x d o)
  lawful_taken row delay me x d None = lawful_none d
  lawful_taken row delay me x d (Some f) =
      lawful_passed delay me d (desk (received x f d.printer) d.list (shelf_after row x f d.shelf)) (omega arith) (λ g. g)

  -- a step that is made only if it is accepted
  pub lawful_if : (b : Bool) (d e e' : Desk R) → e' ≡ cond b e d → Lawful n d e → Lawful n d e'
  lawful_if b d e e' h l = subst (Lawful n d) (sym h) (cond_both b e d (Lawful n d) (λ _. l) (λ _. lawful_none d))
