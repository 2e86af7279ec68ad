-- Passing on leaves clocks, shelf and what was delivered alone.
use Rattle.std.proofs.Common.{◌≡◌, ℕ, zero, suc, ◌+◌, ◌-◌, ◌≤◌, List, [], ◌∷◌, length, take, refl, ap, ◌∙◌, arith}
use Rattle.table.specs.Departures.{departed, left_by}
use Rattle.table.specs.Desks.{Desk, pass_one, pass_all}
use Rattle.table.specs.Grown.{Grown}
use Rattle.table.specs.Records.{modify}
use Rattle.table.specs.declared.passing.Heed.{Heed}
use Rattle.table.specs.declared.passing.Heed.TheVariants.{Nothing}
use Rattle.table.proofs.Passings.{passing_keeps}
use Rattle.table.proofs.RecordLaws.{modify_length}

-- what stands before a place that is written
take_modify : {A : Type 0} (xs : List A) (m i : ℕ) (f : A → A) → m ≤ i → take m (modify xs i f) ≡ take m xs
take_modify [] m i f l = refl
take_modify (x ∷ xs) zero i f l = refl
take_modify (x ∷ xs) (suc m) zero f l = absurd (let z : suc m ≤ 0 = l in omega arith)
take_modify (x ∷ xs) (suc m) (suc i) f l = ap (λ r. x ∷ r) (take_modify xs m i f (omega arith))

module _ {R : Type 0} where
  pub grown_none : (d : Desk R) → Grown d d
  grown_none d = record { clocks = refl; shelf = refl; places = refl; longer = omega arith; beginning = refl }

  -- one record more
  pub grown_next : (d e e' : Desk R) → e'.printer.clocks ≡ e.printer.clocks → e'.shelf ≡ e.shelf → length e'.list ≡ length e.list →
      e'.printer.length ≡ e.printer.length + 1 → ((m : ℕ) → m ≤ e.printer.length → take m e'.list ≡ take m e.list) → Grown d e → Grown d e'
  grown_next d e e' k s p l b g = record {
    clocks = k ∙ g.clocks;
    shelf = s ∙ g.shelf;
    places = p ∙ g.places;
    longer = let z = g.longer in omega arith;
    beginning = b d.printer.length g.longer ∙ g.beginning;
  }

  pub grown_all : (heed : Heed) (n : ℕ) (delay : ℕ → ℕ) (me : ℕ) (d : Desk R) → Grown d (pass_all heed n delay me d)
  grown_all heed n delay me d =
      passing_keeps heed n delay me (Grown d)
      (λ e t _. grown_next d e (pass_one n delay me e t) refl refl (modify_length e.list e.printer.length _) refl
      (λ m l. take_modify e.list m e.printer.length _ l)) (length d.list - d.printer.length) d (grown_none d)

  pub grown_left : (n : ℕ) (delay : ℕ → ℕ) (me : ℕ) (d : Desk R) (x : ℕ) → Grown d (left_by n delay me d x)
  grown_left n delay me d x =
      let e = pass_all Nothing n delay me d in
      grown_next d e (departed n delay me e x) refl refl (modify_length e.list e.printer.length _) refl
      (λ m l. take_modify e.list m e.printer.length _ l) (grown_all Nothing n delay me d)
