use Rattle.std.proofs.Common.{◌≡◌, ◌+◌, ◌≤◌, ℕ, IfSome, Some, None, Option, sym, refl, ap, ◌∙◌, subst, rules, arith}
use borrow.Author.Tests.{tests}
use Rattle.std.specs.List.{find, range_with_len}
use Rattle.std.specs.Option.{option_map}
use Rattle.frame.specs.declared.MessageNumber.{MessageNumber}
use Rattle.frame.specs.declared.PrinterNumber.{PrinterNumber}
use Rattle.roles.proofs.Ranges.{find_in_range}
use Rattle.backlog.specs.Holdings.{holding_of}
use Rattle.backlog.specs.Wanted.{wants}
use Rattle.backlog.proofs.Searches.{found_first, found_above}
use Rattle.backlog.proofs.backlog.Backlog.wanted_of.Goals as goal

abbrev told : PrinterNumber × MessageNumber → ℕ × MessageNumber
told m = (m.0.value, m.1)

-- a number that is found, as a message of its sender
module _ (x : PrinterNumber) where
  abbrev of : ℕ → PrinterNumber × MessageNumber
  of m = (x, record { 0 = m })

  both : (o : Option ℕ) → option_map told (option_map of o) ≡ option_map (λ m. told (of m)) o
  both None = refl
  both (Some m) = refl

  from_one : (k : ℕ) (o : Option ℕ) → 1 ≤ k → IfSome o (λ m. k ≤ m) → IfSome (option_map of o) (λ m. 1 ≤ m.1.0)
  from_one k None l h = tt
  from_one k (Some m) l h = omega arith

pub returns : goal.returns
returns c =
    let held = holding_of c.args.self.now in
    let x = c.args.sender in
    let row = held.messages x.value in
    let p = wants c.args.count.value held c.args.to x.value in
    let k = row.passed + 1 in
    let found = find_in_range k row.count p _ _ _ _ c.find.ensures.ran c.numbers.ensures.first c.numbers.ensures.end (λ x b q k. search (rules, tests)) in
    let made : c.map.result ≡ option_map (of x) (find p (range_with_len k row.count)) = search rules ∙ ap (option_map (of x)) found in
    record {
      answer = ap (option_map told) made ∙ both x _ ∙ found_first p (λ m. told (of x m)) row.count k;
      there = subst (λ o. IfSome o (λ m. 1 ≤ m.1.0)) (sym made) (from_one x k _ (omega arith) (found_above p row.count k));
    }
