use Rattle.std.proofs.Common.{sym, refl, ap, ◌∙◌, rules}
use borrow.Author.Tests.{tests}
use Rattle.std.specs.Option.{option_map}
use Rattle.roles.specs.Configurations.{conf_of, remains}
use Rattle.roles.proofs.Ranges.{find_back_below}
use Rattle.roles.proofs.seats.Configuration.highest_remaining.Goals as goal

pub returns-in_err-value : goal.returns-in_err-value
returns-in_err-value c =
    ap (option_map _) c.from_residual.ensures ∙ sym c.in_err-value.was
    ∙ find_back_below c.args.count.value (λ a. remains (conf_of c.args.self.now a).rank) _ _ refl refl (λ x b q k. search (rules, tests)) _ _ c.rev.ensures.runs c.find.ensures.runs

pub returns : goal.returns
returns c =
    sym c.in_ok-value.was
    ∙ find_back_below c.args.count.value (λ a. remains (conf_of c.args.self.now a).rank) _ _ refl refl (λ x b q k. search (rules, tests)) _ _ c.rev.ensures.runs c.find.ensures.runs
