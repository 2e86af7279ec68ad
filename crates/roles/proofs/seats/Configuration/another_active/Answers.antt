use Rattle.std.proofs.Common.{refl, rules, ◌&&◌, not, ◌==◌}
use borrow.Author.Tests.{tests}
use Rattle.roles.specs.Configurations.{conf_of, is_active}
use Rattle.roles.proofs.Ranges.{any_below_range}
use Rattle.roles.proofs.seats.Configuration.another_active.Goals as goal

pub returns : goal.returns
returns c =
    any_below_range c.args.count.value (λ a. is_active (conf_of c.args.self.now) a && not (a == c.args.printer.value)) _ _ _ _ c.any.ensures.ran refl refl
    (λ x b q k. search (rules, tests))
