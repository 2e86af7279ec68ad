use Rattle.std.proofs.Common.{sym, ap, ◌∙◌}
use Rattle.std.specs.Option.{ok_or}
use Rattle.body.specs.Faults.{unfit}
use Rattle.body.specs.Changes.{change_with}
use Rattle.body.specs.ChangesLemmas.{change_with_self}
use Rattle.body.proofs.OkOr.{given_of_ok}
use Rattle.body.proofs.change.TemplateChange.new.Goals as goal

pub returns : goal.returns
returns c =
    ap (λ o. ok_or o unfit) (sym (change_with_self _)) ∙
    ap (λ k. ok_or (change_with k c.args.template c.args.field c.args.value) unfit) (sym (given_of_ok _ _ _ c.in_ok-what.ensures))
