use Rattle.std.proofs.Common.{[], None, Some, arith, refl}
use Rattle.std.proofs.lemmas.List.Folds.{fold_stuck}
use Rattle.dump.specs.Hex.{digits_step}
use Rattle.dump.proofs.hex.digits_of.Goals as goal

pub returns-in_err-take_char : goal.returns-in_err-take_char
returns-in_err-take_char c =
    grind (arith, fold_stuck digits_step None (λ _. refl) (Some []) c.args.text.now c.loop-c.c-index 0)
