use Rattle.std.proofs.Common.{◌<◌, length, get_or, ap, ◌∙◌, arith}
use Rattle.std.proofs.lemmas.Bool.Decides.{nat_tests}
use Rattle.std.proofs.lemmas.List.{get_or_default}
use Rattle.transport.specs.Tables.{at_pair}
use Rattle.transport.proofs.pairs.PairTable.get.Goals as goal

pub returns : goal.returns
unfolding at_pair
returns g c =
    let xs = c.args.self.now.places in
    let f = c.args.self.now.full in
    let l : c.place-at.result < length xs = let e = c.place-at.ensures in let s = c.args.sender.ok in let r = c.args.receiver.ok in grind (arith, nat_tests) in
    λ none. get_or_default xs c.place-at.result c.index-self-at.result none l ∙ ap (λ k. get_or xs k none) c.place-at.ensures
