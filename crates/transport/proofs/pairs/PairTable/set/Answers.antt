use Rattle.std.proofs.Common.{◌<◌, get_or, set, ◌+◌, ◌*◌, ap, ◌∙◌, arith}
use Rattle.std.proofs.lemmas.Bool.Decides.{nat_tests}
use Rattle.transport.specs.Tables.{at_pair}
use Rattle.transport.proofs.TableLaws.{written}
use Rattle.transport.proofs.pairs.PairTable.set.Goals as goal

pub returns : goal.returns
unfolding at_pair
returns g c =
    let t = c.args.self.now in
    let s8 : c.args.sender.value < 8 = let e = c.args.sender.ok in grind (arith, nat_tests) in
    let r8 : c.args.receiver.value < 8 = let e = c.args.receiver.ok in grind (arith, nat_tests) in
    λ none i j h.
    ap (λ k. get_or (set t.places k c.args.value) (i * 8 + j) none) c.place.ensures ∙
    written t.places none c.args.value c.args.sender.value c.args.receiver.value t.full s8 r8 i j h
