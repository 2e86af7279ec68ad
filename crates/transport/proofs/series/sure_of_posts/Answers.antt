use Rattle.std.proofs.Common.{arith}
use Rattle.std.proofs.lemmas.Bool.Decides.{nat_tests}
use Rattle.transport.proofs.SeriesLaws.{spare_holds}
use Rattle.transport.proofs.series.sure_of_posts.Goals as goal

pub returns : goal.returns
returns g c =
    record {
      sure = λ e.
          let h = c.spare.ensures.bound in
          spare_holds (g.T.Transport.meaning c.args.t.now) c.args.sender c.args.count (grind (arith, nat_tests));
      same = c.spare.ensures.same;
    }
