use Rattle.std.proofs.Common.{sym, ap}
use Rattle.std.specs.Option.{ok_or}
use Rattle.body.specs.Faults.{unfit}
use Rattle.body.specs.ClaimsLemmas.{claim_of_self}
use Rattle.body.proofs.claim.NumberClaim.new.Goals as goal

pub returns-then-claim_fits : goal.returns-then-claim_fits
returns-then-claim_fits c = ap (λ o. ok_or o unfit) (sym (claim_of_self _))
