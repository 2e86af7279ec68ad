use Rattle.std.proofs.Common.{sym, ap}
use Rattle.std.specs.Option.{ok_or}
use Rattle.body.specs.Faults.{unfit}
use Rattle.frame.proofs.Parts.{payload_of_self}
use Rattle.frame.proofs.payload.Payload.new.Goals as goal

pub returns-then-in_range : goal.returns-then-in_range
returns-then-in_range g c = ap (λ o. ok_or o unfit) (sym (payload_of_self _))
