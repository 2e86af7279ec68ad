use Rattle.std.proofs.Common.{◌+◌, ◌*◌}
use Rattle.transport.specs.Tables.{at_pair}
use Rattle.transport.proofs.TableLaws.{same_everywhere}
use Rattle.transport.proofs.pairs.PairTable.filled.Goals as goal

pub returns : goal.returns
unfolding at_pair
returns g c = λ i j. same_everywhere 64 (i * 8 + j) c.args.value
