use Rattle.order.proofs.Worked.{examples}
use Rattle.order.proofs.examples_stand.Goals as goal

pub returns : goal.returns
returns c = examples
