use Rattle.std.proofs.Common.{◌+◌, ◌%◌, ◌<◌, length, arith}
use Rattle.roles.proofs.Functions.{array_put}
use Rattle.backlog.proofs.rows.Row.store.Goals as goal

pub returns : goal.returns
returns g c =
    let slots = c.args.self.now.slots in
    let place : c.args.k % g.row.N < length slots = omega arith in
    λ d i. record { passed = c.args.self.now.passed; count = c.args.self.now.count + 1; slot = array_put slots (c.args.k % g.row.N) c.args.thing d place i }
