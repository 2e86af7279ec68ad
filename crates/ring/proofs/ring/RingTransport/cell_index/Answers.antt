use Rattle.std.proofs.Common.{rules, arith}
use Rattle.ring.proofs.Steps.{cell_below}
use Rattle.ring.proofs.ring.RingTransport.cell_index.Goals as goal

pub overflow_mul-result-2 : goal.overflow_mul-result-2
overflow_mul-result-2 g c =
    let h = cell_below c.requires.sender_there c.requires.receiver_there c.requires.place_there in
    search rules

pub overflow_add-result-2 : goal.overflow_add-result-2
overflow_add-result-2 g c =
    let h = cell_below c.requires.sender_there c.requires.receiver_there c.requires.place_there in
    search rules

pub returns-clause-within : goal.returns-clause-within
returns-clause-within g c =
    let h = cell_below c.requires.sender_there c.requires.receiver_there c.requires.place_there in
    let l = c.args.self.now.cells_ok in
    rw (c.size.ensures) (omega arith)
