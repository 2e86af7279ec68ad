use Rattle.std.proofs.Common.{vec_items, sym, ap, ◌∙◌}
use Rattle.ring.specs.Circles.{empty_circle}
use Rattle.ring.proofs.Steps.{ring_waits}
use Rattle.ring.proofs.ring.RingTransport.waits.Goals as goal

pub returns : goal.returns
returns g c =
    let t = c.args.self.now in
    ap (λ x. x.held) (c.get.ensures empty_circle) ∙
    sym (ring_waits g.B.Body.remade t.members t.limit t.circles (vec_items t.cells) c.args.sender c.args.receiver (sym c.if-not-reaches.ensures))
