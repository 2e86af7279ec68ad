use Rattle.std.proofs.Common.{◌+◌, ◌<◌, length, vec_items, ap, ◌∙◌, arith}
use Rattle.transport.specs.Circles.{around}
use Rattle.ring.specs.Circles.{empty_circle}
use Rattle.ring.specs.Rings.{cell}
use Rattle.ring.proofs.Steps.{ring_pushed}
use Rattle.ring.proofs.ring.RingTransport.push.Goals as goal

pub returns : goal.returns
returns g c =
    let t = c.args.self.now in
    let s = c.args.sender.value in
    let d = c.args.receiver.value in
    let e = c.get-start.ensures empty_circle in
    let at = c.cell_index-at.ensures.value ∙
    ap (cell t.members.size t.limit s d) (c.place_after-place.ensures.value ∙ ap (λ x. around t.limit x.start x.held) e) in
    let l : c.cell_index-at.result < length (vec_items t.cells) = let w = c.cell_index-at.ensures.within in let o = t.cells.ok.0 in omega arith in
    ring_pushed g.B.Body.remade t.members t.limit t.circles (vec_items t.cells) c.set.new.self _ s d c.cell_index-at.result c.args.row
    c.requires.reached t.circles_ok c.requires.has_room (ap (λ x. x.start) e) (ap (λ x. x.held + 1) e) at l (c.set.ensures empty_circle)
