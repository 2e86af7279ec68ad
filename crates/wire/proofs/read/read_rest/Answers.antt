use mir.Facts.{Fits-lt-pow}
use Rattle.wire.proofs.Readings.{rest_there, rest_read}
use Rattle.wire.proofs.read.read_rest.Goals as goal

pub unwrap-requires : goal.unwrap-requires
unwrap-requires g c =
    let law = g.met.B.Body in
    rest_there g.B.Body.words g.B.Body.allows g.B.Body.count g.B.Body.rebuilt
    law.counted law.ranged law.written law.rebuilding
    c.args.kind c.args.bytes.now c.fill_words.new.words c.frame_from_words.result (λ i. Fits-lt-pow (c.type_inv.bytes i))
    c.in_ok-fill_words.ensures c.frame_from_words.ensures

pub returns : goal.returns
returns g c =
    let law = g.met.B.Body in
    rest_read g.B.Body.words g.B.Body.allows g.B.Body.count g.B.Body.rebuilt
    law.counted law.ranged law.written law.rebuilding
    c.args.kind c.args.bytes.now c.fill_words.new.words c.frame_from_words.result (λ i. Fits-lt-pow (c.type_inv.bytes i))
    c.in_ok-fill_words.ensures c.frame_from_words.ensures c.unwrap.result c.unwrap.ensures
