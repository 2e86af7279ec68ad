use Rattle.wire.proofs.Readings.{write_back}
use Rattle.wire.proofs.write.write_frame.Goals as goal

pub returns-clause-back : goal.returns-clause-back
returns-clause-back g c =
    let law = g.met.B.Body in
    write_back g.B.Body.words g.B.Body.allows g.B.Body.count g.B.Body.rebuilt
    law.counted law.ranged law.written law.rebuilding
    c.args.frame c.put_words.new.out
    _ c.frame_length-length.result c.put_words.ensures c.frame_length-length.ensures.value
