use Rattle.std.proofs.Common.{sym, ap, ◌∙◌}
use mir.Facts.{Fits-lt-pow}
use Rattle.body.proofs.OkOr.{given_of_ok}
use Rattle.frame.specs.Kinds.{kind_named, no_such_kind}
use Rattle.wire.proofs.Readings.{reads_rest, reads_exact, word_found}
use Rattle.wire.proofs.read.read_frame.Goals as goal

pub returns : goal.returns
returns g c =
    let law = g.met.B.Body in
    let w = word_found c.args.bytes.now c.in_ok-word.word (sym c.in_ok-word.ensures.ok_part ∙ c.word_at.ensures) in
    let k = given_of_ok (kind_named c.in_ok-word.word) no_such_kind c.in_ok-try_from.field-0 c.in_ok-try_from.ensures in
    let h = reads_rest g.B.Body.words g.B.Body.allows g.B.Body.count g.B.Body.rebuilt
    law.counted law.ranged law.written law.rebuilding
    c.args.bytes.now c.in_ok-try_from.field-0 w.0 (ap kind_named (sym w.1) ∙ k) c.read_rest.result c.read_rest.ensures in
    record {
      reads = h;
      exact =
          reads_exact g.B.Body.words g.B.Body.allows g.B.Body.count g.B.Body.rebuilt
          law.counted law.ranged law.written law.rebuilding
          c.args.bytes.now (λ i. Fits-lt-pow (c.type_inv.bytes i)) c.read_rest.result h;
    }
