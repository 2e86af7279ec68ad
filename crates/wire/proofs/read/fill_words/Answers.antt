use Rattle.std.proofs.Common.{take, Ok, Err, sym, ◌∙◌, arith}
use Rattle.std.proofs.lemmas.List.{length-take-le, take_more_set, take_all}
use Rattle.std.proofs.lemmas.Result.{err_from_is_err_and}
use Rattle.wire.specs.Layout.{kind_count, kind_allows}
use Rattle.wire.proofs.Filled.{one_turn, all_read, left_over}
use Rattle.wire.proofs.read.fill_words.Goals as goal

pub returns-in_err-words : goal.returns-in_err-words
returns-in_err-words g c =
    let p = err_from_is_err_and c.from_residual.result c.from_residual.ensures.1 in
    let l = length-take-le c.loop-n.n c.loop-n.words (omega arith) in
    let t = one_turn (kind_allows g.B.Body.allows c.args.kind) (kind_count g.B.Body.count c.args.kind) (take c.loop-n.n c.loop-n.words) c.args.bytes.now
    (λ z. omega (arith, l)) (Err c.in_err-words.field-0.0) (sym c.in_err-words.was ∙ c.next_word.ensures) in
    rw (p.1, p.2) (c.loop-n.invariant ∙ t)

pub loop-n-preserved : goal.loop-n-preserved
loop-n-preserved g c =
    let l = length-take-le c.loop-n.n c.loop-n.words (omega arith) in
    let t = one_turn (kind_allows g.B.Body.allows c.args.kind) (kind_count g.B.Body.count c.args.kind) (take c.loop-n.n c.loop-n.words) c.args.bytes.now
    (λ z. omega (arith, l)) (Ok c.in_ok-words.field-0) (sym c.in_ok-words.was ∙ c.next_word.ensures) in
    rw (take_more_set c.loop-n.words c.loop-n.n c.in_ok-words.field-0 (omega arith)) (c.loop-n.invariant ∙ t)

pub returns-then-bytes-byte : goal.returns-then-bytes-byte
returns-then-bytes-byte g c =
    rw (take_all c.loop-n.n c.loop-n.words (omega arith)) at c.loop-n.invariant ∙
    left_over (kind_allows g.B.Body.allows c.args.kind) (kind_count g.B.Body.count c.args.kind) c.loop-n.words c.args.bytes.now (omega arith) (omega arith)

pub returns : goal.returns
returns g c =
    rw (take_all c.loop-n.n c.loop-n.words (omega arith)) at c.loop-n.invariant ∙
    all_read (kind_allows g.B.Body.allows c.args.kind) (kind_count g.B.Body.count c.args.kind) c.loop-n.words c.args.bytes.now (omega arith) (omega arith)
