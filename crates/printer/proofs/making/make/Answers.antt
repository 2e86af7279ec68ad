use Rattle.std.proofs.Common.{◌≡◌, Err, refl, ap, ◌∙◌, arith}
use Rattle.std.proofs.lemmas.Result.{err_from_is_err_and}
use Rattle.table.specs.Printers.{printer_of}
use Rattle.printer.specs.Making.{undelivered, make_refusal, held_own, made}
use Rattle.printer.proofs.PostLaws.{refused_unless}
use Rattle.printer.proofs.making.make.Goals as goal

pub returns-in_err-may_make-clause-answer : goal.returns-in_err-may_make-clause-answer
returns-in_err-may_make-clause-answer g c =
    let t = c.args.table.now in
    let p = err_from_is_err_and c.from_residual.result c.from_residual.ensures.1 in
    p.1 ∙ (ap Err p.2 ∙ refused_unless t.me.value (make_refusal c.args.kind t.me.value (printer_of t)) _ _ c.in_err-may_make.ensures.answer)

pub hold_own-requires : goal.hold_own-requires
hold_own-requires g c =
    let t = c.args.table.now in
    let q = c.post.new.table in
    let p = c.in_ok-post.ensures in
    let same : undelivered q.me.value (printer_of q) ≡ undelivered t.me.value (printer_of t) = λ i. undelivered (p.me i).value (p.table i) in
    let few = c.in_ok-may_make.ensures.few refl in
    omega arith

pub returns-clause-table : goal.returns-clause-table
returns-clause-table g c =
    let t = c.args.table.now in
    let q = c.post.new.table in
    let p = c.in_ok-post.ensures in
    let posted : held_own c.args.kind q.me.value (printer_of q) ≡ made c.args.kind t.me.value (printer_of t) =
    λ i. held_own c.args.kind (p.me i).value (p.table i)
    in
    c.hold_own.ensures.table ∙ posted
