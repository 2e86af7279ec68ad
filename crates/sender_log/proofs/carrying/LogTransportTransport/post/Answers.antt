use Rattle.std.proofs.Common.{Err, refl, ap, ◌∙◌, rules}
use Rattle.std.proofs.lemmas.Result.{err_from_is_err_and}
use Rattle.transport.proofs.NetLaws.{judged_right, judged_accepts, judged_same}
use Rattle.sender_log.specs.Meaning.{log_meaning}
use Rattle.sender_log.proofs.carrying.LogTransportTransport.post.Goals as goal

pub returns-in_err-judge_post-clause-answer : goal.returns-in_err-judge_post-clause-answer
returns-in_err-judge_post-clause-answer g c =
    let t = c.args.self.now in
    let p = err_from_is_err_and c.from_residual.result c.from_residual.ensures.1 in
    p.1 ∙ (ap Err p.2 ∙ judged_right (log_meaning g.B.Body.remade t) _ _ t.limit_ok (search rules) _ c.in_err-judge_post.ensures)

pub returns-in_err-judge_post-clause-after : goal.returns-in_err-judge_post-clause-after
returns-in_err-judge_post-clause-after g c =
    let t = c.args.self.now in
    judged_same (log_meaning g.B.Body.remade t) _ _ t.limit_ok (search rules) _ refl _ c.in_err-judge_post.ensures

pub append-requires : goal.append-requires
append-requires g c =
    let t = c.args.self.now in
    judged_accepts (log_meaning g.B.Body.remade t) _ _ t.limit_ok (search rules) c.in_ok-judge_post.ensures

pub returns-clause-answer : goal.returns-clause-answer
returns-clause-answer g c =
    let t = c.args.self.now in
    judged_right (log_meaning g.B.Body.remade t) _ _ t.limit_ok (search rules) _ c.in_ok-judge_post.ensures
