use Rattle.std.proofs.Common.{is_ok, sym, ap, ◌∙◌}
use Rattle.std.proofs.lemmas.Result.{err_from_is_err_and}
use Rattle.std.proofs.lemmas.Bool.{cond-false}
use Rattle.transport.specs.Nets.{after_post}
use Rattle.printer.proofs.PostLaws.{frame_from_self, refused_same}
use Rattle.printer.proofs.posting.post.Goals as goal

pub returns-in_err-post-clause-net : goal.returns-in_err-post-clause-net
returns-in_err-post-clause-net g c =
    let refused = err_from_is_err_and c.from_residual.result c.from_residual.ensures.1 in
    c.post.ensures.after ∙
    (refused_same _ _ c.in_err-post.field-0.0 (sym c.in_err-post.was ∙ c.post.ensures.answer) ∙ sym (cond-false _ _ _ (ap is_ok refused.1)))

pub returns-clause-net : goal.returns-clause-net
returns-clause-net g c = c.post.ensures.after ∙ ap (after_post (g.T.Transport.meaning c.args.transport.now)) (frame_from_self _)
