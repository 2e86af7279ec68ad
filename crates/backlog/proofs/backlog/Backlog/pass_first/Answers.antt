use Rattle.std.proofs.Common.{ap, ◌∙◌, arith}
use Rattle.std.proofs.lemmas.Bool.{leb-true}
use Rattle.roles.specs.Functions.{put}
use Rattle.backlog.specs.Blanks.{no_held, no_stub}
use Rattle.backlog.specs.Holdings.{popped, with_tickets}
use Rattle.backlog.proofs.Changes.{messages_changed, tickets_changed}
use Rattle.backlog.proofs.backlog.Backlog.pass_first.Goals as goal

pub returns : goal.returns
returns c =
    let m = messages_changed c.args.self.now _ c.args.sender.value _ c.pop.new.self popped c.index.ensures (omega (arith, leb-true)) (c.pop.ensures no_held) in
    let t = tickets_changed _ _ c.args.issuer.value _ c.pop-2.new.self popped c.index-2.ensures (omega (arith, leb-true)) (c.pop-2.ensures no_stub) in
    t ∙ ap (λ h. with_tickets h (put h.tickets c.args.issuer.value (popped (h.tickets c.args.issuer.value)))) m
