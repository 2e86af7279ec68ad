use Rattle.std.proofs.Common.{arith}
use Rattle.std.proofs.lemmas.Bool.{leb-true}
use Rattle.backlog.specs.Blanks.{no_held}
use Rattle.backlog.specs.Holdings.{dropped}
use Rattle.backlog.proofs.Changes.{messages_changed}
use Rattle.backlog.proofs.backlog.Backlog.drop_messages.Goals as goal

pub returns : goal.returns
returns c =
    messages_changed c.args.self.now _ c.args.sender.value _ c.clear.new.self dropped c.index.ensures (omega (arith, leb-true)) (c.clear.ensures no_held)
