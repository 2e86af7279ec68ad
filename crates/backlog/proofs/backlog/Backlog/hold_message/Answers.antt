use Rattle.std.proofs.Common.{◌%◌, arith}
use Rattle.std.proofs.lemmas.Bool.{leb-true}
use Rattle.backlog.specs.Blanks.{no_held}
use Rattle.backlog.specs.Holdings.{stored}
use Rattle.backlog.proofs.Changes.{messages_changed}
use Rattle.backlog.proofs.backlog.Backlog.hold_message.Goals as goal

pub returns : goal.returns
returns c =
    messages_changed c.args.self.now _ c.args.sender.value _ c.store.new.self (λ r. stored r (c.args.number.0 % 8) c.args.message)
    c.index.ensures (omega (arith, leb-true)) (c.store.ensures no_held)
