use Rattle.sender_log.specs.Behind.{FurtherBehind}
use Rattle.sender_log.proofs.posting.fall_behind.Given as goal

abbrev pub invariant-loop-receiver : goal.invariant-loop-receiver
invariant-loop-receiver l = FurtherBehind l.members l.initial.behinds l.behinds l.sender.value l.receiver
