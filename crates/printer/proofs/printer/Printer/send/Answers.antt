use Rattle.printer.proofs.printer.Printer.send.Goals as goal

pub returns-clause-net : goal.returns-clause-net
returns-clause-net g c = rw (c.in_ok-make.ensures.net, c.next_message-sequencer.ensures.answer)
