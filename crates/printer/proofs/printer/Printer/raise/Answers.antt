use Rattle.printer.proofs.printer.Printer.raise.Goals as goal

pub returns-clause-net : goal.returns-clause-net
returns-clause-net g c = rw (c.make.ensures.net, c.next_message-sequencer.ensures.answer)
