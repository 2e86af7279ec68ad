use Rattle.std.proofs.Common.{◌≡◌, ◌∙◌, ap, sym, subst, rules, arith}
use borrow.Author.Tests.{tests}
use Rattle.std.proofs.lemmas.Iterator.{YieldsList-from_slice, YieldsList-from_range, YieldsList-from_zip}
use Rattle.std.proofs.lemmas.Iterator.Consumers.{fold_from_yields_List}
use Rattle.backlog.specs.Holdings.{holding_of, ticket_row}
use Rattle.backlog.specs.Tickets.{first_or, first_ticket}
use Rattle.backlog.proofs.TicketLaws.{There, first_ticket_there, first_of_rows}
use Rattle.backlog.proofs.backlog.Backlog.first_ticket.Goals as goal

pub returns : goal.returns
unfolding first_ticket
returns c =
    let held = holding_of c.args.self.now in
    let rows = c.args.self.now.tickets in
    let n = c.args.count.value in
    let chain = YieldsList-from_zip {s = c.zip.result} (YieldsList-from_slice rows (cc)) (YieldsList-from_range 0 n n (cc) (omega arith)) in
    let a : c.fold.result ≡ first_ticket n held =
    fold_from_yields_List _ (λ o p. first_or p.1 (ticket_row p.0) o) _ c.fold.result c.fold.ensures.ran chain (λ o x b q k. search (rules, tests))
    ∙ first_of_rows held rows 0 n (omega arith) (λ i l. ap held.tickets (omega arith)) ∙ ap (λ m. first_ticket m held) (omega arith) in
    record { answer = a; there = subst (There n held) (sym a) (first_ticket_there n held) }
