use Rattle.std.proofs.Common.{◌≡◌, ℕ, ◌+◌, ap, ◌∙◌, arith, rules}
use Rattle.frame.specs.declared.Content.TheVariants.{Ticket}
use Rattle.transport.specs.Nets.{after_post}
use Rattle.table.specs.Printers.{Printer, printer_of}
use Rattle.printer.specs.Posts.{frame_from, posted_at}
use Rattle.printer.specs.Transmitting.{issued}
use Rattle.printer.proofs.transmitting.issue.Goals as goal

pub hold_ticket-requires-clause-room : goal.hold_ticket-requires-clause-room
hold_ticket-requires-clause-room g c =
    let t = c.args.table.now in
    let q = c.post.new.table in
    let p = c.in_ok-post.ensures in
    let held = λ (me : ℕ) (r : Printer). (r.holding.tickets me).count in
    let same : held q.me.value (printer_of q) ≡ held t.me.value (printer_of t) = λ i. held (p.me i).value (p.table i) in
    omega (arith, c.requires.2)

pub returns-clause-table : goal.returns-clause-table
returns-clause-table g c =
    let t = c.args.table.now in
    let p = c.in_ok-post.ensures in
    let risen : c.in_ok-clock.clock ≡ t.clocks.own.0 + 1 = search rules in
    c.hold_ticket.ensures.table ∙
    ((λ i. issued (p.me i).value c.args.sender c.args.message (p.table i)) ∙
    ap (λ k. issued t.me.value c.args.sender c.args.message (posted_at k (printer_of t))) risen)

pub returns-clause-net : goal.returns-clause-net
returns-clause-net g c =
    let t = c.args.table.now in
    let net = g.T.Transport.meaning c.args.transport.now in
    let risen : c.in_ok-clock.clock ≡ t.clocks.own.0 + 1 = search rules in
    c.in_ok-post.ensures.net ∙ ap (λ k. after_post net (frame_from t.me.value (record { 0 = k }) (Ticket c.args.sender c.args.message))) risen
