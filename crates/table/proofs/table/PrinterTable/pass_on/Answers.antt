use Rattle.std.proofs.Common.{length, sym, ap, ◌∙◌, subst, arith}
use Rattle.frame.specs.declared.PrinterNumber.{PrinterNumber}
use Rattle.roles.specs.Nearest.{delay_in}
use Rattle.table.specs.Desks.{desk, next_to_pass}
use Rattle.table.specs.Given.{Given}
use Rattle.table.specs.Grown.{Grown}
use Rattle.table.specs.Printers.{printer_of}
use Rattle.table.proofs.GivenLaws.{given_all}
use Rattle.table.proofs.GrownLaws.{grown_all}
use Rattle.table.proofs.Passings.{pass_again, pass_ends}
use Rattle.table.proofs.table.PrinterTable.pass_on.Goals as goal

pub pass_one-requires : goal.pass_one-requires
pass_one-requires g c =
    let t = c.in-Some.ensures.there in
    record { sender_bound = t.0; issuer_bound = t.1; room = t.2; list_len_bound = omega arith }

pub loop-ticket-preserved : goal.loop-ticket-preserved
loop-ticket-preserved g c =
    let me = ap (λ (p : PrinterNumber). p.value) c.loop-ticket.invariant.0 in
    let next = c.in-Some.ensures.answer ∙
    ap (λ k. next_to_pass c.args.heed k c.loop-ticket.self.me.value (printer_of c.loop-ticket.self) (length c.loop-ticket.list)) c.count.ensures in (
      c.pass_one.ensures.me ∙ c.loop-ticket.invariant.0,
      pass_again c.args.heed (length c.args.delays.now.row.now) (delay_in c.args.delays.now.row.now) c.args.self.now.me.value
          c.loop-ticket.self.me.value _ (desk (printer_of c.loop-ticket.self) c.loop-ticket.list c.args.shelf.now) _ c.in-Some.ticket me
          c.in-Some.ensures.there.2 next c.pass_one.ensures.after c.loop-ticket.invariant.1,
    )

pub returns : goal.returns
returns g c =
    let me = ap (λ (p : PrinterNumber). p.value) c.loop-ticket.invariant.0 in
    let end = pass_ends c.args.heed (length c.args.delays.now.row.now) (delay_in c.args.delays.now.row.now) c.args.self.now.me.value
    c.loop-ticket.self.me.value _ (desk (printer_of c.loop-ticket.self) c.loop-ticket.list c.args.shelf.now) me
    (c.in_default.ensures.answer ∙
    ap (λ k. next_to_pass c.args.heed k c.loop-ticket.self.me.value (printer_of c.loop-ticket.self) (length c.loop-ticket.list)) c.count.ensures)
    c.loop-ticket.invariant.1 in
    record {
      after = end.0;
      me = c.loop-ticket.invariant.0;
      stops = end.1;
      grows = subst (Grown _) (sym end.0) (grown_all c.args.heed (length c.args.delays.now.row.now) _ _ _);
      given = λ f. subst (Given (length c.args.delays.now.row.now)) (sym end.0) (given_all (length c.args.delays.now.row.now) c.args.heed _ _ _ f);
    }
