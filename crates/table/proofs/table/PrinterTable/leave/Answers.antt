use Rattle.std.proofs.Common.{length, sym, ap, ◌∙◌, subst, arith}
use Rattle.frame.specs.declared.PrinterNumber.{PrinterNumber}
use Rattle.roles.specs.Nearest.{delay_in}
use Rattle.table.specs.Desks.{desk}
use Rattle.table.specs.Given.{Given}
use Rattle.table.specs.Grown.{Grown}
use Rattle.table.specs.Printers.{printer_of}
use Rattle.table.specs.declared.passing.Heed.TheVariants.{Nothing}
use Rattle.table.proofs.GivenLaws.{given_left}
use Rattle.table.proofs.GrownLaws.{grown_left}
use Rattle.table.proofs.Leavings.{room_left, left_after}
use Rattle.table.proofs.table.PrinterTable.leave.Goals as goal

pub write_record-requires : goal.write_record-requires
write_record-requires g c =
    let room = room_left Nothing (length c.args.delays.now.row.now) (delay_in c.args.delays.now.row.now) c.args.self.now.me.value
    (desk (printer_of c.args.self.now) c.args.list.now c.args.shelf.now) _ (length c.args.list.now) c.pass_on.ensures.after c.requires.room in
    omega arith

pub depart-requires : goal.depart-requires
depart-requires g c =
    let room = room_left Nothing (length c.args.delays.now.row.now) (delay_in c.args.delays.now.row.now) c.args.self.now.me.value
    (desk (printer_of c.args.self.now) c.args.list.now c.args.shelf.now) _ (length c.args.list.now) c.pass_on.ensures.after c.requires.room in
    omega arith

pub returns : goal.returns
returns g c =
    let n = length c.args.delays.now.row.now in
    let d = desk (printer_of c.args.self.now) c.args.list.now c.args.shelf.now in
    let a = left_after n (delay_in c.args.delays.now.row.now) c.args.self.now.me.value c.pass_on.new.self.me.value
    d (desk (printer_of c.pass_on.new.self) c.pass_on.new.list c.args.shelf.now) c.args.leaver.value _ _
    (ap (λ (p : PrinterNumber). p.value) c.pass_on.ensures.me) c.pass_on.ensures.after c.depart.ensures.table c.write_record.ensures in
    record {
      after = a;
      me = c.depart.ensures.me ∙ c.pass_on.ensures.me;
      grows = subst (Grown d) (sym a) (grown_left n _ _ d c.args.leaver.value);
      given = λ f. subst (Given n) (sym a) (given_left n _ _ d c.args.leaver.value c.requires.room f);
    }
