use Rattle.std.proofs.Common.{◌≡◌, ◌+◌, length, sym, refl, ap, ◌∙◌, subst}
use Rattle.roles.specs.Configurations.{conf_of, changed}
use Rattle.roles.specs.Nearest.{delay_in}
use Rattle.backlog.specs.Holdings.{holding_of}
use Rattle.table.specs.Passing.{passed_on}
use Rattle.table.specs.Printers.{Printer, printer_of, hearing_of}
use Rattle.table.proofs.Deliveries.{delivered, passed_sound}
use Rattle.table.proofs.Sound.{Sound, sound, number_small}
use Rattle.table.proofs.table.PrinterTable.deliver.Goals as goal
use Rattle.table.proofs.table.PrinterTable.deliver.Goals.{After-rule, at-returns}

abbrev after : goal.After-rule → Printer
after c = record {
  clocks = hearing_of c.args.self.now.clocks;
  duty = c.rule.new.self;
  conf = conf_of c.record.new.self;
  holding = holding_of c.pass_first.new.self;
  length = c.args.self.now.length + 1;
}

is-after : (c : goal.After-rule) → after c ≡
    passed_on (length c.args.delays.now.row.now) (delay_in c.args.delays.now.row.now) c.args.self.now.me.value (printer_of c.args.self.now) c.args.ticket
is-after c =
    let t = c.args.self.now in
    let recorded = c.record.ensures ∙ ap (λ m. changed m (conf_of t.configuration) c.args.kind c.args.ticket.sender) c.count.ensures in
    delivered (length c.args.delays.now.row.now) (delay_in c.args.delays.now.row.now) t.me.value (printer_of t) c.args.ticket
    c.args.kind (conf_of c.record.new.self) c.record-2.new.self c.rule.new.self
    (holding_of c.pass_first.new.self) _ (length c.args.delays.now.row.now)
    c.requires.kind_value refl recorded c.record-2.ensures c.pass_first.ensures
    c.messages_held-undelivered.ensures c.rule.ensures

pub invariant_of-self : goal.invariant_of-self
invariant_of-self c =
    let t = c.args.self.now in
    subst (Sound t.me.value) (sym (is-after c))
    (passed_sound (length c.args.delays.now.row.now) (delay_in c.args.delays.now.row.now) t.me.value (printer_of t) c.args.ticket c.args.delays.now.few (number_small t) c.requires.length_bound (sound t))

pub returns : goal.returns
returns c = record { table = is-after (at-returns c).After-rule; me = refl }
