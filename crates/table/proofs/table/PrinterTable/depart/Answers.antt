use Rattle.std.proofs.Common.{◌≡◌, ◌+◌, length, sym, refl, ap, ◌∙◌, subst}
use Rattle.roles.specs.Configurations.{conf_of, changed}
use Rattle.roles.specs.declared.RecordKind.TheVariants.{Gone}
use Rattle.roles.specs.Nearest.{delay_in}
use Rattle.backlog.specs.Holdings.{holding_of}
use Rattle.table.specs.Departures.{bereft}
use Rattle.table.specs.Printers.{Printer, printer_of, hearing_of}
use Rattle.table.proofs.Leavings.{bereaved, bereft_sound}
use Rattle.table.proofs.Sound.{Sound, sound, number_small}
use Rattle.table.proofs.table.PrinterTable.depart.Goals as goal
use Rattle.table.proofs.table.PrinterTable.depart.Goals.{After-rule, at-returns}

abbrev after : goal.After-rule → Printer
after c = record {
  clocks = hearing_of c.args.self.now.clocks;
  duty = c.rule.new.self;
  conf = conf_of c.record.new.self;
  holding = holding_of c.take_over.new.backlog;
  length = c.args.self.now.length + 1;
}

is-after : (c : goal.After-rule) → after c ≡
    bereft (length c.args.delays.now.row.now) (delay_in c.args.delays.now.row.now) c.args.self.now.me.value (printer_of c.args.self.now) c.args.leaver.value
is-after c =
    let t = c.args.self.now in
    let n = length c.args.delays.now.row.now in
    let k = c.record.ensures ∙ ap (λ m. changed m (conf_of t.configuration) Gone c.args.leaver.value) c.count.ensures in
    bereaved n (delay_in c.args.delays.now.row.now) t.me.value (printer_of t) c.args.leaver.value
    c.is_active-was_active.result (conf_of c.record.new.self) c.promotion-promotion.result (holding_of c.drop_messages.new.self)
    (holding_of c.take_over.new.backlog) c.promote.new.self c.rule.new.self _
    c.is_active-was_active.ensures k c.promotion-promotion.ensures c.drop_messages.ensures c.take_over.ensures c.promote.ensures c.messages_held-undelivered.ensures c.rule.ensures

pub invariant_of-self : goal.invariant_of-self
invariant_of-self c =
    let t = c.args.self.now in
    subst (Sound t.me.value) (sym (is-after c))
    (bereft_sound (length c.args.delays.now.row.now) (delay_in c.args.delays.now.row.now) t.me.value (printer_of t) c.args.leaver.value c.args.delays.now.few (number_small t) c.requires (sound t))

pub returns : goal.returns
returns c = record { table = is-after (at-returns c).After-rule; me = refl }
