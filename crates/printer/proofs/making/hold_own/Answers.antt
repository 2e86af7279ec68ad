use Rattle.std.proofs.Common.{◌≡◌, sym, refl, ap, ◌∙◌, subst}
use Rattle.roles.specs.Configurations.{conf_of}
use Rattle.backlog.specs.Holdings.{holding_of, hold_message}
use Rattle.table.specs.Printers.{Printer, printer_of, hearing_of}
use Rattle.table.specs.declared.Duty.{Duty}
use Rattle.table.specs.declared.PrinterState.{PrinterState}
use Rattle.table.proofs.Paths.{printer_path}
use Rattle.table.proofs.Sound.{Sound, sound}
use Rattle.printer.specs.Making.{held_own}
use Rattle.printer.proofs.Holds.{held_own_sound}
use Rattle.printer.proofs.making.hold_own.Goals as goal

abbrev duty_in : Duty → PrinterState → Duty
duty_in d s = record { state = s; sequencer = d.sequencer; owes = d.owes; turn = d.turn }

abbrev after : goal.After-hold_message → Printer
after c =
    let t = c.args.table.now in
    record {
      clocks = hearing_of t.clocks;
      duty = duty_in t.duty c.state_made-table.result;
      conf = conf_of t.configuration;
      holding = holding_of c.hold_message.new.self;
      length = t.length;
    }

is-after : (c : goal.After-hold_message) → after c ≡ held_own c.args.kind c.args.table.now.me.value (printer_of c.args.table.now)
is-after c =
    let t = c.args.table.now in
    printer_path _ _ refl (ap (duty_in t.duty) c.state_made-table.ensures) refl
    (c.hold_message.ensures ∙ ap (λ m. hold_message (holding_of t.backlog) t.me.value m.0.0 (record { kind = c.args.kind; assigned = m.1 })) c.next_message.ensures.answer) refl

pub invariant_of-table : goal.invariant_of-table
invariant_of-table c =
    let t = c.args.table.now in
    subst (Sound t.me.value) (sym (is-after c)) (held_own_sound c.args.kind t.me.value (printer_of t) c.requires (sound t))
