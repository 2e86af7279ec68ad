-- The bounds that a table keeps, as facts about the printer that it means.
use Rattle.std.proofs.Common.{◌≡◌, ℕ, ◌≤◌, true}
use Rattle.std.proofs.lemmas.Bool.{leb-true}
use Rattle.table.specs.Printers.{Printer, printer_of}
use Rattle.table.specs.declared.table.PrinterTable.{PrinterTable}

-- under the names of a table's ghost fields
abbrev pub Sound : ℕ → Printer → Type 0
Sound me p = record {
  length_ok : p.length ≤ 65536;
  sequencer_ok : p.duty.sequencer.0 ≤ 7;
  turn_ok : p.duty.turn ≤ 8;
  roles_ok : (a : ℕ) → (p.conf a).role.0 ≤ p.length;
  messages_ok : (x : ℕ) → (p.holding.messages x).passed ≤ p.length;
  tickets_ok : (b : ℕ) → (p.holding.tickets b).passed ≤ p.length;
  own_ok : (p.holding.messages me).count ≤ 7;
  owes_ok : p.duty.owes ≡ true → 1 ≤ (p.holding.messages me).count;
}

pub sound : (t : PrinterTable) → Sound t.me.value (printer_of t)
sound t = record {
  length_ok = t.length_ok;
  sequencer_ok = t.sequencer_ok;
  turn_ok = t.turn_ok;
  roles_ok = t.roles_ok;
  messages_ok = t.messages_ok;
  tickets_ok = t.tickets_ok;
  own_ok = t.own_ok;
  owes_ok = t.owes_ok;
}

pub number_small : (t : PrinterTable) → t.me.value ≤ 7
number_small t = leb-true t.me.value 7 t.me.ok
