-- What a printer's table means.
use Rattle.std.specs.Prelude.{ℕ, false, cond, nat_lt, slice_index_or}
use Rattle.roles.specs.Configurations.{Conf, conf_of, opening_conf}
use Rattle.backlog.specs.Holdings.{Holding, holding_of, nothing_held}
use Rattle.table.specs.declared.duty.Duty.{Duty}
use Rattle.table.specs.declared.duty.PrinterState.TheVariants.{Active}
use Rattle.table.specs.declared.table.Clocks.{Clocks}
use Rattle.table.specs.declared.table.PrinterTable.{PrinterTable}

-- a printer's own clock, the one it posted last, and those heard
pub record Hearing : Type 0 where
  pub own : ℕ
  pub posted : ℕ
  pub heard : ℕ → ℕ

pub record Printer : Type 0 where
  pub clocks : Hearing
  pub duty : Duty
  pub conf : Conf
  pub holding : Holding
  pub length : ℕ

abbrev pub hearing_of : Clocks → Hearing
hearing_of k = record { own = k.own.0; posted = k.posted.0; heard = λ a. (slice_index_or k.heard a (record { 0 = 0 })).0 }

abbrev pub printer_of : PrinterTable → Printer
printer_of t = record {
  clocks = hearing_of t.clocks;
  duty = t.duty;
  conf = conf_of t.configuration;
  holding = holding_of t.backlog;
  length = t.length;
}

-- all clocks at the start
abbrev pub opening_clocks : ℕ → Hearing
opening_clocks start = record { own = start; posted = start; heard = λ a. cond (nat_lt a 8) start 0 }

-- active, its own sequencer under role number 0; nothing held and nothing owed
abbrev pub opening : ℕ → ℕ → Printer
opening me start = record {
  clocks = opening_clocks start;
  duty = record { state = Active; sequencer = (me, record { 0 = 0 }); owes = false; turn = 0 };
  conf = opening_conf;
  holding = nothing_held;
  length = 0;
}
