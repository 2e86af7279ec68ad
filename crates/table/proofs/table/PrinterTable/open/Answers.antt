use Rattle.std.proofs.Common.{◌≡◌, ℕ, ◌≤◌, sym, refl, subst, arith}
use Rattle.std.proofs.lemmas.Bool.{leb-true, false≢true}
use Rattle.roles.specs.Configurations.{Conf, opening_conf}
use Rattle.backlog.specs.Holdings.{Holding}
use Rattle.table.proofs.Paths.{printer_path}
use Rattle.table.proofs.table.PrinterTable.open.Goals as goal

no_role : (c : Conf) → c ≡ opening_conf → (a : ℕ) → (c a).role.0 ≤ 0
no_role c e a = subst (λ (k : Conf). (k a).role.0 ≤ 0) (sym e) (grind arith)

pub invariant_of-result : goal.invariant_of-result
invariant_of-result c =
    let k = c.open.ensures in
    let b = c.open-2.ensures in
    record {
      length_ok = omega arith;
      sequencer_ok = leb-true c.args.me.value 7 c.args.me.ok;
      turn_ok = omega arith;
      roles_ok = no_role _ k;
      messages_ok = λ x. subst (λ (h : Holding). (h.messages x).passed ≤ 0) (sym b) (omega arith);
      tickets_ok = λ x. subst (λ (h : Holding). (h.tickets x).passed ≤ 0) (sym b) (omega arith);
      own_ok = subst (λ (h : Holding). (h.messages c.args.me.value).count ≤ 7) (sym b) (omega arith);
      owes_ok = λ e. absurd (false≢true e);
    }

pub returns : goal.returns
returns c = record { table = printer_path _ _ c.at.ensures refl c.open.ensures c.open-2.ensures refl; me = refl }
