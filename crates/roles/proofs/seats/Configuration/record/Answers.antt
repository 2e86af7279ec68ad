use Rattle.std.proofs.Common.{ap, ◌∙◌, arith}
use Rattle.roles.specs.Configurations.{Conf, conf_of}
use Rattle.roles.proofs.RoleBounds.{without_role}
use Rattle.roles.proofs.seats.Configuration.record.Goals as goal

-- one who is removed keeps the role number, so the bounds stay
pub promote-requires : goal.promote-requires
promote-requires c a =
    let e = ap (λ (d : Conf). (d a).role.0) c.remove.ensures ∙ without_role (conf_of c.args.self.now) c.args.printer.value a in
    omega (arith, c.requires.role_bound a)
