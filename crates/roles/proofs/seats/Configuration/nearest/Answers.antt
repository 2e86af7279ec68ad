use Rattle.std.proofs.Common.{rules, length}
use Rattle.roles.specs.Configurations.{conf_of}
use Rattle.roles.specs.Nearest.{delay_in}
use Rattle.roles.proofs.NearestLaws.{nearest_is}
use Rattle.roles.proofs.seats.Configuration.nearest.Goals as goal

pub returns-clause-value : goal.returns-clause-value
returns-clause-value c =
    let row = c.args.delays.now.row.now in
    nearest_is (length row) (conf_of c.args.self.now) (delay_in row) _ (search rules)
