use Rattle.std.proofs.Common.{◌≡◌, rules}
use Rattle.frame.specs.Rows.{frame_remade}
use Rattle.frame.proofs.RowLaws.{frame_plain_cases}
use Rattle.frame.proofs.frame.Frame.from_row.Goals as goal

pub returns-clause-plain : goal.returns-clause-plain
returns-clause-plain g c =
    let made : c.ok.result ≡ frame_remade g.B.Body.remade c.args.given = search rules in
    frame_plain_cases g.B.Body.row g.B.Body.remade g.met.B.Body.plain c.args.given c.ok.result made
