use Rattle.std.proofs.Common.{ap, ◌∙◌}
use Rattle.frame.specs.Rows.{frame_remade}
use Rattle.frame.proofs.RowLaws.{frame_again}
use Rattle.frame.proofs.frame.Frame.to_row.Goals as goal

pub returns-clause-again : goal.returns-clause-again
returns-clause-again g c =
    ap (λ r. frame_remade g.B.Body.remade (record { sender = c.args.self.sender.value; clock = c.args.self.payload.clock; content = r })) c.content_to_row.ensures ∙
    frame_again g.B.Body.row g.B.Body.remade g.met.B.Body.remaking c.args.self
