use Rattle.std.proofs.Common.{◌∙◌, ap₂}
use Rattle.std.specs.Option.{unwrap_or}
use Rattle.transport.proofs.storing.stored_frame.Goals as goal

pub returns : goal.returns
returns g c = c.unwrap_or.ensures ∙ ap₂ unwrap_or c.from_row.ensures.value c.idle_frame.ensures
