-- What a log transport means.
use Rattle.std.specs.Prelude.{vec_items, Option}
use Rattle.body.specs.declared.kind.Body.{Ghosts}
use Rattle.transport.specs.Nets.{Net}
use Rattle.transport.specs.Stored.{stored}
use Rattle.sender_log.specs.Logs.{log_net}
use Rattle.sender_log.specs.declared.log.LogTransport.{LogTransport}

abbrev pub log_meaning : {B R : Type 0} {g : Ghosts B R} → (R → Option B) → LogTransport B R g → Net B
log_meaning remade t = log_net (stored remade) t.members t.limit t.ends t.behinds (vec_items t.cells)
