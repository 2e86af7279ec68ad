use Rattle.std.proofs.Common.{sym, arith}
use Rattle.std.proofs.lemmas.List.{set_past}
use Rattle.table.specs.Records.{shelf_place}
use Rattle.printer.proofs.shelving.lay.Goals as goal

pub returns-else-place-shelf : goal.returns-else-place-shelf
returns-else-place-shelf g c =
    sym (set_past c.args.shelf.now (shelf_place c.args.sender.value c.args.number.0) c.args.row (omega arith))
