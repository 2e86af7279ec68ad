use Rattle.table.proofs.RecordLaws.{record_written}
use Rattle.table.proofs.records.write_record.Goals as goal

pub returns : goal.returns
returns g c =
    record_written c.args.list.now c.args.at c.args.kind c.args.printer c.args.number c.args.shelf.now
    c.index-list-at.result c.shelf_place.result c.body_for-body.result c.requires c.shelf_place.ensures
    c.body_for-body.ensures
