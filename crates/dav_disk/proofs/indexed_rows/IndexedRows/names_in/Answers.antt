use Rattle.dav_disk.proofs.Listed.{index_lists}
use Rattle.dav_disk.proofs.indexed_rows.IndexedRows.names_in.Goals as goal

pub returns-clause-each : goal.returns-clause-each
returns-clause-each c =
    rw (← c.self.view_is) (index_lists c.self.inside.places c.self.inside.items.items c.args.dir.now _ (rw (← c.self.view_is) at c.requires) c.self.invariant c.in_ok-names.ensures.names)
