use Rattle.std.proofs.Common.{◌≡◌, length, arith}
use Rattle.dav_disk.proofs.Indexed.{timed_number_indexed}
use Rattle.dav_disk.proofs.indexed_rows.IndexedRows.set_number_time.Goals as goal

pub invariant_of-self : goal.invariant_of-self
invariant_of-self c =
    let len : c.self.inside.items.len ≡ length c.self.inside.items.items = omega (arith, c.self.inside.items.ok) in
    timed_number_indexed c.self.inside.places c.self.inside.items.len c.set_times.new.rows c.as_mut_slice.result.now c.self.inside.items.items c.args.number c.args.time c.self.invariant len c.as_mut_slice.ensures.value c.set_times.ensures
