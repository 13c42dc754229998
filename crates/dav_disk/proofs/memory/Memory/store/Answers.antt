use Rattle.std.proofs.Common.{refl}
use Rattle.dav_core.specs.World.{World, at_key}
use Rattle.dav_disk.specs.Files.{stored_at}
use Rattle.dav_disk.specs.Making.{filled_now}
use Rattle.dav_disk.specs.Memory.{known_of}
use Rattle.dav_disk.proofs.DirsStay.{bared_back, filled_bared}
use Rattle.dav_disk.proofs.Filled.{filled_holding, held_by}
use Rattle.dav_disk.proofs.Standing.{on_fail, on_fine}
use Rattle.dav_disk.proofs.memory.Memory.store.Goals as goal

pub invariant_of-self-2 : goal.invariant_of-self-2
invariant_of-self-2 c =
    let old : World = (known_of c.args.self.now).world in
    let h = filled_holding old c.args.number c.args.bytes.items c.args.time
    (record { tree = c.args.self.now.tree; plain = c.args.self.now.plain; stored = c.args.self.now.stored; given = c.args.self.now.given }) c.requires.ticked c.requires.given in
    let p = on_fine c.store_file.result _ c.is_err.result c.is_err.ensures.value c.if-is_err.false c.store_file.ensures.ok in
    let held = held_by (filled_now c.args.number c.args.bytes.items c.args.time old) c.set_number_time.new.self (stored_at c.store_file.new.files) c.set_number_time.ensures p h in
    let bared = filled_bared old c.set_number_time.new.self (stored_at c.store_file.new.files) c.args.number c.args.bytes.items c.args.time (at_key c.args.self.now.opens) c.set_number_time.ensures p c.requires.file
    (record { bare = c.args.self.now.bare; kept = c.args.self.now.kept }) in
    record { tree = held.tree; plain = held.plain; stored = held.stored; given = held.given; bare = bared.bare; kept = bared.kept }

pub invariant_of-self : goal.invariant_of-self
invariant_of-self c =
    let old : World = (known_of c.args.self.now).world in
    let same = on_fail c.store_file.result _ c.is_err.result c.is_err.ensures.value c.if-is_err.true c.store_file.ensures.err in
    let held = held_by old old.tree (stored_at c.store_file.new.files) refl same
    (record { tree = c.args.self.now.tree; plain = c.args.self.now.plain; stored = c.args.self.now.stored; given = c.args.self.now.given }) in
    let bared = bared_back old.tree old.tree old.files (stored_at c.store_file.new.files) (at_key c.args.self.now.opens) refl same (record { bare = c.args.self.now.bare; kept = c.args.self.now.kept }) in
    record { tree = held.tree; plain = held.plain; stored = held.stored; given = held.given; bare = bared.bare; kept = bared.kept }
