use Rattle.std.proofs.Common.{refl}
use Rattle.dav_core.specs.World.{World, at_key}
use Rattle.dav_core.specs.declared.tree.Kind.TheVariants.{File}
use Rattle.dav_disk.specs.Memory.{known_of}
use Rattle.dav_disk.specs.Files.{stored_at, live_at}
use Rattle.dav_disk.proofs.Added.{addable, file_set, files_put, files_back, file_known, known_back, row_of}
use Rattle.dav_disk.proofs.DirsStay.{bared_back, file_bared, unchanged_bared}
use Rattle.dav_disk.proofs.Filled.{held_by}
use Rattle.dav_disk.proofs.GivenStay.{file_given, unchanged_given, unchanged_stored}
use Rattle.dav_disk.proofs.PlainRows.{plain_more}
use Rattle.dav_disk.proofs.Standing.{on_fail, on_fine}
use Rattle.dav_disk.proofs.memory.Memory.add_file.Goals as goal

pub invariant_of-self : goal.invariant_of-self
invariant_of-self c =
    let bared = unchanged_bared c.args.self.now.rows c.args.self.now.files c.insert.new.self (at_key c.args.self.now.opens) c.in_err-insert.ensures.err
    (record { bare = c.args.self.now.bare; kept = c.args.self.now.kept }) in record {
      bare = bared.bare;
      kept = bared.kept;
      tree = c.args.self.now.tree;
      plain = c.args.self.now.plain;
      stored = unchanged_stored c.args.self.now.rows c.args.self.now.files c.insert.new.self c.args.self.now.rows c.args.self.now.stored refl c.in_err-insert.ensures.err;
      given = unchanged_given (known_of c.args.self.now).world c.args.self.now.files c.insert.new.self c.args.self.now.rows c.args.self.now.given refl c.in_err-insert.ensures.err;
    }

pub invariant_of-self-then-is_err : goal.invariant_of-self-then-is_err
invariant_of-self-then-is_err c =
    let old : World = (known_of c.args.self.now).world in
    let rows = on_fail c.push.result _ c.is_err.result c.is_err.ensures.value c.if-is_err.true c.push.ensures.err in
    let files = files_back c.args.self.now.files c.insert.new.self c.remove.new.self c.args.number _ c.in_ok-insert.ensures.updates c.remove.ensures.updates
    (addable old c.args.path.now c.args.number c.args.time c.requires).unstored in
    let held = held_by old c.push.new.self (stored_at c.remove.new.self) rows files
    (record { tree = c.args.self.now.tree; plain = c.args.self.now.plain; stored = c.args.self.now.stored; given = c.args.self.now.given }) in
    let bared = bared_back old.tree c.push.new.self old.files (stored_at c.remove.new.self) (at_key c.args.self.now.opens) rows files (record { bare = c.args.self.now.bare; kept = c.args.self.now.kept }) in
    record { tree = held.tree; plain = held.plain; stored = held.stored; given = held.given; bare = bared.bare; kept = bared.kept }

pub returns-then-is_err-clause-err : goal.returns-then-is_err-clause-err
returns-then-is_err-clause-err c =
    let old : World = (known_of c.args.self.now).world in
    let rows = on_fail c.push.result _ c.is_err.result c.is_err.ensures.value c.if-is_err.true c.push.ensures.err in
    let files = files_back c.args.self.now.files c.insert.new.self c.remove.new.self c.args.number _ c.in_ok-insert.ensures.updates c.remove.ensures.updates
    (addable old c.args.path.now c.args.number c.args.time c.requires).unstored in
    known_back old (live_at c.args.self.now.opens) c.push.new.self (stored_at c.remove.new.self) rows files

pub invariant_of-self-2 : goal.invariant_of-self-2
invariant_of-self-2 c =
    let rows = on_fine c.push.result _ c.is_err.result c.is_err.ensures.value c.if-is_err.false c.push.ensures.ok in
    let files = files_put c.args.self.now.files c.insert.new.self c.args.number _ _ c.in_ok-insert.ensures.updates c.in_ok-bytes.ensures.items in
    let t = file_set (known_of c.args.self.now).world c.args.path.now c.in_ok-try_clone.field-0 c.args.number c.args.time c.args.bytes.now c.args.self.now.rows c.push.new.self
    (stored_at c.insert.new.self) c.requires c.args.self.now.tree c.args.self.now.stored c.in_ok-try_clone.ensures.copy refl rows files in
    let bared = file_bared (known_of c.args.self.now).world (row_of c.in_ok-try_clone.field-0 File c.args.number c.args.time) (record { bytes = c.args.bytes.now; time = c.args.time }) c.args.self.now.rows c.push.new.self
    (stored_at c.insert.new.self) (at_key c.args.self.now.opens) refl (addable (known_of c.args.self.now).world c.args.path.now c.args.number c.args.time c.requires).new refl rows files (record { bare = c.args.self.now.bare; kept = c.args.self.now.kept }) in
    record {
      bare = bared.bare;
      kept = bared.kept;
      tree = t.0;
      plain = plain_more c.args.self.now.rows c.push.new.self _ c.args.self.now.plain rows (rw c.in_ok-try_clone.ensures.copy c.in_ok-try_clone.ensures.plain);
      stored = t.1;
      given = file_given (known_of c.args.self.now).world (row_of c.in_ok-try_clone.field-0 File c.args.number c.args.time) (record { bytes = c.args.bytes.now; time = c.args.time })
          c.args.self.now.rows c.push.new.self (stored_at c.insert.new.self) c.max-self.result c.later_of-latest.result c.second_past.result
          (addable (known_of c.args.self.now).world c.args.path.now c.args.number c.args.time c.requires).settable
          c.args.self.now.given refl refl rows files c.max-self.ensures c.later_of-latest.ensures c.second_past.ensures;
    }

pub returns-clause-ok : goal.returns-clause-ok
returns-clause-ok c =
    let rows = on_fine c.push.result _ c.is_err.result c.is_err.ensures.value c.if-is_err.false c.push.ensures.ok in
    let files = files_put c.args.self.now.files c.insert.new.self c.args.number _ _ c.in_ok-insert.ensures.updates c.in_ok-bytes.ensures.items in
    file_known (known_of c.args.self.now).world (live_at c.args.self.now.opens) c.args.path.now c.in_ok-try_clone.field-0 c.args.number c.args.time c.args.bytes.now c.args.self.now.rows c.push.new.self
    (stored_at c.insert.new.self) c.max-self.result c.later_of-latest.result c.second_past.result c.in_ok-try_clone.ensures.copy refl rows files
    c.max-self.ensures c.later_of-latest.ensures c.second_past.ensures
