use Rattle.std.proofs.Common.{Err, ap, refl}
use Rattle.std.proofs.lemmas.Result.{err_from_is_err_and}
use Rattle.dav_walks.specs.Copying.{short}
use Rattle.dav_walks.specs.Removing.{is_deep}
use Rattle.dav_walks.proofs.steps.PathsPending.{is_shallow}
use Rattle.dav_walks.proofs.steps.CopiesByTable.{made, too_deep, within, within_lighter, without, without_lighter}
use Rattle.dav_walks.proofs.copying.copy_dir.Goals as goal

pub returns-in_err-pass_shallow-clause-copies : goal.returns-in_err-pass_shallow-clause-copies
returns-in_err-pass_shallow-clause-copies g c =
    let p = err_from_is_err_and c.from_residual.result c.from_residual.ensures.1 in
    rw (p.1, p.2) (too_deep g.S.GuardedFileSystem.view g.S.GuardedFileSystem.listings c.args.credentials.now c.args.alone c.args.walk.now.ends c.args.walk.now.works.items c.args.walk.now.works.items c.args.fs.now
    c.in_err-pass_shallow.field-0.0 c.in_err-pass_shallow.ensures)

pub returns-in_default-clause-copies : goal.returns-in_default-clause-copies
returns-in_default-clause-copies g c = short _ _

pub returns-in-Err-clause-copies : goal.returns-in-Err-clause-copies
returns-in-Err-clause-copies g c =
    made g.S.GuardedFileSystem.view g.S.GuardedFileSystem.listings c.args.credentials.now c.args.alone c.args.walk.now.ends c.args.walk.now.works.items c.args.walk.now.works.items c.args.fs.now c.create_dir.new.self
    c.create_dir.new.self (Err c.from.result) (Err c.in-Err.refusal) (is_shallow (is_deep c.args.walk.now.ends.from) c.in_ok-pass_shallow.ensures) c.in-Err.ensures.done (refl, ap Err c.from.ensures)

pub returns-then-alone-clause-copies : goal.returns-then-alone-clause-copies
returns-then-alone-clause-copies g c =
    without g.S.GuardedFileSystem.view g.S.GuardedFileSystem.listings c.args.credentials.now c.args.alone c.args.walk.now.ends c.args.walk.now.works.items c.push_front.new.self.items c.args.fs.now
    c.create_dir.new.self (is_shallow (is_deep c.args.walk.now.ends.from) c.in_ok-pass_shallow.ensures) c.if-alone.true c.in-Ok.ensures.items c.in-Ok-create_dir.ensures.done

pub returns-then-alone-clause-lighter : goal.returns-then-alone-clause-lighter
returns-then-alone-clause-lighter g c = λ ok.
    without_lighter g.S.GuardedFileSystem.view g.S.GuardedFileSystem.listings c.args.credentials.now c.args.alone c.args.walk.now.ends.from c.args.walk.now.works.items c.push_front.new.self.items
    (is_shallow (is_deep c.args.walk.now.ends.from) c.in_ok-pass_shallow.ensures) c.in-Ok.ensures.items

pub returns-clause-copies : goal.returns-clause-copies
returns-clause-copies g c =
    within g.S.GuardedFileSystem.view g.S.GuardedFileSystem.listings c.args.credentials.now c.args.alone c.args.walk.now.ends c.args.walk.now.works.items c.push_front.new.self.items c.read_pending.new.works.items
    c.args.fs.now c.create_dir.new.self c.read_pending.new.fs c.read_pending.result (is_shallow (is_deep c.args.walk.now.ends.from) c.in_ok-pass_shallow.ensures) c.if-alone.false c.in-Ok.ensures.items
    c.in-Ok-create_dir.ensures.done c.read_pending.ensures.reads

pub returns-clause-lighter : goal.returns-clause-lighter
returns-clause-lighter g c = λ ok.
    within_lighter g.S.GuardedFileSystem.view g.S.GuardedFileSystem.listings c.args.credentials.now c.args.alone c.args.walk.now.ends.from c.args.walk.now.works.items c.push_front.new.self.items
    c.read_pending.new.works.items c.create_dir.new.self c.read_pending.new.fs c.read_pending.result (is_shallow (is_deep c.args.walk.now.ends.from) c.in_ok-pass_shallow.ensures) c.in-Ok.ensures.items ok c.read_pending.ensures.reads
