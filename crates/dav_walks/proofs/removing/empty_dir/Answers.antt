use Rattle.std.proofs.Common.{Ok, Err, [], ◌∷◌, true, ap, refl, ◌∙◌}
use Rattle.std.proofs.lemmas.Result.{err_from_is_err_and}
use Rattle.dav_store.proofs.Staying.{stays_then}
use Rattle.dav_walks.specs.declared.work.Work.TheVariants.{Emptied, Whole}
use Rattle.dav_walks.specs.Removing.{short}
use Rattle.dav_walks.specs.Walking.{works_at}
use Rattle.dav_walks.proofs.steps.PathsPending.{slashed}
use Rattle.dav_walks.proofs.steps.RemovesByTable.{deep_stays, first_opened, shallow_opens, then}
use Rattle.dav_walks.proofs.removing.empty_dir.Goals as goal

pub returns-in_err-pass_shallow-clause-removes : goal.returns-in_err-pass_shallow-clause-removes
returns-in_err-pass_shallow-clause-removes g c =
    let p = err_from_is_err_and c.from_residual.result c.from_residual.ensures.1 in
    rw (p.1, p.2) (first_opened g.S.GuardedFileSystem.view g.S.GuardedFileSystem.listings c.args.credentials.now c.args.path.now (slashed c.args.path.now) [] [] c.args.fs.now c.args.fs.now (Err c.in_err-pass_shallow.field-0.0) refl refl
    (deep_stays g.S.GuardedFileSystem.view g.S.GuardedFileSystem.listings c.args.credentials.now c.args.path.now [] [] c.args.fs.now c.in_err-pass_shallow.field-0.0 c.in_err-pass_shallow.ensures))

pub returns-in_default-clause-removes : goal.returns-in_default-clause-removes
returns-in_default-clause-removes g c = short _ _

pub returns-in-Ok-read_pending-clause-removes : goal.returns-in-Ok-read_pending-clause-removes
returns-in-Ok-read_pending-clause-removes g c =
    then g.S.GuardedFileSystem.view g.S.GuardedFileSystem.listings c.args.credentials.now (Whole c.args.path.now true ∷ [])
    (works_at c.add_slash.new.self c.read_pending.new.works.items (Emptied c.args.path.now ∷ [])) (Emptied c.args.path.now ∷ []) c.args.fs.now c.read_pending.new.fs c.remove_pending.new.fs
    c.remove_pending.result
    (first_opened g.S.GuardedFileSystem.view g.S.GuardedFileSystem.listings c.args.credentials.now c.args.path.now c.add_slash.new.self c.new-works.result.items c.read_pending.new.works.items c.args.fs.now
    c.read_pending.new.fs (Ok tt) (c.add_slash.ensures ∙ ap slashed c.in-Ok.ensures) c.new-works.ensures.items
    (shallow_opens g.S.GuardedFileSystem.view g.S.GuardedFileSystem.listings c.args.credentials.now c.args.path.now c.new-works.result.items c.read_pending.new.works.items c.args.fs.now
    c.read_pending.new.fs (Ok tt) c.in_ok-pass_shallow.ensures c.in-Ok-read_pending.ensures.reads))
    (c.remove_pending.ensures.removes (Emptied c.args.path.now ∷ []))

pub returns-in-Ok-read_pending-clause-stays : goal.returns-in-Ok-read_pending-clause-stays
returns-in-Ok-read_pending-clause-stays g c = stays_then _ _ _ _ c.read_pending.ensures.stays c.remove_pending.ensures.stays

pub returns-in-Err-clause-removes : goal.returns-in-Err-clause-removes
returns-in-Err-clause-removes g c =
    first_opened g.S.GuardedFileSystem.view g.S.GuardedFileSystem.listings c.args.credentials.now c.args.path.now c.add_slash.new.self c.new-works.result.items c.read_pending.new.works.items c.args.fs.now
    c.read_pending.new.fs (Err c.in-Err.error) (c.add_slash.ensures ∙ ap slashed c.in-Ok.ensures) c.new-works.ensures.items
    (shallow_opens g.S.GuardedFileSystem.view g.S.GuardedFileSystem.listings c.args.credentials.now c.args.path.now c.new-works.result.items c.read_pending.new.works.items c.args.fs.now
    c.read_pending.new.fs (Err c.in-Err.error) c.in_ok-pass_shallow.ensures c.in-Err.ensures.reads)
