use Rattle.std.proofs.Common.{◌∷◌, subst, sym}
use Rattle.dav_walks.specs.declared.pending.Pending.{Pending}
use Rattle.dav_walks.specs.Walking.{RemovesOn, works_at}
use Rattle.dav_walks.proofs.steps.RemovesByTable.{dir_done}
use Rattle.dav_walks.proofs.removing.remove_one.Goals as goal

pub returns-in-Up-clause-removes : goal.returns-in-Up-clause-removes
returns-in-Up-clause-removes g c = λ last.
    subst (λ (work : Pending). RemovesOn g.S.GuardedFileSystem.view g.S.GuardedFileSystem.listings c.args.credentials.now
    (works_at c.args.path.now (work ∷ c.args.works.now.items) last) c.args.fs.now c.line_of-gone.result c.remove_dir.new.self
    (works_at c.pop_segment.new.self c.args.works.now.items last)) (sym c.in-Up.is)
    (dir_done g.S.GuardedFileSystem.view g.S.GuardedFileSystem.listings c.args.credentials.now c.args.path.now c.pop_segment.new.self c.args.works.now.items last c.args.fs.now c.remove_dir.new.self
    c.line_of-gone.result c.pop_segment.ensures (c.remove_dir.result, c.remove_dir.ensures.done, c.line_of-gone.ensures))
