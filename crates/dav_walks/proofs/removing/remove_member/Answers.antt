use Rattle.std.proofs.Common.{◌∷◌, Err, refl}
use Rattle.std.proofs.lemmas.Result.{err_from_is_err_and}
use Rattle.dav_walks.specs.declared.pending.Pending.TheVariants.{Up}
use Rattle.dav_walks.specs.Removing.{short}
use Rattle.dav_walks.proofs.steps.RemovesByTable.{deep_stays, file_done, member_lighter, member_opened, shallow_opens}
use Rattle.dav_walks.proofs.removing.remove_member.Goals as goal

pub returns-in_default-clause-removes : goal.returns-in_default-clause-removes
returns-in_default-clause-removes g c = λ last. short _ _

pub returns-in_default-push_front-clause-removes : goal.returns-in_default-push_front-clause-removes
returns-in_default-push_front-clause-removes g c = λ last. short _ _

pub returns-then-not-member-clause-removes : goal.returns-then-not-member-clause-removes
returns-then-not-member-clause-removes g c = λ last.
    file_done g.S.GuardedFileSystem.view g.S.GuardedFileSystem.listings c.args.credentials.now c.args.path.now c.go_down.new.path c.pop_segment.new.self c.args.member.now c.args.works.now.items last
    c.args.fs.now c.remove_file.new.self c.line_of-gone.result c.requires.slash c.if-not-member.true c.in-Ok.ensures c.pop_segment.ensures (c.remove_file.result, c.remove_file.ensures.done, c.line_of-gone.ensures)

pub returns-in_err-pass_shallow-clause-removes : goal.returns-in_err-pass_shallow-clause-removes
returns-in_err-pass_shallow-clause-removes g c = λ last.
    let p = err_from_is_err_and c.from_residual.result c.from_residual.ensures.1 in
    rw (p.1, p.2) (member_opened g.S.GuardedFileSystem.view g.S.GuardedFileSystem.listings c.args.credentials.now c.args.path.now c.go_down.new.path c.args.member.now c.args.works.now.items
    (Up ∷ c.args.works.now.items) c.args.works.now.items last c.args.fs.now c.args.fs.now (Err c.in_err-pass_shallow.field-0.0) c.requires.slash c.if-not-member.false c.in-Ok.ensures refl
    (deep_stays g.S.GuardedFileSystem.view g.S.GuardedFileSystem.listings c.args.credentials.now c.go_down.new.path (Up ∷ c.args.works.now.items) c.args.works.now.items c.args.fs.now
    c.in_err-pass_shallow.field-0.0 c.in_err-pass_shallow.ensures))

pub returns-clause-removes : goal.returns-clause-removes
returns-clause-removes g c = λ last.
    member_opened g.S.GuardedFileSystem.view g.S.GuardedFileSystem.listings c.args.credentials.now c.args.path.now c.go_down.new.path c.args.member.now c.args.works.now.items
    c.push_front.new.self.items c.read_pending.new.works.items last c.args.fs.now c.read_pending.new.fs c.read_pending.result c.requires.slash c.if-not-member.false c.in-Ok.ensures
    c.in-Ok-push_front.ensures.items
    (shallow_opens g.S.GuardedFileSystem.view g.S.GuardedFileSystem.listings c.args.credentials.now c.go_down.new.path c.push_front.new.self.items
    c.read_pending.new.works.items c.args.fs.now c.read_pending.new.fs c.read_pending.result c.in_ok-pass_shallow.ensures c.read_pending.ensures.reads)

pub returns-clause-lighter : goal.returns-clause-lighter
returns-clause-lighter g c = λ ok.
    member_lighter g.S.GuardedFileSystem.view g.S.GuardedFileSystem.listings c.args.credentials.now c.args.path.now c.go_down.new.path c.args.member.now c.args.works.now.items
    c.push_front.new.self.items c.read_pending.new.works.items c.args.fs.now c.read_pending.new.fs c.read_pending.result c.requires.slash c.if-not-member.false c.in-Ok.ensures
    c.in-Ok-push_front.ensures.items ok
    (shallow_opens g.S.GuardedFileSystem.view g.S.GuardedFileSystem.listings c.args.credentials.now c.go_down.new.path c.push_front.new.self.items
    c.read_pending.new.works.items c.args.fs.now c.read_pending.new.fs c.read_pending.result c.in_ok-pass_shallow.ensures c.read_pending.ensures.reads)
