use Rattle.std.proofs.Common.{arith, Err, Ok}
use Rattle.std.proofs.lemmas.Result.{err_from_is_err_and}
use Rattle.dav_core.specs.declared.error.FsError.{FsError}
use Rattle.dav_local.specs.Places.{place_of}
use Rattle.dav_local.proofs.Found.{missing_above, walk_whole, walks_missing, whole_above}
use Rattle.dav_local.proofs.NearFound.{here_seen, here_unseen, sought_failed, sought_missing, sought_seen}
use Rattle.dav_local.proofs.FromRoot.{costs_few, costs_then}
use Rattle.dav_local.proofs.MostSeen.{looked_few}
use Rattle.dav_local.proofs.fs.LocalFs.find_on_disk.Goals as goal

pub returns-in-Ok-clause-done : goal.returns-in-Ok-clause-done
returns-in-Ok-clause-done g c = walk_whole _ _ _ c.in-Ok.field-0 c.in-Ok.ensures.done c.in-Ok.ensures.keeps

pub returns-in_ok-find_elsewhere-in-Err-clause-done : goal.returns-in_ok-find_elsewhere-in-Err-clause-done
returns-in_ok-find_elsewhere-in-Err-clause-done g c = walks_missing _ _ _ _ _ c.look.ensures.keeps c.in_ok-find_elsewhere-in-Err.ensures.done

pub returns-in_err-find_elsewhere-in-Err-clause-done : goal.returns-in_err-find_elsewhere-in-Err-clause-done
returns-in_err-find_elsewhere-in-Err-clause-done g c =
    let p = err_from_is_err_and c.from_residual.result c.from_residual.ensures.1 in
    rw (p.1, p.2) (walks_missing _ _ _ _ (Err c.in_err-find_elsewhere-in-Err.field-0.0) c.look.ensures.keeps c.in_err-find_elsewhere-in-Err.ensures.done)

pub returns-in-Ok-clause-above : goal.returns-in-Ok-clause-above
returns-in-Ok-clause-above g c = whole_above (place_of g.D.Disk.state g.R.Remember.state c.args.self.now) (place_of g.D.Disk.state g.R.Remember.state (record c.args.self.now { disk = c.look.new.disk })) _ _ c.in-Ok.field-0 c.in-Ok.ensures.done

pub returns-in_ok-find_elsewhere-in-Err-clause-above : goal.returns-in_ok-find_elsewhere-in-Err-clause-above
returns-in_ok-find_elsewhere-in-Err-clause-above g c = missing_above (place_of g.D.Disk.state g.R.Remember.state c.args.self.now) (place_of g.D.Disk.state g.R.Remember.state c.find_elsewhere.new.self) _ c.args.path.now (Ok _) c.look.ensures.keeps c.in_ok-find_elsewhere-in-Err.ensures.above

pub returns-in-Ok-clause-near : goal.returns-in-Ok-clause-near
returns-in-Ok-clause-near g c = sought_seen (place_of g.D.Disk.state g.R.Remember.state c.args.self.now) (g.D.Disk.state c.look.new.disk) c.args.path.now c.in-Ok.field-0 (Ok c.args.path.now) c.in-Ok.ensures.done

pub returns-in-Ok-clause-here : goal.returns-in-Ok-clause-here
returns-in-Ok-clause-here g c = here_seen (place_of g.D.Disk.state g.R.Remember.state c.args.self.now) (g.D.Disk.state c.look.new.disk) c.args.path.now c.in-Ok.field-0 c.in-Ok.ensures.done

pub returns-in-Err-Failed-clause-near : goal.returns-in-Err-Failed-clause-near
returns-in-Err-Failed-clause-near g c = sought_failed (place_of g.D.Disk.state g.R.Remember.state c.args.self.now) (g.D.Disk.state c.look.new.disk) c.args.path.now c.in-Err-Failed.field-0 FsError.GeneralFailure c.in-Err-Failed.ensures.done

pub returns-in-Err-Failed-clause-here : goal.returns-in-Err-Failed-clause-here
returns-in-Err-Failed-clause-here g c = here_unseen (place_of g.D.Disk.state g.R.Remember.state c.args.self.now) (place_of g.D.Disk.state g.R.Remember.state (record c.args.self.now { disk = c.look.new.disk })) (g.D.Disk.state c.look.new.disk) c.args.path.now c.in-Err-Failed.field-0 _ c.in-Err-Failed.ensures.done (omega arith)

pub returns-in_ok-find_elsewhere-in-Err-clause-near : goal.returns-in_ok-find_elsewhere-in-Err-clause-near
returns-in_ok-find_elsewhere-in-Err-clause-near g c = sought_missing (place_of g.D.Disk.state g.R.Remember.state c.args.self.now) (place_of g.D.Disk.state g.R.Remember.state c.find_elsewhere.new.self) (g.D.Disk.state c.look.new.disk) c.args.path.now c.in-Err.field-0 (Ok c.in_ok-find_elsewhere-in-Err.field-0) c.in-Err.ensures.done c.in_ok-find_elsewhere-in-Err.ensures.done.keeps.keeps.counts c.in_ok-find_elsewhere-in-Err.ensures.near

pub returns-in_ok-find_elsewhere-in-Err-clause-here : goal.returns-in_ok-find_elsewhere-in-Err-clause-here
returns-in_ok-find_elsewhere-in-Err-clause-here g c = here_unseen (place_of g.D.Disk.state g.R.Remember.state c.args.self.now) (place_of g.D.Disk.state g.R.Remember.state c.find_elsewhere.new.self) (g.D.Disk.state c.look.new.disk) c.args.path.now c.in-Err.field-0 _ c.in-Err.ensures.done c.in_ok-find_elsewhere-in-Err.ensures.done.keeps.keeps.counts

pub returns-in_err-find_elsewhere-in-Err-clause-near : goal.returns-in_err-find_elsewhere-in-Err-clause-near
returns-in_err-find_elsewhere-in-Err-clause-near g c =
    let p = err_from_is_err_and c.from_residual.result c.from_residual.ensures.1 in
    rw p.1 (sought_missing (place_of g.D.Disk.state g.R.Remember.state c.args.self.now) (place_of g.D.Disk.state g.R.Remember.state c.find_elsewhere.new.self) (g.D.Disk.state c.look.new.disk) c.args.path.now c.in-Err.field-0 (Err c.in_err-find_elsewhere-in-Err.field-0.0) c.in-Err.ensures.done c.in_err-find_elsewhere-in-Err.ensures.done.keeps.keeps.counts c.in_err-find_elsewhere-in-Err.ensures.near)

pub returns-in_err-find_elsewhere-in-Err-clause-here : goal.returns-in_err-find_elsewhere-in-Err-clause-here
returns-in_err-find_elsewhere-in-Err-clause-here g c = here_unseen (place_of g.D.Disk.state g.R.Remember.state c.args.self.now) (place_of g.D.Disk.state g.R.Remember.state c.find_elsewhere.new.self) (g.D.Disk.state c.look.new.disk) c.args.path.now c.in-Err.field-0 _ c.in-Err.ensures.done c.in_err-find_elsewhere-in-Err.ensures.done.keeps.keeps.counts

pub returns-in-Ok-clause-most : goal.returns-in-Ok-clause-most
returns-in-Ok-clause-most g c = costs_few 1 3 (place_of g.D.Disk.state g.R.Remember.state c.args.self.now) (place_of g.D.Disk.state g.R.Remember.state (record c.args.self.now { disk = c.look.new.disk })) c.args.path.now (omega arith) (looked_few _ _ _ _ c.in-Ok.ensures.done)

pub returns-in-Err-Failed-clause-most : goal.returns-in-Err-Failed-clause-most
returns-in-Err-Failed-clause-most g c = costs_few 1 3 (place_of g.D.Disk.state g.R.Remember.state c.args.self.now) (place_of g.D.Disk.state g.R.Remember.state (record c.args.self.now { disk = c.look.new.disk })) c.args.path.now (omega arith) (looked_few _ _ _ _ c.in-Err-Failed.ensures.done)

pub returns-in_ok-find_elsewhere-in-Err-clause-most : goal.returns-in_ok-find_elsewhere-in-Err-clause-most
returns-in_ok-find_elsewhere-in-Err-clause-most g c = costs_then 1 2 3 (place_of g.D.Disk.state g.R.Remember.state c.args.self.now) (place_of g.D.Disk.state g.R.Remember.state (record c.args.self.now { disk = c.look.new.disk })) (place_of g.D.Disk.state g.R.Remember.state c.find_elsewhere.new.self) c.args.path.now (omega arith) (looked_few _ _ _ _ c.in-Err.ensures.done) c.look.ensures.keeps c.in_ok-find_elsewhere-in-Err.ensures.most

pub returns-in_err-find_elsewhere-in-Err-clause-most : goal.returns-in_err-find_elsewhere-in-Err-clause-most
returns-in_err-find_elsewhere-in-Err-clause-most g c = costs_then 1 2 3 (place_of g.D.Disk.state g.R.Remember.state c.args.self.now) (place_of g.D.Disk.state g.R.Remember.state (record c.args.self.now { disk = c.look.new.disk })) (place_of g.D.Disk.state g.R.Remember.state c.find_elsewhere.new.self) c.args.path.now (omega arith) (looked_few _ _ _ _ c.in-Err.ensures.done) c.look.ensures.keeps c.in_err-find_elsewhere-in-Err.ensures.most
