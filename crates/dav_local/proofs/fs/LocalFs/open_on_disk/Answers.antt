use Rattle.std.proofs.lemmas.Result.{err_from_is_err_and}
use Rattle.std.proofs.Common.{Ok, refl, Err, arith, inl}
use Rattle.dav_local.proofs.Seen.{open_there, opened_there}
use Rattle.dav_local.specs.Places.{place_of}
use Rattle.dav_core.specs.Writing.{reading}
use Rattle.dav_local.specs.Seeing.{OpensAt}
use Rattle.dav_local.proofs.NearSeen.{opened_more, opens_two, seeks_opened, seeks_refused}
use Rattle.dav_local.proofs.FromRoot.{costs_before}
use Rattle.dav_local.proofs.MostSeen.{opened_few}
use Rattle.dav_local.proofs.fs.LocalFs.open_on_disk.Goals as goal

pub returns-clause-done : goal.returns-clause-done
returns-clause-done g c = open_there _ _ _ _ _ c.in_ok-found.found c.read.result _ c.in_ok-found.ensures.done c.at_or-at.ensures c.read.ensures c.open_at.ensures.done

pub returns-clause-one : goal.returns-clause-one
returns-clause-one g c = opened_there _ _ _ c.read.result _ c.in_ok-found.ensures.done.keeps.keeps c.read.ensures c.open_at.ensures.one

pub returns-clause-here : goal.returns-clause-here
returns-clause-here g c = opens_two (place_of g.D.Disk.state g.R.Remember.state c.args.self.now) (place_of g.D.Disk.state g.R.Remember.state c.find_on_disk.new.self) (place_of g.D.Disk.state g.R.Remember.state (record c.find_on_disk.new.self { disk = c.open_at.new.disk })) c.args.path.now c.at_or-at.result.now (Ok c.in_ok-found.found) c.read.result _ c.in_ok-found.ensures.here c.in_ok-found.ensures.done.keeps.keeps.counts (opened_more _ _ _ _ c.open_at.ensures.one) c.open_at.ensures.done

pub returns-clause-above : goal.returns-clause-above
returns-clause-above g c = seeks_opened (place_of g.D.Disk.state g.R.Remember.state c.args.self.now) (place_of g.D.Disk.state g.R.Remember.state c.find_on_disk.new.self) (g.D.Disk.state c.open_at.new.disk) c.args.path.now c.at_or-at.result.now c.in_ok-found.found c.read.result _ c.in_ok-found.ensures.near c.in_ok-found.ensures.done.keeps.keeps.counts (opened_more _ _ _ _ c.open_at.ensures.one) c.at_or-at.ensures c.read.ensures c.open_at.ensures.done

pub returns-in_err-found-clause-above : goal.returns-in_err-found-clause-above
returns-in_err-found-clause-above g c =
    let p = err_from_is_err_and c.from_residual.result c.from_residual.ensures.1 in
    rw (p.1, p.2) (seeks_refused (OpensAt reading) 4 (place_of g.D.Disk.state g.R.Remember.state c.args.self.now) (place_of g.D.Disk.state g.R.Remember.state c.find_on_disk.new.self) c.args.path.now (Err c.in_err-found.field-0.0) c.in_err-found.field-0.0 refl c.in_err-found.ensures.near)

pub returns-clause-most : goal.returns-clause-most
returns-clause-most g c = costs_before 1 3 4 (place_of g.D.Disk.state g.R.Remember.state c.args.self.now) (place_of g.D.Disk.state g.R.Remember.state c.find_on_disk.new.self) (place_of g.D.Disk.state g.R.Remember.state (record c.find_on_disk.new.self { disk = c.open_at.new.disk })) c.args.path.now (omega arith) c.in_ok-found.ensures.most (opened_few _ _ _ _ _ c.open_at.ensures.done)

pub returns-in_err-found-clause-most : goal.returns-in_err-found-clause-most
returns-in_err-found-clause-most g c = costs_before 0 3 4 (place_of g.D.Disk.state g.R.Remember.state c.args.self.now) (place_of g.D.Disk.state g.R.Remember.state c.find_on_disk.new.self) (place_of g.D.Disk.state g.R.Remember.state c.find_on_disk.new.self) c.args.path.now (omega arith) c.in_err-found.ensures.most (inl refl)
