use Rattle.std.proofs.Common.{true, Ok, Err, refl, arith, inl}
use Rattle.dav_core.proofs.UnchangedLemmas.{keeps_then}
use Rattle.dav_local.specs.Calls.{LooksAt}
use Rattle.dav_local.proofs.Seen.{finds_refused, finds_there}
use Rattle.dav_local.specs.Places.{place_of}
use Rattle.dav_local.proofs.NearSeen.{seeks_refused, seeks_there}
use Rattle.dav_local.proofs.FromRoot.{costs_before}
use Rattle.dav_local.proofs.MostSeen.{looked_at_few}
use Rattle.dav_local.proofs.fs.LocalFs.look_elsewhere.Goals as goal

pub returns-in-Ok-clause-done : goal.returns-in-Ok-clause-done
returns-in-Ok-clause-done g c = finds_there _ _ _ _ c.in-Ok.at (LooksAt true c.args.slash) _ c.in-Ok.ensures.done c.look_at.ensures.done

pub returns-in-Ok-clause-keeps : goal.returns-in-Ok-clause-keeps
returns-in-Ok-clause-keeps g c = keeps_then _ _ _ c.in-Ok.ensures.done.keeps.keeps c.look_at.ensures.keeps

pub returns-in-Err-clause-done : goal.returns-in-Err-clause-done
returns-in-Err-clause-done g c = finds_refused _ _ _ (LooksAt true c.args.slash) _ c.in-Err.ensures.done

pub returns-in-Ok-clause-above : goal.returns-in-Ok-clause-above
returns-in-Ok-clause-above g c = seeks_there (LooksAt true c.args.slash) 3 (place_of g.D.Disk.state g.R.Remember.state c.args.self.now) (place_of g.D.Disk.state g.R.Remember.state c.find_elsewhere.new.self) (place_of g.D.Disk.state g.R.Remember.state c.look_at.new.self) c.args.path.now c.in-Ok.at (Ok c.in-Ok.at) _ refl c.in-Ok.ensures.near c.in-Ok.ensures.done.keeps.keeps.counts c.look_at.ensures.keeps.counts c.look_at.ensures.done

pub returns-in-Err-clause-above : goal.returns-in-Err-clause-above
returns-in-Err-clause-above g c = seeks_refused (LooksAt true c.args.slash) 3 (place_of g.D.Disk.state g.R.Remember.state c.args.self.now) (place_of g.D.Disk.state g.R.Remember.state c.find_elsewhere.new.self) c.args.path.now (Err c.in-Err.error) c.in-Err.error refl c.in-Err.ensures.near

pub returns-in-Ok-clause-most : goal.returns-in-Ok-clause-most
returns-in-Ok-clause-most g c = costs_before 2 2 4 (place_of g.D.Disk.state g.R.Remember.state c.args.self.now) (place_of g.D.Disk.state g.R.Remember.state c.find_elsewhere.new.self) (place_of g.D.Disk.state g.R.Remember.state c.look_at.new.self) c.args.path.now (omega arith) c.in-Ok.ensures.most (looked_at_few (place_of g.D.Disk.state g.R.Remember.state c.find_elsewhere.new.self) (place_of g.D.Disk.state g.R.Remember.state c.look_at.new.self) c.in-Ok.at true c.args.slash _ c.look_at.ensures.done)

pub returns-in-Err-clause-most : goal.returns-in-Err-clause-most
returns-in-Err-clause-most g c = costs_before 0 2 4 (place_of g.D.Disk.state g.R.Remember.state c.args.self.now) (place_of g.D.Disk.state g.R.Remember.state c.find_elsewhere.new.self) (place_of g.D.Disk.state g.R.Remember.state c.find_elsewhere.new.self) c.args.path.now (omega arith) c.in-Err.ensures.most (inl refl)
