use Rattle.std.proofs.Common.{◌+◌, true, arith}
use Rattle.dav_core.proofs.UnchangedLemmas.{keeps_then}
use Rattle.dav_local.specs.Calls.{LooksAt}
use Rattle.dav_local.proofs.Seen.{finds_absent, look_failed, look_here}
use Rattle.dav_local.specs.Places.{place_of}
use Rattle.dav_local.proofs.NearSeen.{seeks_later, seeks_seen, seeks_starved, sees_seen, sees_unseen}
use Rattle.dav_local.proofs.Counted.{few_called, few_then}
use Rattle.dav_local.proofs.FromRoot.{costs_few, costs_then}
use Rattle.dav_local.proofs.MostSeen.{looked_few, seen_few}
use Rattle.dav_local.proofs.fs.LocalFs.look_on_disk.Goals as goal

pub returns-in-Ok-clause-done : goal.returns-in-Ok-clause-done
returns-in-Ok-clause-done g c = look_here _ _ _ _ c.in-Ok.meta c.args.slash _ c.in-Ok.ensures.done c.in-Ok.ensures.keeps c.look_seen.ensures.done

pub returns-in-Ok-clause-keeps : goal.returns-in-Ok-clause-keeps
returns-in-Ok-clause-keeps g c = keeps_then _ _ _ c.in-Ok.ensures.keeps c.look_seen.ensures.keeps

pub returns-in-Err-Failed-clause-done : goal.returns-in-Err-Failed-clause-done
returns-in-Err-Failed-clause-done g c = look_failed _ _ _ (LooksAt true c.args.slash) c.in-Err-Failed.field-0 c.in-Err-Failed.ensures.done c.in-Err-Failed.ensures.keeps c.in-Err-Failed.field-0-is

pub returns-in-Err-clause-done : goal.returns-in-Err-clause-done
returns-in-Err-clause-done g c = finds_absent _ _ _ _ (LooksAt true c.args.slash) _ c.look.ensures.keeps c.look_elsewhere.ensures.done

pub returns-in-Err-clause-keeps : goal.returns-in-Err-clause-keeps
returns-in-Err-clause-keeps g c = keeps_then _ _ _ c.look.ensures.keeps c.look_elsewhere.ensures.keeps

pub returns-in-Ok-clause-here : goal.returns-in-Ok-clause-here
returns-in-Ok-clause-here g c = sees_seen (place_of g.D.Disk.state g.R.Remember.state c.args.self.now) (place_of g.D.Disk.state g.R.Remember.state c.look_seen.new.self) (g.D.Disk.state c.look.new.disk) c.args.path.now c.in-Ok.meta c.args.slash _ c.in-Ok.ensures.done c.look_seen.ensures.done

pub returns-in-Err-Failed-clause-here : goal.returns-in-Err-Failed-clause-here
returns-in-Err-Failed-clause-here g c = sees_unseen (place_of g.D.Disk.state g.R.Remember.state c.args.self.now) (place_of g.D.Disk.state g.R.Remember.state (record c.args.self.now { disk = c.look.new.disk })) (g.D.Disk.state c.look.new.disk) c.args.path.now c.in-Err-Failed.field-0 c.in-Err-Failed.ensures.done (omega arith)

pub returns-in-Err-clause-here : goal.returns-in-Err-clause-here
returns-in-Err-clause-here g c = sees_unseen (place_of g.D.Disk.state g.R.Remember.state c.args.self.now) (place_of g.D.Disk.state g.R.Remember.state c.look_elsewhere.new.self) (g.D.Disk.state c.look.new.disk) c.args.path.now c.in-Err.field-0 c.in-Err.ensures.done c.look_elsewhere.ensures.keeps.counts

pub returns-in-Ok-clause-above : goal.returns-in-Ok-clause-above
returns-in-Ok-clause-above g c = seeks_seen (LooksAt true c.args.slash) 4 (place_of g.D.Disk.state g.R.Remember.state c.args.self.now) (place_of g.D.Disk.state g.R.Remember.state c.look_seen.new.self) (g.D.Disk.state c.look.new.disk) c.args.path.now c.in-Ok.meta _ c.in-Ok.ensures.done

pub returns-in-Err-Failed-clause-above : goal.returns-in-Err-Failed-clause-above
returns-in-Err-Failed-clause-above g c = seeks_starved (LooksAt true c.args.slash) 4 (place_of g.D.Disk.state g.R.Remember.state c.args.self.now) (place_of g.D.Disk.state g.R.Remember.state (record c.args.self.now { disk = c.look.new.disk })) c.args.path.now _ (omega arith) (few_called 1 (g.D.Disk.state c.args.self.now.disk) (g.D.Disk.state c.look.new.disk) (omega arith) c.in-Err-Failed.ensures.done.asks.asked)

pub returns-in-Err-clause-above : goal.returns-in-Err-clause-above
returns-in-Err-clause-above g c = seeks_later (LooksAt true c.args.slash) (place_of g.D.Disk.state g.R.Remember.state c.args.self.now) (place_of g.D.Disk.state g.R.Remember.state c.look_elsewhere.new.self) (g.D.Disk.state c.look.new.disk) c.args.path.now c.in-Err.field-0 _ c.in-Err.ensures.done c.look_elsewhere.ensures.keeps.counts c.look_elsewhere.ensures.above

pub returns-in-Ok-clause-most : goal.returns-in-Ok-clause-most
returns-in-Ok-clause-most g c = costs_few (1 + 2) 5 (place_of g.D.Disk.state g.R.Remember.state c.args.self.now) (place_of g.D.Disk.state g.R.Remember.state c.look_seen.new.self) c.args.path.now (omega arith) (few_then 1 2 (g.D.Disk.state c.args.self.now.disk) (g.D.Disk.state c.look.new.disk) (g.D.Disk.state c.look_seen.new.self.disk) (looked_few _ _ _ _ c.in-Ok.ensures.done) (seen_few (place_of g.D.Disk.state g.R.Remember.state (record c.args.self.now { disk = c.look.new.disk })) (place_of g.D.Disk.state g.R.Remember.state c.look_seen.new.self) c.args.path.now c.in-Ok.meta c.args.slash _ c.look_seen.ensures.done))

pub returns-in-Err-Failed-clause-most : goal.returns-in-Err-Failed-clause-most
returns-in-Err-Failed-clause-most g c = costs_few 1 5 (place_of g.D.Disk.state g.R.Remember.state c.args.self.now) (place_of g.D.Disk.state g.R.Remember.state (record c.args.self.now { disk = c.look.new.disk })) c.args.path.now (omega arith) (looked_few _ _ _ _ c.in-Err-Failed.ensures.done)

pub returns-in-Err-clause-most : goal.returns-in-Err-clause-most
returns-in-Err-clause-most g c = costs_then 1 4 5 (place_of g.D.Disk.state g.R.Remember.state c.args.self.now) (place_of g.D.Disk.state g.R.Remember.state (record c.args.self.now { disk = c.look.new.disk })) (place_of g.D.Disk.state g.R.Remember.state c.look_elsewhere.new.self) c.args.path.now (omega arith) (looked_few _ _ _ _ c.in-Err.ensures.done) c.look.ensures.keeps c.look_elsewhere.ensures.most
