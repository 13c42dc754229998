use Rattle.std.proofs.Common.{ap, refl}
use Rattle.dav_local.proofs.Seen.{sees_once, recalls_nothing, recalls_seen}
use Rattle.dav_memory.specs.Calls.{Seeing}
use Rattle.dav_local.specs.Places.{place_of}
use Rattle.dav_local.proofs.NearFound.{got_unasked}
use Rattle.dav_local.proofs.NearSeen.{asked_kept, unasked_kept}
use Rattle.dav_local.proofs.MostSeen.{got_seen}
use Rattle.dav_local.proofs.Counted.{unasked}
use Rattle.dav_local.proofs.fs.LocalFs.recall_seen.Goals as goal

pub returns-in-Ok-clause-done : goal.returns-in-Ok-clause-done
returns-in-Ok-clause-done g c = recalls_seen _ _ _ _ refl refl c.in-Ok.ensures.done

pub returns-in-Err-clause-done : goal.returns-in-Err-clause-done
returns-in-Err-clause-done g c = recalls_nothing _ _ _ refl refl (ap g.R.Remember.state c.in-Err.ensures.err) c.in-Err.ensures.unasked

pub returns-in-Ok-clause-once : goal.returns-in-Ok-clause-once
returns-in-Ok-clause-once g c = sees_once _ _ _ _ c.in-Ok.ensures.done

pub returns-in-Err-clause-once : goal.returns-in-Err-clause-once
returns-in-Err-clause-once g c = record { starved = (refl, c.in-Err.ensures.unasked); saved = tt }

pub returns-in-Ok-clause-unasked : goal.returns-in-Ok-clause-unasked
returns-in-Ok-clause-unasked g c = got_unasked Seeing (place_of g.D.Disk.state g.R.Remember.state c.args.self.now) (place_of g.D.Disk.state g.R.Remember.state (record c.args.self.now { disk = c.get.new.disk; memory = c.get.new.self })) c.args.path.now c.in-Ok.found c.in-Ok.ensures.done

pub returns-in-Ok-clause-kept : goal.returns-in-Ok-clause-kept
returns-in-Ok-clause-kept g c = asked_kept (place_of g.D.Disk.state g.R.Remember.state c.args.self.now) (place_of g.D.Disk.state g.R.Remember.state (record c.args.self.now { disk = c.get.new.disk; memory = c.get.new.self })) c.args.path.now c.in-Ok.found c.in-Ok.ensures.done

pub returns-in-Err-clause-kept : goal.returns-in-Err-clause-kept
returns-in-Err-clause-kept g c = unasked_kept (place_of g.D.Disk.state g.R.Remember.state c.args.self.now) (place_of g.D.Disk.state g.R.Remember.state (record c.args.self.now { disk = c.get.new.disk; memory = c.get.new.self })) c.args.path.now (ap g.R.Remember.state c.in-Err.ensures.err)

pub returns-in-Ok-clause-few : goal.returns-in-Ok-clause-few
returns-in-Ok-clause-few g c = got_seen _ _ _ _ _ _ c.in-Ok.ensures.done

pub returns-in-Err-clause-few : goal.returns-in-Err-clause-few
returns-in-Err-clause-few g c = unasked 1 _ _ c.in-Err.ensures.unasked
