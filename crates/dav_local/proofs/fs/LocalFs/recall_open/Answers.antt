use Rattle.std.proofs.Common.{ap, refl}
use Rattle.dav_local.specs.Places.{place_of}
use Rattle.dav_local.proofs.Seen.{lacking_keeps, lacking_once, opens_nothing, opens_once, recalls_opened}
use Rattle.dav_memory.specs.Calls.{Opening}
use Rattle.dav_local.proofs.NearFound.{got_unasked}
use Rattle.dav_local.proofs.MostSeen.{got_open, got_starved}
use Rattle.dav_local.proofs.fs.LocalFs.recall_open.Goals as goal

pub returns-in-Ok-clause-done : goal.returns-in-Ok-clause-done
returns-in-Ok-clause-done g c = (recalls_opened _ _ _ _ refl refl c.in-Ok.ensures.done).0

pub returns-in-Ok-clause-once : goal.returns-in-Ok-clause-once
returns-in-Ok-clause-once g c = opens_once _ _ _ _ c.in-Ok.ensures.done

pub returns-in-Ok-clause-one : goal.returns-in-Ok-clause-one
returns-in-Ok-clause-one g c = (recalls_opened (place_of g.D.Disk.state g.R.Remember.state c.args.self.now) (place_of g.D.Disk.state g.R.Remember.state (record c.args.self.now { disk = c.get_open.new.disk; memory = c.get_open.new.self })) c.args.path.now c.in-Ok.found refl refl c.in-Ok.ensures.done).1

pub returns-in-Err-clause-done : goal.returns-in-Err-clause-done
returns-in-Err-clause-done g c = opens_nothing _ _ _ refl refl (ap g.R.Remember.state c.in-Err.ensures.err) c.in-Err.ensures.starved

pub returns-in-Err-clause-once : goal.returns-in-Err-clause-once
returns-in-Err-clause-once g c = record { starved = lacking_once (place_of g.D.Disk.state g.R.Remember.state c.args.self.now) (place_of g.D.Disk.state g.R.Remember.state (record c.args.self.now { disk = c.get_open.new.disk; memory = c.get_open.new.self })) c.in-Err.ensures.starved; saved = tt }

pub returns-in-Err-clause-one : goal.returns-in-Err-clause-one
returns-in-Err-clause-one g c = lacking_keeps _ _ c.in-Err.ensures.starved

pub returns-in-Ok-clause-unasked : goal.returns-in-Ok-clause-unasked
returns-in-Ok-clause-unasked g c = got_unasked Opening (place_of g.D.Disk.state g.R.Remember.state c.args.self.now) (place_of g.D.Disk.state g.R.Remember.state (record c.args.self.now { disk = c.get_open.new.disk; memory = c.get_open.new.self })) c.args.path.now c.in-Ok.found c.in-Ok.ensures.done

pub returns-in-Ok-clause-few : goal.returns-in-Ok-clause-few
returns-in-Ok-clause-few g c = got_open _ _ _ _ _ _ c.in-Ok.ensures.done

pub returns-in-Err-clause-few : goal.returns-in-Err-clause-few
returns-in-Err-clause-few g c = got_starved _ _ c.in-Err.ensures.starved
