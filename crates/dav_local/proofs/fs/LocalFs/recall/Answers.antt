use Rattle.std.specs.Option.{is_some}
use Rattle.std.proofs.Common.{refl, ap, Some, None, sym}
use Rattle.dav_local.proofs.Recalling.{recalls_found, recalls_none, recalls_starved}
use Rattle.dav_memory.specs.Calls.{Seeing}
use Rattle.dav_core.specs.Path.{Names}
use Rattle.dav_local.specs.Places.{place_of}
use Rattle.dav_local.proofs.NearFound.{missed_as}
use Rattle.dav_local.proofs.MostSeen.{got_seen}
use Rattle.dav_local.proofs.Counted.{unasked}
use Rattle.dav_local.proofs.fs.LocalFs.recall.Goals as goal

pub returns-in-Ok-Some-clause-done : goal.returns-in-Ok-Some-clause-done
returns-in-Ok-Some-clause-done g c = recalls_found _ _ _ _ c.in-Ok-Some.field-0-0-1 c.in-Ok-Some.field-0 refl refl c.in-Ok-Some.ensures.done c.in-Ok-Some.field-0-is

pub returns-in-Ok-None-clause-done : goal.returns-in-Ok-None-clause-done
returns-in-Ok-None-clause-done g c = recalls_none _ _ _ c.in-Ok-None.field-0 refl refl c.in-Ok-None.ensures.done c.in-Ok-None.field-0-is

pub returns-in-Err-clause-done : goal.returns-in-Err-clause-done
returns-in-Err-clause-done g c = recalls_starved _ _ _ refl refl (ap g.R.Remember.state c.in-Err.ensures.err) c.in-Err.ensures.unasked

pub returns-in-Ok-Some-clause-unasked : goal.returns-in-Ok-Some-clause-unasked
returns-in-Ok-Some-clause-unasked g c = missed_as Seeing (place_of g.D.Disk.state g.R.Remember.state c.args.self.now) (place_of g.D.Disk.state g.R.Remember.state (record c.args.self.now { disk = c.get.new.disk; memory = c.get.new.self })) c.args.path.now c.in-Ok-Some.field-0 (Some c.in-Ok-Some.at) (ap is_some (sym c.in-Ok-Some.field-0-is)) c.in-Ok-Some.ensures.done

pub returns-in-Ok-None-clause-unasked : goal.returns-in-Ok-None-clause-unasked
returns-in-Ok-None-clause-unasked g c = missed_as {B = Names} Seeing (place_of g.D.Disk.state g.R.Remember.state c.args.self.now) (place_of g.D.Disk.state g.R.Remember.state (record c.args.self.now { disk = c.get.new.disk; memory = c.get.new.self })) c.args.path.now c.in-Ok-None.field-0 None (ap is_some (sym c.in-Ok-None.field-0-is)) c.in-Ok-None.ensures.done

pub returns-in-Ok-Some-clause-few : goal.returns-in-Ok-Some-clause-few
returns-in-Ok-Some-clause-few g c = got_seen _ _ _ _ _ _ c.in-Ok-Some.ensures.done

pub returns-in-Ok-None-clause-few : goal.returns-in-Ok-None-clause-few
returns-in-Ok-None-clause-few g c = got_seen _ _ _ _ _ _ c.in-Ok-None.ensures.done

pub returns-in-Err-clause-few : goal.returns-in-Err-clause-few
returns-in-Err-clause-few g c = unasked 1 _ _ c.in-Err.ensures.unasked
