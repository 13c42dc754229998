use Rattle.std.proofs.Common.{◌+◌, true, arith}
use Rattle.dav_core.proofs.UnchangedLemmas.{keeps_then}
use Rattle.dav_memory.specs.Calls.{Seeing}
use Rattle.dav_local.specs.Calls.{LooksAt, place_of}
use Rattle.dav_local.proofs.Seen.{look_saved, look_starved, look_unknown, finds_refused, finds_unknown, look_recalled}
use Rattle.dav_local.proofs.NearSeen.{asked_recalled, asked_starved, asked_unknown, looks_starved, missed_kept, seeks_recalled, seeks_starved, seeks_unknown, seen_kept, starved_kept}
use Rattle.dav_local.proofs.FromRoot.{costs_few, costs_then}
use Rattle.dav_local.proofs.MostSeen.{seen_few}
use Rattle.dav_local.proofs.Counted.{few_then}
use Rattle.dav_local.proofs.fs.LocalFs.look_alike.Goals as goal

pub returns-in-Ok-Some-clause-done : goal.returns-in-Ok-Some-clause-done
returns-in-Ok-Some-clause-done g c = look_recalled _ _ _ _ c.in-Ok-Some.at c.in-Ok-Some.meta c.args.slash c.in-Ok-Some.field-0 _ c.in-Ok-Some.ensures.done c.in-Ok-Some.field-0-is c.look_seen.ensures.done

pub returns-in-Ok-Some-clause-keeps : goal.returns-in-Ok-Some-clause-keeps
returns-in-Ok-Some-clause-keeps g c = keeps_then _ _ _ c.in-Ok-Some.ensures.keeps c.look_seen.ensures.keeps

pub returns-in-Ok-None-clause-done : goal.returns-in-Ok-None-clause-done
returns-in-Ok-None-clause-done g c = finds_unknown Seeing _ _ _ _ (LooksAt true c.args.slash) c.in-Ok-None.field-0 _ c.in-Ok-None.ensures.done c.in-Ok-None.field-0-is c.look_on_disk.ensures.done

pub returns-in-Ok-None-clause-keeps : goal.returns-in-Ok-None-clause-keeps
returns-in-Ok-None-clause-keeps g c = keeps_then _ _ _ c.in-Ok-None.ensures.keeps c.look_on_disk.ensures.keeps

pub returns-in-Err-clause-done : goal.returns-in-Err-clause-done
returns-in-Err-clause-done g c = finds_refused _ _ _ (LooksAt true c.args.slash) _ c.in-Err.ensures.done

pub returns-in-Ok-Some-clause-saved : goal.returns-in-Ok-Some-clause-saved
returns-in-Ok-Some-clause-saved g c =
    look_saved _ _ _ _ c.in-Ok-Some.at c.in-Ok-Some.meta c.args.slash c.in-Ok-Some.field-0 _ c.in-Ok-Some.ensures.once c.in-Ok-Some.field-0-is c.in-Ok-Some.ensures.stays.0 c.look_seen.ensures.done
    c.in-Ok-Some.ensures.keeps c.look_seen.ensures.keeps

pub returns-in-Ok-None-clause-saved : goal.returns-in-Ok-None-clause-saved
returns-in-Ok-None-clause-saved g c = look_unknown _ (place_of g.D.Disk.state g.R.Remember.state c.recall_seen.new.self) (place_of g.D.Disk.state g.R.Remember.state c.look_on_disk.new.self) _ c.in-Ok-None.field-0 _ c.in-Ok-None.ensures.once c.in-Ok-None.field-0-is c.in-Ok-None.ensures.keeps c.look_on_disk.ensures.keeps

pub returns-in-Err-clause-saved : goal.returns-in-Err-clause-saved
returns-in-Err-clause-saved g c = look_starved _ _ _ _ c.in-Err.ensures.once

pub returns-in-Ok-Some-clause-here : goal.returns-in-Ok-Some-clause-here
returns-in-Ok-Some-clause-here g c = asked_recalled (place_of g.D.Disk.state g.R.Remember.state c.args.self.now) (place_of g.D.Disk.state g.R.Remember.state c.recall_seen.new.self) (place_of g.D.Disk.state g.R.Remember.state c.look_seen.new.self) c.args.path.now c.in-Ok-Some.field-0 (c.in-Ok-Some.at, c.in-Ok-Some.meta) _ c.in-Ok-Some.ensures.unasked c.in-Ok-Some.field-0-is

pub returns-in-Ok-None-clause-here : goal.returns-in-Ok-None-clause-here
returns-in-Ok-None-clause-here g c = asked_unknown (place_of g.D.Disk.state g.R.Remember.state c.args.self.now) (place_of g.D.Disk.state g.R.Remember.state c.recall_seen.new.self) (place_of g.D.Disk.state g.R.Remember.state c.look_on_disk.new.self) c.args.path.now c.in-Ok-None.field-0 _ c.in-Ok-None.ensures.unasked c.in-Ok-None.ensures.stays.0 c.look_on_disk.ensures.here

pub returns-in-Err-clause-here : goal.returns-in-Err-clause-here
returns-in-Err-clause-here g c = asked_starved (place_of g.D.Disk.state g.R.Remember.state c.args.self.now) (place_of g.D.Disk.state g.R.Remember.state c.recall_seen.new.self) c.args.path.now c.in-Err.error c.in-Err.ensures.once

pub returns-in-Ok-Some-clause-above : goal.returns-in-Ok-Some-clause-above
returns-in-Ok-Some-clause-above g c = seeks_recalled (LooksAt true c.args.slash) 4 (place_of g.D.Disk.state g.R.Remember.state c.args.self.now) (place_of g.D.Disk.state g.R.Remember.state c.recall_seen.new.self) (place_of g.D.Disk.state g.R.Remember.state c.look_seen.new.self) c.args.path.now c.in-Ok-Some.field-0 (c.in-Ok-Some.at, c.in-Ok-Some.meta) _ c.in-Ok-Some.ensures.unasked c.in-Ok-Some.field-0-is

pub returns-in-Ok-None-clause-above : goal.returns-in-Ok-None-clause-above
returns-in-Ok-None-clause-above g c = seeks_unknown (LooksAt true c.args.slash) (place_of g.D.Disk.state g.R.Remember.state c.args.self.now) (place_of g.D.Disk.state g.R.Remember.state c.recall_seen.new.self) (place_of g.D.Disk.state g.R.Remember.state c.look_on_disk.new.self) c.args.path.now c.in-Ok-None.field-0 _ c.in-Ok-None.ensures.unasked c.look_on_disk.ensures.above

pub returns-in-Err-clause-above : goal.returns-in-Err-clause-above
returns-in-Err-clause-above g c = seeks_starved (LooksAt true c.args.slash) 4 (place_of g.D.Disk.state g.R.Remember.state c.args.self.now) (place_of g.D.Disk.state g.R.Remember.state c.recall_seen.new.self) c.args.path.now c.in-Err.error (omega arith) (looks_starved (place_of g.D.Disk.state g.R.Remember.state c.args.self.now) (place_of g.D.Disk.state g.R.Remember.state c.recall_seen.new.self) c.args.path.now c.in-Err.error c.in-Err.ensures.once)

pub returns-in-Ok-Some-clause-kept : goal.returns-in-Ok-Some-clause-kept
returns-in-Ok-Some-clause-kept g c = seen_kept (place_of g.D.Disk.state g.R.Remember.state c.args.self.now) (place_of g.D.Disk.state g.R.Remember.state c.recall_seen.new.self) (place_of g.D.Disk.state g.R.Remember.state c.look_seen.new.self) c.args.path.now c.in-Ok-Some.at c.in-Ok-Some.meta c.args.slash c.in-Ok-Some.field-0 _ c.in-Ok-Some.ensures.once c.in-Ok-Some.ensures.unasked c.in-Ok-Some.field-0-is c.in-Ok-Some.ensures.stays.0 c.look_seen.ensures.done c.in-Ok-Some.ensures.keeps c.look_seen.ensures.keeps c.in-Ok-Some.ensures.kept

pub returns-in-Ok-None-clause-kept : goal.returns-in-Ok-None-clause-kept
returns-in-Ok-None-clause-kept g c = missed_kept (place_of g.D.Disk.state g.R.Remember.state c.args.self.now) (place_of g.D.Disk.state g.R.Remember.state c.recall_seen.new.self) (place_of g.D.Disk.state g.R.Remember.state c.look_on_disk.new.self) c.args.path.now c.in-Ok-None.field-0 c.in-Ok-None.ensures.once c.in-Ok-None.ensures.unasked c.in-Ok-None.field-0-is c.in-Ok-None.ensures.stays.0 c.in-Ok-None.ensures.keeps c.look_on_disk.ensures.keeps c.look_on_disk.ensures.here

pub returns-in-Err-clause-kept : goal.returns-in-Err-clause-kept
returns-in-Err-clause-kept g c = starved_kept (place_of g.D.Disk.state g.R.Remember.state c.args.self.now) (place_of g.D.Disk.state g.R.Remember.state c.recall_seen.new.self) c.args.path.now c.in-Err.ensures.kept

pub returns-in-Ok-Some-clause-most : goal.returns-in-Ok-Some-clause-most
returns-in-Ok-Some-clause-most g c = costs_few (1 + 2) 6 (place_of g.D.Disk.state g.R.Remember.state c.args.self.now) (place_of g.D.Disk.state g.R.Remember.state c.look_seen.new.self) c.args.path.now (omega arith) (few_then 1 2 (g.D.Disk.state c.args.self.now.disk) (g.D.Disk.state c.recall_seen.new.self.disk) (g.D.Disk.state c.look_seen.new.self.disk) c.in-Ok-Some.ensures.few (seen_few (place_of g.D.Disk.state g.R.Remember.state c.recall_seen.new.self) (place_of g.D.Disk.state g.R.Remember.state c.look_seen.new.self) c.in-Ok-Some.at c.in-Ok-Some.meta c.args.slash _ c.look_seen.ensures.done))

pub returns-in-Ok-None-clause-most : goal.returns-in-Ok-None-clause-most
returns-in-Ok-None-clause-most g c = costs_then 1 5 6 (place_of g.D.Disk.state g.R.Remember.state c.args.self.now) (place_of g.D.Disk.state g.R.Remember.state c.recall_seen.new.self) (place_of g.D.Disk.state g.R.Remember.state c.look_on_disk.new.self) c.args.path.now (omega arith) c.in-Ok-None.ensures.few c.in-Ok-None.ensures.keeps c.look_on_disk.ensures.most

pub returns-in-Err-clause-most : goal.returns-in-Err-clause-most
returns-in-Err-clause-most g c = costs_few 1 6 (place_of g.D.Disk.state g.R.Remember.state c.args.self.now) (place_of g.D.Disk.state g.R.Remember.state c.recall_seen.new.self) c.args.path.now (omega arith) c.in-Err.ensures.few
