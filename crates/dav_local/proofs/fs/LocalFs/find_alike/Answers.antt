use Rattle.dav_local.specs.Places.{place_of}
use Rattle.dav_local.specs.Resolving.{found_at}
use Rattle.dav_local.proofs.Found.{unheld_recalled, unheld_unknown, saves_recalled, saves_starved, saves_unknown, walks_recalled, walks_unknown}
use Rattle.dav_local.proofs.NearFound.{once_recalled, once_starved, once_unknown}
use Rattle.dav_local.proofs.FromRoot.{costs_few, costs_then}
use Rattle.std.proofs.Common.{arith}
use Rattle.dav_local.proofs.fs.LocalFs.find_alike.Goals as goal

pub returns-in-Ok-Some-clause-done : goal.returns-in-Ok-Some-clause-done
returns-in-Ok-Some-clause-done g c = walks_recalled _ _ _ _ c.in-Ok-Some.field-0 c.in-Ok-Some.ensures.done c.in-Ok-Some.field-0-is

pub returns-in-Ok-Some-clause-saved : goal.returns-in-Ok-Some-clause-saved
returns-in-Ok-Some-clause-saved g c = λ r stands. saves_recalled _ _ _ _ c.in-Ok-Some.field-0 r c.in-Ok-Some.ensures.done c.in-Ok-Some.field-0-is stands

pub returns-in-Ok-None-clause-done : goal.returns-in-Ok-None-clause-done
returns-in-Ok-None-clause-done g c = walks_unknown _ _ _ _ c.in-Ok-None.field-0 _ c.in-Ok-None.ensures.done c.in-Ok-None.field-0-is c.find_on_disk.ensures.done

pub returns-in-Ok-None-clause-saved : goal.returns-in-Ok-None-clause-saved
returns-in-Ok-None-clause-saved g c = λ r stands. saves_unknown _ _ _ _ c.in-Ok-None.field-0 _ r c.in-Ok-None.ensures.done c.in-Ok-None.field-0-is c.find_on_disk.ensures.done

pub returns-in-Err-clause-saved : goal.returns-in-Err-clause-saved
returns-in-Err-clause-saved g c = λ r stands. saves_starved _ _ _ c.in-Err.error r c.in-Err.ensures.done stands

pub returns-in-Ok-Some-clause-above : goal.returns-in-Ok-Some-clause-above
returns-in-Ok-Some-clause-above g c = unheld_recalled (place_of g.D.Disk.state g.R.Remember.state c.args.self.now) (place_of g.D.Disk.state g.R.Remember.state c.recall.new.self) c.args.path.now _ c.in-Ok-Some.field-0 c.in-Ok-Some.ensures.done c.in-Ok-Some.field-0-is

pub returns-in-Ok-None-clause-above : goal.returns-in-Ok-None-clause-above
returns-in-Ok-None-clause-above g c = unheld_unknown (place_of g.D.Disk.state g.R.Remember.state c.args.self.now) (place_of g.D.Disk.state g.R.Remember.state c.recall.new.self) (place_of g.D.Disk.state g.R.Remember.state c.find_on_disk.new.self) c.args.path.now c.in-Ok-None.field-0 (found_at c.args.path.now c.find_on_disk.result) c.in-Ok-None.ensures.done c.find_on_disk.ensures.above

pub returns-in-Ok-Some-clause-near : goal.returns-in-Ok-Some-clause-near
returns-in-Ok-Some-clause-near g c = once_recalled (place_of g.D.Disk.state g.R.Remember.state c.args.self.now) (place_of g.D.Disk.state g.R.Remember.state c.recall.new.self) c.args.path.now c.in-Ok-Some.at c.in-Ok-Some.field-0 c.in-Ok-Some.ensures.done c.in-Ok-Some.ensures.unasked c.in-Ok-Some.field-0-is

pub returns-in-Ok-None-clause-near : goal.returns-in-Ok-None-clause-near
returns-in-Ok-None-clause-near g c = once_unknown (place_of g.D.Disk.state g.R.Remember.state c.args.self.now) (place_of g.D.Disk.state g.R.Remember.state c.recall.new.self) (place_of g.D.Disk.state g.R.Remember.state c.find_on_disk.new.self) c.args.path.now c.in-Ok-None.field-0 c.find_on_disk.result c.in-Ok-None.ensures.done c.in-Ok-None.ensures.unasked c.in-Ok-None.field-0-is c.find_on_disk.ensures.done.keeps.keeps.counts c.find_on_disk.ensures.here

pub returns-in-Err-clause-near : goal.returns-in-Err-clause-near
returns-in-Err-clause-near g c = once_starved (place_of g.D.Disk.state g.R.Remember.state c.args.self.now) (place_of g.D.Disk.state g.R.Remember.state c.recall.new.self) c.args.path.now c.in-Err.error c.in-Err.ensures.done

pub returns-in-Ok-Some-clause-most : goal.returns-in-Ok-Some-clause-most
returns-in-Ok-Some-clause-most g c = costs_few 1 4 (place_of g.D.Disk.state g.R.Remember.state c.args.self.now) (place_of g.D.Disk.state g.R.Remember.state c.recall.new.self) c.args.path.now (omega arith) c.in-Ok-Some.ensures.few

pub returns-in-Ok-None-clause-most : goal.returns-in-Ok-None-clause-most
returns-in-Ok-None-clause-most g c = costs_then 1 3 4 (place_of g.D.Disk.state g.R.Remember.state c.args.self.now) (place_of g.D.Disk.state g.R.Remember.state c.recall.new.self) (place_of g.D.Disk.state g.R.Remember.state c.find_on_disk.new.self) c.args.path.now (omega arith) c.in-Ok-None.ensures.few c.in-Ok-None.ensures.done.keeps.keeps c.find_on_disk.ensures.most

pub returns-in-Err-clause-most : goal.returns-in-Err-clause-most
returns-in-Err-clause-most g c = costs_few 1 4 (place_of g.D.Disk.state g.R.Remember.state c.args.self.now) (place_of g.D.Disk.state g.R.Remember.state c.recall.new.self) c.args.path.now (omega arith) c.in-Err.ensures.few
